-- How many pages a leaf maps: as a walk has it, as an invalidation by address has it, and as the entries have it that may be kept of it.
-- RISC-V Privileged Architecture 1.12, "Svnapot"; RISC-V IOMMU Architecture 1.0, "IOTINVAL".
use Rattle.std.specs.Prelude.{ℕ, ◌≡◌, ◌*◌, ◌^◌, false, length}
use Rattle.iom_bits.specs.Features.{Features}
use Rattle.iom_cache.specs.Drops.{leaf_width}
use Rattle.iom_nested.specs.declared.translation.Hit.{Hit}
use Rattle.iom_walk.specs.Outcome.{pages_of}
use Rattle.iom_walk.specs.Verdict.{is_napot}
use Rattle.iom_every.specs.Entries.{Held, has_reserved_form, split}

-- a translation that this leaf gave
pub record IsBy (hit : Hit) (level word : ℕ) : Type 0 where
  pub same_level : hit.level ≡ level
  pub same_napot : hit.napot ≡ is_napot word

-- all three are the same number
pub record HasOneWidth (features : Features) (held : Held) (hit : Hit) : Type 0 where
  pub kept : length (split features held) * 2 ^ (9 * held.level) ≡ pages_of held.level held.word
  pub dropped : 2 ^ leaf_width hit ≡ pages_of held.level held.word

-- So it is of each entry whose form isn't reserved.
abbrev pub WidthsAgree : Type 0
WidthsAgree =
    (features : Features) (held : Held) (hit : Hit) → has_reserved_form features held.level held.word ≡ false → IsBy hit held.level held.word →
    HasOneWidth features held hit
