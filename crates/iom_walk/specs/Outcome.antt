-- How a walk ends: RISC-V Privileged Architecture 1.12, "Virtual Address Translation Process", step 8. A pointer's G is that of
-- all mappings behind it: "Addressing and Memory Protection". The width rule's fault is that of "Sv39: Page-Based 39-bit
-- Virtual-Memory System" and "Guest Physical Address Translation"; a leaf's N that of "Svnapot".
use Rattle.std.specs.Prelude.{ℕ, ◌≡◌, ◌+◌, ◌-◌, ◌*◌, ◌/◌, ◌%◌, ◌^◌, ◌<◌, Bool, true, false, not, List, Option, Some, None, if◌then◌else◌}
use Rattle.std.specs.List.{find, list_any}
use Rattle.iom_bits.specs.declared.causes.Kind.{Kind}
use Rattle.iom_walk.specs.declared.rules.EntryRules.{EntryRules}
use Rattle.iom_walk.specs.declared.source.Got.{Got}
use Rattle.iom_walk.specs.declared.shape.Format.{Format}
use Rattle.iom_walk.specs.declared.shape.Shape.{Shape}
use Rattle.iom_walk.specs.declared.entry.Verdict.TheVariants as verdict
use Rattle.iom_walk.specs.declared.outcome.Leaf.{Leaf}
use Rattle.iom_walk.specs.declared.outcome.Outcome.{Outcome}
use Rattle.iom_walk.specs.declared.outcome.Outcome.TheVariants as outcome
use Rattle.iom_walk.specs.Shape.{levels, is_in_width}
use Rattle.iom_walk.specs.declared.entry.Verdict.{Verdict}
use Rattle.iom_walk.specs.Verdict.{is_pointer, is_global, is_napot, ppn, word_of}
use Rattle.iom_walk.specs.Path.{MetEntry, verdict_on, path_of, IsLongestPath}

-- how many pages a leaf maps: sixteen where N is set
abbrev pub pages_of : ℕ → ℕ → ℕ
pages_of level word = if is_napot word then 2 ^ 4 else 2 ^ (9 * level)

-- the frame of an address under a leaf that maps so many pages: the leaf's PPN, with its low bits those of the address's page number
abbrev pub frame_in : ℕ → ℕ → ℕ → ℕ
frame_in address pages ppn = ppn - ppn % pages + address / 4096 % pages

abbrev pub frame_of : ℕ → ℕ → ℕ → ℕ
frame_of address level word = frame_in address (pages_of level word) (ppn word)

-- the mapping of an address by a leaf of some level
abbrev pub leaf_of : Bool → ℕ → ℕ → ℕ → Leaf
leaf_of global address level word =
    record { frame = frame_of address level word; level = level; global = global; napot = is_napot word }

-- what the entry that isn't a pointer gives
abbrev pub conclude : Bool → ℕ → MetEntry → Verdict → Outcome
conclude global address entry verdict.Outside = outcome.Outside
conclude global address entry verdict.Guest = outcome.Guest entry.place
conclude global address entry verdict.Fault = outcome.Fault
conclude global address entry (verdict.Pointer word) = outcome.Fault
conclude global address entry (verdict.Leaf word) = outcome.Leaf (leaf_of global address entry.level word)

abbrev pub conclude_at : EntryRules → Kind → Bool → ℕ → Option MetEntry → Outcome
conclude_at rules kind global address None = outcome.Fault
conclude_at rules kind global address (Some entry) = conclude global address entry (verdict_on rules kind entry)

-- what the first entry of a path that isn't a pointer gives; the mapping is global where an entry of the path is, the last
-- of which is the leaf
unfoldable pub verdict_on_path : EntryRules → Kind → ℕ → List MetEntry → Outcome
verdict_on_path rules kind address path =
    conclude_at rules kind (list_any (λ entry. is_global (word_of entry.got)) path) address
    (find (λ entry. not (is_pointer (verdict_on rules kind entry))) path)

-- how a walk ends: as its longest path says; an address that breaks the width rule has no path, and is a fault
unfoldable pub outcome_of : (ℕ → Got) → Format → ℕ → ℕ → Kind → Outcome
outcome_of at format root address kind =
    if is_in_width format.shape address then verdict_on_path format.rules kind address (path_of at format root address) else outcome.Fault

-- how a walk ends, in the words of paths: there is a longest one, and every longest one gives this end; or the address breaks the
-- width rule
pub record IsOutcome (at : ℕ → Got) (format : Format) (root address : ℕ) (kind : Kind) (end : Outcome) : Type 0 where
  pub some_path : is_in_width format.shape address ≡ true → (path : List MetEntry) × IsLongestPath at format root address path
  pub of_path : (path : List MetEntry) → is_in_width format.shape address ≡ true → IsLongestPath at format root address path →
      end ≡ verdict_on_path format.rules kind address path
  pub of_none : is_in_width format.shape address ≡ false → end ≡ outcome.Fault

-- the bounds of a mapping
abbrev pub LeafFits : Shape → Outcome → Type 0
LeafFits shape (outcome.Leaf leaf) = (leaf.frame < 2 ^ 44) × (leaf.level < levels shape)
LeafFits shape outcome.Outside = Unit {0}
LeafFits shape (outcome.Guest place) = Unit {0}
LeafFits shape outcome.Fault = Unit {0}
