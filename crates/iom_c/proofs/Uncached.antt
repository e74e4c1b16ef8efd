-- Caches without a place hold nothing.
use Rattle.std.proofs.Common.{◌≡◌, ℕ, false, List, [], ◌∷◌, length, Option, arith}
use Rattle.iom_cache.specs.Places.{NoneLive}
use Rattle.iom_core.specs.Warrants.{IsUncached}
use Rattle.iom_c.specs.Handles.{board_of, state_in}
use Rattle.iom_c.specs.Judging.{has_places}
use Rattle.iom_c.specs.declared.held.Held.{Held}
use Rattle.iom_c.specs.declared.held.Held.TheVariants as held

none_live : {K V : Type 0} (places : List (Option (K × V))) → length places ≡ 0 → NoneLive places
none_live [] empty = tt
none_live (place ∷ places) empty = absurd (omega (arith, empty))

pub uncached : (held : Held) (words : List ℕ) → has_places (board_of held) ≡ false → IsUncached (state_in held words)
uncached (held.Own platform) words placeless = record {
  contexts = none_live platform.machine.contexts (grind (arith, placeless));
  pages = none_live platform.machine.pages (grind (arith, placeless));
}
uncached (held.Lent lent) words placeless = record {
  contexts = none_live lent.board.iommu.contexts (grind (arith, placeless));
  pages = none_live lent.board.iommu.pages (grind (arith, placeless));
}
