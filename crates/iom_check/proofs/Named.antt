-- Lines that are named as they stand.
use Rattle.std.proofs.Common.{◌≡◌, ◌++◌, ℕ, Option, Some, None, refl}
use Rattle.std.specs.Option.{option_map}
use Rattle.iom_debug.specs.Invalidations.{invalidation_text}
use Rattle.iom_debug.specs.Marks.{MarksView, named_at, place_of}
use Rattle.iom_debug.specs.Places.{IsNamedIf}
use Rattle.iom_debug.specs.Settling as settling
use Rattle.iom_debug.specs.Settling.{elsewhere_at, elsewhere_text}
use Rattle.iom_debug.specs.declared.invalidations.Invalidation.{Invalidation}
use Rattle.iom_owed.specs.Settled.{read_number}
use Rattle.iom_owed.specs.declared.settling.Unsettled.{Unsettled}
use Rattle.iom_check.specs.Judging.{IsInvalidationTold}

pub named_if : (marks : MarksView) (number : Option ℕ) → IsNamedIf (Some (place_of marks)) number (option_map (named_at marks) number)
named_if marks None = refl
named_if marks (Some number) = (named_at marks number, (place_of marks number, refl, refl), refl)

-- what is told of invalidations
pub told_at : (marks : MarksView) (last : Option Invalidation) (found : Unsettled) →
    IsInvalidationTold (Some (place_of marks)) last found (invalidation_text (named_at marks) last found.serving)
told_at marks last found = (named_at marks, λ number. (place_of marks number, refl, refl), refl)

-- where a request may be led, and what is told of invalidations
pub both_named : (marks : MarksView) (last : Option Invalidation) (found : Unsettled) (iova : ℕ) → elsewhere_at marks last found iova
    ≡ elsewhere_text (option_map (named_at marks) (read_number found.serving)) found iova ++ invalidation_text (named_at marks) last found.serving
unfolding settling.elsewhere_at
both_named marks last found iova = refl
