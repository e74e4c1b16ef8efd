-- Steps that were taken, newest first, each with its number.
use Rattle.std.specs.Prelude.{ℕ, List, map}
use Rattle.iom_core.specs.declared.step.Step.{Step}

abbrev pub steps_of : List (Step × ℕ) → List Step
steps_of taken = map (λ (each : Step × ℕ). each.0) taken
