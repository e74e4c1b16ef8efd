-- Steps that nobody saw.
use Rattle.std.specs.Prelude.{ℕ, zero, suc, ◌≡◌, ◌≤◌, ◌++◌, ◌⊎◌, Bool, true, false, List}
use Rattle.iom_choices.specs.Traces.{onward}
use Rattle.iom_core.specs.State.{State}
use Rattle.iom_core.specs.declared.step.Step.{Step}
use Rattle.iom_judge.specs.Candidates.{AreCandidates, AreTooMany, CandidateView, most_candidates}
use Rattle.iom_judge.specs.Covering.{HasNew}
use Rattle.iom_judge.specs.Seen.{unseen}
use Rattle.iom_judge.specs.declared.seen.Seen.{Seen}

-- The IOMMU may have taken a step that nobody saw: these traces, or these and then the step; if there are few enough.
abbrev pub MayHaveTaken : State → List (List (Step × Seen)) → Step → Bool → List CandidateView → List CandidateView → Type 0
MayHaveTaken start traces taken true before after = AreCandidates start (traces ++ onward (taken, unseen) traces) after
MayHaveTaken start traces taken false before after = (after ≡ before) × AreTooMany start (traces ++ onward (taken, unseen) traces)

-- these traces, and then, up to so many times, this step, which nobody saw
abbrev pub up_to : ℕ → Step → List (List (Step × Seen)) → List (List (Step × Seen))
up_to zero taken traces = traces
up_to (suc n) taken traces = traces ++ onward (taken, unseen) (up_to n taken traces)

-- after the step, taken up to so many times, at most 64, they are too many
pub record BecomeTooMany (start : State) (traces : List (List (Step × Seen))) (taken : Step) : Type 0 where
  pub times : ℕ
  pub within : times ≤ most_candidates
  pub many : AreTooMany start (up_to times taken traces)

-- after the step, taken up to 64 times, one time more brings what none of the candidates covers
pub record StillGrow (start : State) (traces : List (List (Step × Seen))) (taken : Step) : Type 0 where
  pub times : ℕ
  pub last : times ≡ most_candidates
  pub list : List CandidateView
  pub more : List CandidateView
  pub are : AreCandidates start (up_to times taken traces) list
  pub next : AreCandidates start (up_to (suc times) taken traces) more
  pub new : HasNew list more

-- The step was taken any number of times: the candidates are the same however often, from 64 times on; or they become too many, or still grow.
abbrev pub IsClosed : State → List (List (Step × Seen)) → Step → Bool → List CandidateView → Type 0
IsClosed start traces taken true after = (n : ℕ) → most_candidates ≤ n → AreCandidates start (up_to n taken traces) after
IsClosed start traces taken false after = BecomeTooMany start traces taken ⊎ StillGrow start traces taken

-- The IOMMU may have taken a step that nobody saw, any number of times. If the candidates become too many, or still grow, they stay as they were.
abbrev pub HasTaken : State → List (List (Step × Seen)) → Step → Bool → List CandidateView → List CandidateView → Type 0
HasTaken start traces taken true before after = IsClosed start traces taken true after
HasTaken start traces taken false before after = (after ≡ before) × IsClosed start traces taken false after
