-- What can be seen of a candidate's answer to a step.
use Rattle.std.specs.Prelude.{ℕ, ◌≡◌, Bool, true, false, List, [], Option, Some, None, Result}
use Rattle.std.specs.List.{list_any}
use Rattle.iom_core.specs.Rows.{bare, row}
use Rattle.iom_core.specs.State.{State}
use Rattle.iom_core.specs.Table.{request_of_step}
use Rattle.iom_core.specs.declared.access.Denial.{Denial}
use Rattle.iom_core.specs.declared.step.Step.{Step}
use Rattle.iom_held.specs.Kept.{HasNoneTwice, entries_in}
use Rattle.iom_judge.specs.Candidates.{CandidateView, goes_over, is_any_fit}
use Rattle.iom_judge.specs.Seen.{fits_seen}
use Rattle.iom_judge.specs.declared.possible.Possible.{Possible}
use Rattle.iom_judge.specs.declared.seen.Seen.{Seen}

-- it agrees with the answer to a step whose access goes to one of these places
abbrev pub shows_at : State → Step → Seen → List (Option (Result ℕ Denial)) → Bool
shows_at platform taken seen places = list_any (λ (goes : Option (Result ℕ Denial)). fits_seen ((row platform taken goes).answer, goes) seen) places

abbrev pub can_show : Step → Seen → CandidateView → Bool
can_show taken seen before = shows_at before.platform taken seen (goes_over (bare before.platform) (entries_in before.held) (request_of_step before.platform taken))

-- of one of these
abbrev pub can_any_show : Step → Seen → List CandidateView → Bool
can_any_show taken seen all = list_any (can_show taken seen) all

-- What is told beside whether a step's answer fits: where it doesn't, all that can be seen of these, each once, and else nothing.
abbrev pub IsTold : Step → Option Bool → List CandidateView → List Possible → Type 0
IsTold taken None all list = list ≡ []
IsTold taken (Some true) all list = list ≡ []
IsTold taken (Some false) all list = ((seen : Seen) → is_any_fit seen list ≡ can_any_show taken seen all) × HasNoneTwice list
