-- Clauses of each start and its traces.
use Rattle.std.proofs.Common.{List, Result, Ok, Err, IfOk}
use Rattle.iom_core.specs.State.{State}
use Rattle.iom_core.specs.declared.step.Step.{Step}
use Rattle.iom_judge.specs.Candidates.{AreCandidates, CandidateView}
use Rattle.iom_judge.specs.declared.seen.Seen.{Seen}

pub if_each : {A E : Type 0} (before : List CandidateView) (Q : State → List (List (Step × Seen)) → A → Type 0) (r : Result A E) →
    ((start : State) (traces : List (List (Step × Seen))) → AreCandidates start traces before → IfOk r (Q start traces)) →
    IfOk r (λ a. (start : State) (traces : List (List (Step × Seen))) → AreCandidates start traces before → Q start traces a)
if_each before Q (Ok a) h = h
if_each before Q (Err e) h = tt

pub and_ok : {A E : Type 0} (P Q : A → Type 0) (r : Result A E) → ((a : A) → P a → Q a) → IfOk r P → IfOk r Q
and_ok P Q (Ok a) so h = so a h
and_ok P Q (Err e) so h = tt
