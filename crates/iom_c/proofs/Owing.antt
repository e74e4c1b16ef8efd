-- What is owed, if nothing is read ahead.
use Rattle.std.proofs.Common.{ℕ, List, []}
use Rattle.std.specs.Prelude.{IfOk, Result, Ok, Err}
use Rattle.iom_core.specs.State.{State}
use Rattle.iom_core.specs.declared.step.Step.{Step}
use Rattle.iom_owed.specs.Holdings.{HoldingsView, Keeps}
use Rattle.iom_owed.specs.Newest.{steps_of}
use Rattle.iom_owed.specs.Settled.{AreOwed}
use Rattle.iom_owed.specs.declared.settling.Owed.{Owed}
use Rattle.iom_c.specs.Judging.{AreOwedBy}

pub owed_of : {V E : Type 0} (result : Result V E) (items : V → List Owed) (holdings : HoldingsView) (state : State) →
    ((start : State) (taken : List (Step × ℕ)) → Keeps [] holdings state start taken → IfOk result (λ owed. AreOwed [] holdings start (steps_of taken) (items owed))) →
    IfOk result (λ owed. AreOwedBy holdings state (items owed))
owed_of (Ok owed) items holdings state h = h
owed_of (Err why) items holdings state h = tt
