use Rattle.std.proofs.Common.{ℕ, List, drop}
use Rattle.iom_core.specs.State.{State, state_on}
use Rattle.iom_core.specs.declared.access.Request.{Request}
use Rattle.iom_core.specs.declared.step.Step.{Step}
use Rattle.iom_owed.specs.Holdings.{Keeps}
use Rattle.iom_owed.specs.Newest.{steps_of}
use Rattle.iom_owed.proofs.Judged.{IsOwedBut}
use Rattle.iom_owed.proofs.holdings.Holdings.owed.Given as goal

-- the requests that remain are yet to be looked at
abbrev pub invariant-loop-i : goal.invariant-loop-i
invariant-loop-i g l = (ahead : List Request) (start : State) (taken : List (Step × ℕ)) → Keeps ahead l.self (state_on (g.M.Region.memory l.ram) l.board) start taken →
    IsOwedBut ahead l.self start (steps_of taken) (drop l.i l.self.requests) l.owed.items
