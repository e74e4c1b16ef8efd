use Rattle.std.proofs.Common.{◌≡◌, ◌⊎◌, ℕ, List, drop}
use Rattle.iom_choices.specs.Systems.{IsAmong}
use Rattle.iom_core.specs.State.{State, state_on}
use Rattle.iom_core.specs.declared.access.Request.{Request}
use Rattle.iom_core.specs.declared.step.Step.{Step}
use Rattle.iom_every.specs.Rows.{bare}
use Rattle.iom_owed.specs.Behind.{KeepsBehind, newest_number}
use Rattle.iom_owed.specs.Notes.{HasRead}
use Rattle.iom_owed.proofs.holdings.Holdings.read_ahead.Given as goal

-- what is kept is still that behind the step, and what was looked at is there
abbrev pub invariant-loop-i : goal.invariant-loop-i
invariant-loop-i g l =
    (l.self.ahead ≡ l.fn.self.ahead)
    × ((ahead : List Request) (start : State) (taken : List (Step × ℕ)) → newest_number taken ≡ l.number →
    KeepsBehind ahead l.fn.self (state_on (g.M.Region.memory l.ram) l.board) start taken →
    KeepsBehind ahead l.self (state_on (g.M.Region.memory l.ram) l.board) start taken
    × ((request : Request) → IsAmong l.self.ahead request →
    HasRead (bare (state_on (g.M.Region.memory l.ram) l.board)) l.number l.self request ⊎ IsAmong (drop l.i l.self.ahead) request))
