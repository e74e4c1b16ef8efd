use Rattle.std.proofs.Common.{drop}
use Rattle.iom_core.specs.State.{state_on}
use Rattle.iom_every.specs.Rows.{bare}
use Rattle.iom_owed.proofs.Alone.{AreTried}
use Rattle.iom_owed.proofs.serving.served_alone.Given as goal

abbrev pub invariant-loop-kept : goal.invariant-loop-kept
invariant-loop-kept g l =
    AreTried l.whole (bare (state_on (g.M.Region.memory l.ram) l.board)) l.request l.tables l.kept-items (drop l.kept-index l.kept-items) l.oldest
