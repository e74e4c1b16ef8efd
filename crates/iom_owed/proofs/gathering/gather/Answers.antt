use Rattle.std.proofs.Common.{refl, sym}
use Rattle.iom_core.specs.State.{State, state_on}
use Rattle.iom_every.specs.Rows.{bare}
use Rattle.iom_held.specs.Kept.{entries_in}
use Rattle.iom_owed.proofs.Followed.{gathered_led, gathered_reads}
use Rattle.iom_owed.proofs.Results.{on_ok}
use Rattle.iom_owed.proofs.gathering.gather.Goals as goal

pub returns-clause-led : goal.returns-clause-led
returns-clause-led g c =
    let state : State = bare (state_on (g.M.Region.memory c.args.ram.now) c.args.board.now) in
    on_ok c.put_ways.result _ _ (gathered_led (entries_in c.args.held.now) state c.args.request.now _ _ c.clear.ensures.items) (c.put_ways.ensures state refl (sym c.registers.ensures))

pub returns-clause-reads : goal.returns-clause-reads
returns-clause-reads g c =
    let state : State = bare (state_on (g.M.Region.memory c.args.ram.now) c.args.board.now) in
    on_ok c.put_ways.result _ _ (gathered_reads (entries_in c.args.held.now) state c.args.request.now _ _ c.clear-2.ensures.items) (c.put_ways.ensures state refl (sym c.registers.ensures))
