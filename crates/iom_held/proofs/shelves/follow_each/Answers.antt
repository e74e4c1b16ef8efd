use Rattle.std.proofs.Common.{arith, get_or}
use Rattle.std.proofs.lemmas.Option.{slice_get-get_or}
use Rattle.iom_held.proofs.Forgotten.{left_all, left_in_place, left_step}
use Rattle.iom_held.proofs.shelves.follow_each.Goals as goal

pub loop-i-preserved : goal.loop-i-preserved
loop-i-preserved c =
    left_step c.args.number c.args.command.now c.loop-i.i c.args.shelves.now c.loop-i.shelves (get_or c.loop-i.shelves c.loop-i.i c.index-shelves-i.result) c.follow.new.kept
    c.loop-i.invariant (slice_get-get_or c.loop-i.shelves c.loop-i.i c.index-shelves-i.result (omega (arith, c.loop-i-test.true, c.loop-i.auto.shelves))) c.follow.ensures

pub returns-clause-in_place : goal.returns-clause-in_place
returns-clause-in_place c =
    left_in_place c.args.number c.args.command.now c.loop-i.i c.args.shelves.now c.loop-i.shelves c.loop-i.invariant c.requires.in_place

pub returns-clause-left : goal.returns-clause-left
returns-clause-left c =
    left_all c.args.number c.args.command.now c.loop-i.i c.args.shelves.now c.loop-i.shelves c.loop-i.invariant c.loop-i-test.false
