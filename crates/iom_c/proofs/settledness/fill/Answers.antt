use Rattle.std.proofs.Common.{◌<◌, length, arith, add-one}
use Rattle.iom_c.specs.Judging.{owed_of}
use Rattle.iom_c.proofs.Filling.{fill_next}
use Rattle.iom_c.proofs.settledness.fill.Goals as goal

pub loop-i-preserved : goal.loop-i-preserved
loop-i-preserved c =
    let some : c.loop-i.i < length c.args.found.now = omega arith in
    let inside : c.loop-i.i < length c.args.out.now = omega arith in
    rw (add-one, c.loop-i.invariant, c.owed_of.ensures) (fill_next owed_of c.args.found.now c.args.out.now c.loop-i.i c.index-found-i.result c.index-found-i.is some inside)
