use Rattle.std.proofs.Common.{arith}
use Rattle.iom_debug.proofs.Remaining.{stored}
use Rattle.iom_traces.proofs.Passed.{stops}
use Rattle.iom_traces.proofs.rulings.rule_stores.Goals as goal

pub returns-then-not-goes_on : goal.returns-then-not-goes_on
returns-then-not-goes_on c =
    let same = stored c.args.addr c.args.words.now c.loop-i.i (omega arith) in
    stops c.args.hides c.args.judge.now c.loop-i.judge c.rule_unseen.new.judge _ _ _ c.in_ok-goes_on.goes_on c.in_ok-goes_on.decided
    (rw same at c.loop-i.invariant) c.in_ok-goes_on.ensures c.if-not-goes_on.true
