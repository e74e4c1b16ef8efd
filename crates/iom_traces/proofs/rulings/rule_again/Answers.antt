use Rattle.std.proofs.Common.{◌+◌, ◌-◌, replicate, arith}
use Rattle.iom_tool.specs.Parsed.{step_of}
use Rattle.iom_debug.proofs.Remaining.{again}
use Rattle.iom_traces.proofs.Passed.{goes_on, stops}
use Rattle.iom_traces.proofs.rulings.rule_again.Goals as goal

pub returns-then-not-goes_on : goal.returns-then-not-goes_on
returns-then-not-goes_on c =
    let same = again (step_of c.args.actor) c.args.most c.loop-turn._turn c.loop-turn-test.true in
    stops c.args.hides c.args.judge.now c.loop-turn.judge c.rule_unseen.new.judge (replicate c.args.most (step_of c.args.actor)) _ (step_of c.args.actor) c.in_ok-goes_on.goes_on c.in_ok-goes_on.decided
    (rw same at c.loop-turn.invariant.left) (rw c.step_by.ensures at c.in_ok-goes_on.ensures) c.if-not-goes_on.true

pub loop-turn-preserved : goal.loop-turn-preserved
loop-turn-preserved c =
    let same = again (step_of c.args.actor) c.args.most c.loop-turn._turn c.loop-turn-test.true in
    let within = c.loop-turn-test.true in
    record {
      within = omega (arith, within);
      left = goes_on c.args.hides c.args.judge.now c.loop-turn.judge c.rule_unseen.new.judge (replicate c.args.most (step_of c.args.actor))
          (replicate (c.args.most - (c.loop-turn._turn + 1)) (step_of c.args.actor)) (step_of c.args.actor) c.in_ok-goes_on.goes_on c.in_ok-goes_on.decided
          (rw same at c.loop-turn.invariant.left) (rw c.step_by.ensures at c.in_ok-goes_on.ensures) c.if-not-goes_on.false;
    }
