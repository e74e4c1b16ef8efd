use Rattle.std.proofs.Common.{Bool, true, subst}
use Rattle.iom_judge.specs.Candidates.{IsVerdict}
use Rattle.iom_traces.specs.Rulings.{Hides, IsFollowed, IsRuled}
use Rattle.iom_traces.proofs.Each.{and_ok, if_each}
use Rattle.iom_traces.proofs.rulings.rule.Goals as goal

pub returns-then-branch : goal.returns-then-branch
returns-then-branch c =
    let hidden : Hides c.args.hides c.args.judge.now true c.hide.new.judge =
    subst (λ (few : Bool). Hides c.args.hides c.args.judge.now few c.hide.new.judge) c.if-branch.true c.in_ok-hide.ensures in
    and_ok (λ verdict. IsFollowed c.hide.new.judge c.args.step.now c.args.seen.now verdict c.follow.new.self)
    (λ verdict. IsRuled c.args.hides c.args.judge.now c.args.step.now c.args.seen.now verdict c.follow.new.self) c.follow.result
    (λ verdict followed. (true, c.hide.new.judge, hidden, followed))
    (if_each c.hide.new.judge (λ start traces verdict. IsVerdict start traces (c.args.step.now, c.args.seen.now) verdict c.hide.new.judge c.follow.new.self) c.follow.result c.follow.ensures.judged)
