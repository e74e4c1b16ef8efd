use Rattle.iom_judge.proofs.Each.{among_item}
use Rattle.iom_judge.proofs.thinning.is_covered.Goals as goal

pub returns-then-branch-clause-is : goal.returns-then-branch-clause-is
returns-then-branch-clause-is c = λ found. record {
  other = c.other-item.result;
  among = among_item c.args.all.now c.loop-other.other-index c.other-item.result c.loop-other-test.true c.other-item.is;
  is = c.in_ok-covers.ensures.0 c.if-branch.true;
}
