use Rattle.std.proofs.Common.{refl}
use Rattle.iom_judge.proofs.Each.{among_item}
use Rattle.iom_judge.proofs.including.has_kept.Goals as goal

pub returns-then-is_as_good : goal.returns-then-is_as_good
returns-then-is_as_good c = (
  λ found. record {
    own = c.own-item.result;
    among = among_item c.args.all.now c.loop-own.own-index c.own-item.result c.loop-own-test.true c.own-item.is;
    good = c.is_as_good.ensures.0 c.if-is_as_good.true;
  },
  λ held. refl,
)
