use Rattle.std.proofs.Common.{None, subst}
use Rattle.iom_debug.specs.Settling.{SettlesBehind, SettlingView}
use Rattle.iom_debug.proofs.settling.Settling.take.Goals as goal

pub returns-then-not-self : goal.returns-then-not-self
returns-then-not-self c =
    let settles : SettlesBehind (record c.args.self.now { last = None; last_beside = None }) c.args.platform.now c.args.step.now c.args.number c.take_known.new.self =
    subst (λ (settling : SettlingView). SettlesBehind (record settling { last = None; last_beside = None }) c.args.platform.now c.args.step.now c.args.number c.take_known.new.self)
    c.self.view_is c.take_known.ensures in record {
      told = settles.told;
      told_beside = settles.told_beside;
      lost = settles.lost;
      judged = settles.judged;
      beside = settles.beside;
      keeps = settles.keeps;
    }
