use Rattle.std.proofs.Common.{◌∙◌, ap}
use Rattle.iom_blk.specs.Device.{Device}
use Rattle.iom_blk.proofs.Breaks.{written_reason}
use Rattle.iom_blk.proofs.device.Blk.reg_write.Goals as goal

pub returns-then-off-lt-CONFIG-clause-reason : goal.returns-then-off-lt-CONFIG-clause-reason
returns-then-off-lt-CONFIG-clause-reason c = λ no_reset.
    ap (λ (device : Device). device.broken) c.set.ensures ∙ written_reason c.args.self.now c.args.off c.args.value no_reset
