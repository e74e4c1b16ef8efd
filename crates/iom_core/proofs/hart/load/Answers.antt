use Rattle.std.proofs.Common.{◌≡◌, true, arith}
use Rattle.std.proofs.lemmas.Grind.{common_steps}
use Rattle.iom_core.specs.Table.{is_aligned}
use Rattle.iom_core.proofs.Loads.{loaded}
use Rattle.iom_core.proofs.hart.load.Goals as goal

pub returns-then-read : goal.returns-then-read
returns-then-read g c =
    let aligned : is_aligned c.args.addr c.args.size ≡ true = grind (arith, common_steps) in
    loaded (g.M.Region.memory c.args.ram.now) c.args.addr c.args.size c.read.new.out c.le_u64.result aligned c.if-read.ensures.read c.le_u64.ensures
