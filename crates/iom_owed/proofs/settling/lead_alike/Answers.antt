use Rattle.std.proofs.Common.{length}
use Rattle.std.proofs.lemmas.Bool.{eqb-true}
use Rattle.iom_owed.proofs.Lists.{one_alone}
use Rattle.iom_owed.proofs.settling.lead_alike.Goals as goal

pub returns : goal.returns
returns c = λ one. one_alone c.args.led.now (eqb-true (length c.args.led.now) 1 one)
