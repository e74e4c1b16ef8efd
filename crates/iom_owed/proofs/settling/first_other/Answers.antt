use Rattle.iom_owed.proofs.Lists.{among_read}
use Rattle.iom_owed.proofs.settling.first_other.Goals as goal

pub returns-then-not-is_alike-clause-found : goal.returns-then-not-is_alike-clause-found
returns-then-not-is_alike-clause-found c = among_read c.args.led.now c.loop-way.way-index c.way-item.result c.way-item.result c.loop-way-test.true c.way-item.is
