use Rattle.iom_ways.proofs.Firsts.{memory_first}
use Rattle.iom_ways.proofs.laws.memory_leads_first.Goals as goal

pub returns : goal.returns
returns c = memory_first
