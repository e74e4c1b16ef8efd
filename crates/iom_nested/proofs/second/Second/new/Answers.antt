use Rattle.std.proofs.Common.{rules}
use Rattle.iom_nested.proofs.second.Second.new.Goals as goal

pub returns : goal.returns
returns g c = search rules
