use Rattle.iom_asm.specs.Assembly.{assembled}
use Rattle.std.proofs.Common.{rules}
use Rattle.iom_asm.proofs.assembling.assemble.Goals as goal

pub returns : goal.returns
unfolding assembled
returns c = search rules
