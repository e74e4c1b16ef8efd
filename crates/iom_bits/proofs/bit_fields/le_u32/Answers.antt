use Rattle.std.proofs.Common.{arith}
use Rattle.std.proofs.lemmas.Grind.{common_steps}
use Rattle.iom_bits.proofs.bit_fields.le_u32.Goals as goal

pub returns : goal.returns
returns c = grind (arith, common_steps)
