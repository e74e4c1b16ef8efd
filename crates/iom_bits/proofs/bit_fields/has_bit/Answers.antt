use Rattle.iom_bits.specs.Bits.{has_bit}
use Rattle.std.proofs.Common.{arith}
use Rattle.std.proofs.lemmas.Grind.{common_steps}
use Rattle.iom_bits.proofs.bit_fields.has_bit.Goals as goal

pub returns : goal.returns
unfolding has_bit
returns c = grind (arith, common_steps)
