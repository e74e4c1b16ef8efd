use Rattle.iom_queue.specs.Records.{record_of}
use Rattle.iom_bits.specs.Bits.{has_bit}
use Rattle.std.proofs.Common.{arith, rules}
use Rattle.std.proofs.lemmas.Grind.{common_steps}
use Rattle.iom_queue.proofs.record.decode_record.Goals as goal

pub returns-clause-value : goal.returns-clause-value
unfolding record_of has_bit
returns-clause-value c = search rules

pub returns-clause-found : goal.returns-clause-found
unfolding record_of has_bit
returns-clause-found c = grind (arith, common_steps)
