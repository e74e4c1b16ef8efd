use Rattle.iom_queue.specs.Records.{record_of}
use Rattle.iom_bits.specs.Bits.{has_bit}
use Rattle.std.proofs.Common.{rules}
use Rattle.iom_queue.proofs.record.encode_record.Goals as goal

pub returns-clause-words : goal.returns-clause-words
unfolding record_of has_bit
returns-clause-words c = search rules

pub returns-clause-decodes : goal.returns-clause-decodes
unfolding record_of has_bit
returns-clause-decodes c = search rules
