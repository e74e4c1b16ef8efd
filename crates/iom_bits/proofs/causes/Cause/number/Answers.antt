use Rattle.std.proofs.Common.{rules}
use Rattle.iom_bits.proofs.causes.Cause.number.Goals as goal

pub returns-in-Guest-Read : goal.returns-in-Guest-Read
returns-in-Guest-Read c = search rules

pub returns-in-Guest-Write : goal.returns-in-Guest-Write
returns-in-Guest-Write c = search rules
