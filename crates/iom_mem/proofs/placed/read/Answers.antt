use Rattle.iom_mem.proofs.Bytes.{empty_read}
use Rattle.iom_mem.proofs.WordBytes.{words_hold}
use Rattle.std.proofs.Common.{rules}
use Rattle.iom_mem.proofs.placed.read.Goals as goal

pub returns-in-None-clause-outside : goal.returns-in-None-clause-outside
returns-in-None-clause-outside c = search (rules, empty_read, words_hold)

pub returns-in-None-clause-unchanged : goal.returns-in-None-clause-unchanged
returns-in-None-clause-unchanged c = search (rules, empty_read, words_hold)
