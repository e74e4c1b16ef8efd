use Rattle.iom_mem.proofs.WordBytes.{words_hold}
use Rattle.std.proofs.Common.{rules}
use Rattle.iom_mem.proofs.placed.size.Goals as goal

pub returns-clause-value : goal.returns-clause-value
returns-clause-value c = search (rules, words_hold)
