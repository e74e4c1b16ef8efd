use Rattle.iom_mem.proofs.WordBytes.{words_hold}
use Rattle.std.proofs.Common.{rules}
use Rattle.iom_mem.proofs.placed.word.Goals as goal

pub returns : goal.returns
returns c = search (rules, words_hold)
