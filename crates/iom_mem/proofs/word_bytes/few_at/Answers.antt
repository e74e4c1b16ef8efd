use Rattle.std.proofs.Common.{arith}
use Rattle.iom_mem.proofs.WordBytes.{one_word, two_words}
use Rattle.iom_mem.proofs.word_bytes.few_at.Goals as goal

pub returns-then-at-count-le8 : goal.returns-then-at-count-le8
returns-then-at-count-le8 c = one_word c.args.words.now c.args.at c.args.count (omega arith) c.requires.within

pub returns-else-at-count-le8 : goal.returns-else-at-count-le8
returns-else-at-count-le8 c =
    two_words c.args.words.now c.args.at c.args.count c.joined.result (omega arith) (omega arith) c.requires.within c.joined.ensures.low c.joined.ensures.value
