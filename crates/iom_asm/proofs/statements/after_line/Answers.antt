use Rattle.std.proofs.Common.{◌<◌, length, arith}
use Rattle.iom_text.specs.Words.{words_of}
use Rattle.iom_asm.specs.Drafts.{found_seen}
use Rattle.iom_asm.proofs.Most.{long, too_many}
use Rattle.iom_asm.proofs.statements.after_line.Goals as goal

pub returns-then-len-gt14 : goal.returns-then-len-gt14
returns-then-len-gt14 c there =
    let lt : 14 < length c.words-words.result.items = grind (arith, c.if-len-gt14.true, c.len.ensures.value) in
    too_many c.args.line (found_seen c.args.draft) (words_of c.args.text.now) (long (λ word. word.now) c.words-words.result.items (words_of c.args.text.now) c.words-words.ensures lt)
