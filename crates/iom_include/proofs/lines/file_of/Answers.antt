use Rattle.std.proofs.Common.{◌≤◌, length, ◌∙◌, sym, arith}
use Rattle.iom_text.specs.Words.{words_of}
use Rattle.iom_include.proofs.Naming.{is_by_words, other_word, more_words}
use Rattle.iom_include.proofs.lines.file_of.Goals as goal

pub returns-then-ne : goal.returns-then-ne
returns-then-ne c =
    let short : length c.args.line.now ≤ 512 = omega arith in
    other_word c.in_ok-word.word.now c.in_ok-file.file.now c.as_slice.result.now (words_of c.in_ok-file.more.now) c.as_slice.ensures c.if-ne.ensures
    ∙ sym (is_by_words c.args.line.now c.in_ok-word.word.now c.in_ok-word.rest.now c.in_ok-file.file.now c.in_ok-file.more.now short
    c.in_ok-word.ensures c.in_ok-file.ensures)

pub returns-else-is_over : goal.returns-else-is_over
returns-else-is_over c =
    let short : length c.args.line.now ≤ 512 = omega arith in
    more_words c.in_ok-word.word.now c.in_ok-file.file.now (words_of c.in_ok-file.more.now) c.if-is_over.ensures
    ∙ sym (is_by_words c.args.line.now c.in_ok-word.word.now c.in_ok-word.rest.now c.in_ok-file.file.now c.in_ok-file.more.now short
    c.in_ok-word.ensures c.in_ok-file.ensures)
