use Rattle.std.proofs.Common.{◌∙◌, sym}
use Rattle.iom_judge.proofs.Words.{same_words, words_same}
use Rattle.iom_judge.proofs.covering.is_same_board.Goals as goal

pub returns : goal.returns
returns c = (
  λ same. same_words c.args.one.now c.args.other.now c.new-words.result.items c.new-others.result.items c.put_board.new.out.items c.put_board-2.new.out.items c.words_tell_apart.ensures.board
      c.in_ok-put_board.ensures.whole c.in_ok-put_board-2.ensures.whole c.new-words.ensures.items c.new-others.ensures.items c.in_ok-put_board.ensures.words c.in_ok-put_board-2.ensures.words
      (sym c.deref-2.ensures.value ∙ c.is_same_list.ensures.0 same ∙ c.deref.ensures.value),
  λ is. c.is_same_list.ensures.1 (c.deref-2.ensures.value
      ∙ words_same c.args.one.now c.args.other.now c.new-words.result.items c.new-others.result.items c.put_board.new.out.items c.put_board-2.new.out.items
      c.new-words.ensures.items c.new-others.ensures.items c.in_ok-put_board.ensures.words c.in_ok-put_board-2.ensures.words is ∙ sym c.deref.ensures.value),
)
