use Rattle.std.proofs.Common.{ℕ, List, ◌++◌, ◌∙◌, ap, append_assoc}
use Rattle.iom_saved.specs.Boards.{board_words}
use Rattle.iom_c.specs.Saves.{place_words}
use Rattle.iom_c.proofs.saving.put_held.Goals as goal

pub returns-clause-words : goal.returns-clause-words
returns-clause-words c =
    c.in_ok-put_board.ensures.words
    ∙ ap (λ (l : List ℕ). l ++ board_words c.board.result.now) c.in_ok-put_place.ensures.words
    ∙ append_assoc c.args.out.now.items (place_words c.args.held.now) (board_words c.board.result.now)
    ∙ ap (λ board. c.args.out.now.items ++ (place_words c.args.held.now ++ board_words board)) c.board.ensures
