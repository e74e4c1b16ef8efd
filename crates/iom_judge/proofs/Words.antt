-- Boards with the same words are the same.
use Rattle.std.proofs.Common.{◌≡◌, ◌∙◌, ◌++◌, ℕ, List, [], sym, ap, append-nil}
use Rattle.iom_core.specs.State.{Board}
use Rattle.iom_saved.specs.Boards.{board_words}
use Rattle.iom_saved.specs.Laws.{OneBoard}
use Rattle.iom_saved.specs.Whole.{EachWhole}

pub same_words : (one other : Board) (none nothing words others : List ℕ) → OneBoard → EachWhole one.devices → EachWhole other.devices → none ≡ [] → nothing ≡ [] → words ≡ none ++ board_words one →
    others ≡ nothing ++ board_words other → others ≡ words → other ≡ one
same_words one other none nothing words others law whole own empty clear is are same =
    let first : words ≡ board_words one = is ∙ ap (λ (xs : List ℕ). xs ++ board_words one) empty in
    let second : others ≡ board_words other = are ∙ ap (λ (xs : List ℕ). xs ++ board_words other) clear in
    (law other one [] [] own whole (append-nil (board_words other) ∙ sym second ∙ same ∙ first ∙ sym (append-nil (board_words one)))).0

pub words_same : (one other : Board) (none nothing words others : List ℕ) → none ≡ [] → nothing ≡ [] → words ≡ none ++ board_words one → others ≡ nothing ++ board_words other → other ≡ one → others ≡ words
words_same one other none nothing words others empty clear is are same =
    are ∙ ap (λ (xs : List ℕ). xs ++ board_words other) (clear ∙ sym empty) ∙ ap (λ (board : Board). none ++ board_words board) same ∙ sym is
