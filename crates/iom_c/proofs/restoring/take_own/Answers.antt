use Rattle.std.proofs.Common.{◌++◌}
use Rattle.std.proofs.lemmas.Result.{err_from_is_err_and}
use Rattle.iom_saved.specs.Boards.{board_words}
use Rattle.iom_saved.specs.Bytes.{memory_words}
use Rattle.iom_saved.proofs.Lists.{split_two}
use Rattle.iom_c.proofs.restoring.take_own.Goals as goal

pub returns-in_err-board-clause-taken : goal.returns-in_err-board-clause-taken
returns-in_err-board-clause-taken c = λ m b rest are memory board.
    let ram = c.in_ok-ram.ensures.taken m (board_words b ++ rest) (split_two _ (memory_words m) (board_words b) rest are) memory in
    let p = err_from_is_err_and c.from_residual-in_err-board.result c.from_residual-in_err-board.ensures.1 in
    rw (p.1, p.2) (c.in_err-board.ensures.taken b rest ram.1 board)

pub returns-clause-taken : goal.returns-clause-taken
returns-clause-taken c = λ m b rest are memory board.
    let ram = c.in_ok-ram.ensures.taken m (board_words b ++ rest) (split_two _ (memory_words m) (board_words b) rest are) memory in
    (c.in_ok-board.ensures.taken b rest ram.1 board).1
