use Rattle.std.proofs.lemmas.Result.{err_from_is_err_and}
use Rattle.iom_c.proofs.restoring.take_lent.Goals as goal

pub returns-in_err-board-clause-taken : goal.returns-in_err-board-clause-taken
returns-in_err-board-clause-taken c = λ lent rest are lendable board.
    let place = c.in-Some.ensures.taken lent.base lent.count _ are in
    let p = err_from_is_err_and c.from_residual.result c.from_residual.ensures.1 in
    rw (p.1, p.2) (c.in_err-board.ensures.taken lent.board rest place.2 board)

pub returns-clause-taken : goal.returns-clause-taken
returns-clause-taken c = λ lent rest are lendable board.
    let place = c.in-Some.ensures.taken lent.base lent.count _ are in
    (c.in_ok-board.ensures.taken lent.board rest place.2 board).1
