use Rattle.std.proofs.Common.{◌++◌, ◌∙◌, [], append-nil, ap, arith, length, sym}
use Rattle.std.proofs.lemmas.Result.{err_from_is_err_and}
use Rattle.iom_c.specs.Saves.{held_words, told_words}
use Rattle.iom_c.proofs.restoring.take_owned.Goals as goal

pub returns-in_err-held-clause-taken : goal.returns-in_err-held-clause-taken
returns-in_err-held-clause-taken c = λ own are running.
    let count = c.in-Some.ensures.taken own.count (told_words own.told ++ held_words own.held) are in
    let told = c.in_ok-told.ensures.taken own.told (held_words own.held) count.1 running.history in
    let p = err_from_is_err_and c.from_residual-in_err-held.result c.from_residual-in_err-held.ensures.1 in
    rw (p.1, p.2) (c.in_err-held.ensures.taken own.held [] (told ∙ sym (append-nil (held_words own.held))) running.memory running.board)

pub returns-then-len-gt0-clause-taken : goal.returns-then-len-gt0-clause-taken
returns-then-len-gt0-clause-taken c = λ own are running.
    let count = c.in-Some.ensures.taken own.count (told_words own.told ++ held_words own.held) are in
    let told = c.in_ok-told.ensures.taken own.told (held_words own.held) count.1 running.history in
    let left = c.in_ok-held.ensures.taken own.held [] (told ∙ sym (append-nil (held_words own.held))) running.memory running.board in
    absurd (omega (arith, c.len.ensures, ap length left, c.if-len-gt0.true))
