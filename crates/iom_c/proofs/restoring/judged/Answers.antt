use Rattle.std.proofs.Common.{◌≡◌, ◌∙◌, ◌%◌, arith, length}
use Rattle.std.proofs.lemmas.Result.{err_from_is_err_and}
use Rattle.iom_c.proofs.Saves.{restored_by}
use Rattle.iom_c.proofs.Taken.{whole_saved, words_again}
use Rattle.iom_c.proofs.restoring.judged.Goals as goal

pub returns-clause-saved : goal.returns-clause-saved
returns-clause-saved c =
    restored_by c.in_ok-own.own c.in_ok-owned.owned.value c.args.bytes.now c.in_ok-words.words.items c.deref.result.now
    c.in_ok-words.ensures.words c.deref.ensures.value c.in_ok-own.ensures.words c.in_ok-own.ensures.fit c.in_ok-own.ensures.whole
    c.in_ok-owned.ensures

pub returns-in_err-words-clause-taken : goal.returns-in_err-words-clause-taken
returns-in_err-words-clause-taken c = λ own is running.
    let whole : length c.args.bytes.now % 8 ≡ 0 = omega (arith, whole_saved own c.args.bytes.now is) in
    let p = err_from_is_err_and c.from_residual.result c.from_residual.ensures.1 in rw (p.1, p.2) (c.in_err-words.ensures.memory whole)

pub returns-in_err-own-clause-taken : goal.returns-in_err-own-clause-taken
returns-in_err-own-clause-taken c = λ own is running.
    let p = err_from_is_err_and c.from_residual-in_err-own.result c.from_residual-in_err-own.ensures.1 in
    let words = words_again own c.args.bytes.now c.in_ok-words.words.items is c.in_ok-words.ensures.words
    (rw c.deref.ensures.value at c.in_err-own.ensures.fit) in
    rw (p.1, p.2) (c.in_err-own.ensures.taken own (c.deref.ensures.value ∙ words) running)
