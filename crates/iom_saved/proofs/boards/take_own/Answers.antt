use Rattle.std.proofs.Common.{refl, arith}
use Rattle.std.proofs.lemmas.Result.{err_from_is_err_and}
use Rattle.iom_saved.proofs.boards.take_own.Goals as goal

pub returns-in_err-device-clause-taken : goal.returns-in_err-device-clause-taken
returns-in_err-device-clause-taken c = λ own rest are is.
    let did = c.in-Some.ensures.taken own.0 _ are (omega (arith, is.0)) in
    let p = err_from_is_err_and c.from_residual.result c.from_residual.ensures.1 in rw (p.1, p.2) (c.in_err-device.ensures.taken own.1 rest did.1 is.1)

pub returns-clause-taken : goal.returns-clause-taken
returns-clause-taken c = λ own rest are is.
    let did = c.in-Some.ensures.taken own.0 _ are (omega (arith, is.0)) in
    let device = c.in_ok-device.ensures.taken own.1 rest did.1 is.1 in
    (rw (did.0, device.0) refl, device.1)
