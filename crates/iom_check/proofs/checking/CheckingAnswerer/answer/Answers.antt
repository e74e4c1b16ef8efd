use Rattle.std.proofs.Common.{ap}
use Rattle.std.proofs.lemmas.Result.{err_from_is_err_and}
use Rattle.iom_debug.specs.Desks.{desk_of}
use Rattle.iom_check.proofs.Telling.{breaks_alone, told_behind}
use Rattle.iom_check.specs.Drives.{checked_by}
use Rattle.iom_debug.specs.Placed.{placed}
use Rattle.iom_check.proofs.checking.CheckingAnswerer.answer.Goals as goal

pub returns-in_err-write_told-clause-next : goal.returns-in_err-write_told-clause-next
returns-in_err-write_told-clause-next g c =
    let p = err_from_is_err_and c.from_residual.result c.from_residual.ensures.1 in
    rw p.1 (breaks_alone c.args.line.now c.first_bytes-line.result.now _ _ _ p.0 c.first_bytes-line.ensures.bytes c.judge_line-looks.ensures.said
    (rw c.as_slice.ensures.value at c.in_err-write_told.ensures.front))

pub returns-clause-next : goal.returns-clause-next
returns-clause-next g c =
    told_behind c.args.line.now c.first_bytes-line.result.now _ c.judge_line-looks.result _ _ (checked_by c.judge_line-looks.new.self) _ c.look_if.result
    c.first_bytes-line.ensures.bytes c.judge_line-looks.ensures.said c.judge_line-looks.ensures.looks
    (rw c.as_slice.ensures.value at c.in_ok-write_told.ensures.ok) c.look_if.ensures.ok c.look_if.ensures.front c.look_if.ensures.score
    c.look_if.ensures.same
    (record {
      desk = ap (λ d. desk_of d) c.look_if.ensures.debugger;
      number = c.look_if.ensures.number;
      place = ap (λ p. placed p) c.look_if.ensures.place;
    })
