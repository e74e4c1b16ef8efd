use Rattle.std.proofs.Common.{◌∙◌}
use Rattle.iom_check.proofs.Reading.{same_names}
use Rattle.iom_check.proofs.Telling.{line_says, told_line}
use Rattle.iom_debug.specs.Placed.{placed}
use Rattle.iom_check.specs.Scores.{score_of}
use Rattle.iom_check.proofs.checking.Checking.judge_line.Goals as goal
use Rattle.iom_check.proofs.checking.Checking.judge_line.Goals.{then-self, else-self}
use Rattle.iom_debug.proofs.Fenced.{noted}

pub returns-clause-said : goal.returns-clause-said
returns-clause-said c =
    let answer = c.carry_out-answer.result.text.items in
    let slip = c.slip_of-slip.result.items in
    let tables = c.tell_stale.new.out.items in
    let elsewhere = c.tell_unsettled.new.out.items in
    let beside = c.tell_beside.new.out.items in
    let both = told_line (score_of c.args.self.now.scoring) (score_of c.judge.new.self) (score_of c.remark.new.self) (placed c.place-self.result)
    c.args.line.now answer slip tables elsewhere beside _ _ _ _ c.stale_request-stale.result c.told_request.result c.clear.ensures
    (rw (c.as_slice.ensures.value, c.as_slice-2.ensures.value, c.as_slice-3.ensures.value, c.as_slice-4.ensures.value) at c.judge.ensures.text)
    (rw (c.as_slice.ensures.value, c.as_slice-2.ensures.value, c.as_slice-3.ensures.value, c.as_slice-4.ensures.value) at c.judge.ensures.score)
    (rw (c.as_slice-5.ensures.value, c.as_slice-6.ensures.value, c.has_ignored.ensures) at c.remark.ensures.text)
    (rw (c.as_slice-5.ensures.value, c.as_slice-6.ensures.value, c.has_ignored.ensures) at c.remark.ensures.score) in
    line_says _ _ c.args.line.now _ answer slip tables elsewhere beside c.stale_request-stale.result c.told_request.result c.carry_out-answer.result.first_owed c.saturating_add-self.result
    (placed c.place-self.result) (score_of c.remark.new.self) c.saturating_add-self.ensures c.place-self.ensures
    (record {
      state = rw c.read-read.ensures.line at c.carry_out-answer.ensures.state;
      trace = rw c.read-read.ensures.line at c.carry_out-answer.ensures.trace;
      stale = rw c.read-read.ensures.line at c.carry_out-answer.ensures.stale;
      along = rw c.read-read.ensures.line at c.carry_out-answer.ensures.along;
      names = c.carry_out-answer.ensures.names ∙ c.read-read.ensures.names;
      marks = rw c.carry_out-answer.ensures.marks at c.note.ensures;
    })
    (rw c.read-read.ensures.line at c.carry_out-answer.ensures.reply)
    (c.slip_of-slip.ensures _ c.read-read.ensures.line (λ bad. c.read-read.ensures.names ∙ same_names _ _ (rw c.read-read.ensures.line at bad)))
    (rw (c.stale-last_stale.ensures, c.carry_out-answer.ensures.marks) at c.tell_stale.ensures.told) (rw (c.unsettled-last_unsettled.ensures, c.last_invalidation-last_invalidation.ensures, c.carry_out-answer.ensures.marks) at c.tell_unsettled.ensures.told)
    (rw (c.beside-last_beside.ensures, c.carry_out-answer.ensures.marks) at c.tell_beside.ensures.told)
    (rw c.stale.ensures at c.stale_request-stale.ensures) (rw c.read-read.ensures.line at c.carry_out-answer.ensures.named)
    (rw (c.unsettled_request-unsettled.ensures, c.unsettled.ensures) at c.told_request.ensures) both.0 both.1

pub returns-clause-looks : goal.returns-clause-looks
returns-clause-looks c =
    let fence = noted c.args.self.now.debugger.reasons.now _ _ _ _ (rw c.read-read.ensures.line at c.carry_out-answer.ensures.stale) in
    elim c.if-self.branch [
      | then-self w ↦ rw w.if-self.true (w.looks-is ∙ w.has_fence-looks.ensures ∙ fence)
      | else-self w ↦ rw w.if-self.false (w.looks-is ∙ w.if-self.false)
    ]
