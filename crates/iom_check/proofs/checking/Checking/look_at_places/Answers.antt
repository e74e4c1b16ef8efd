use Rattle.std.proofs.Common.{◌∙◌, arith}
use Rattle.std.proofs.lemmas.Result.{err_from_is_err_and}
use Rattle.iom_check.proofs.Looks.{breaks_off, finishes, goes_on}
use Rattle.iom_check.proofs.checking.Checking.look_at_places.Goals as goal

pub loop-i-preserved : goal.loop-i-preserved
loop-i-preserved g c = record {
  within = omega arith;
  can = c.in_ok-look_at.ensures.told;
  same_writer = c.in_ok-look_at.ensures.same_writer ∙ c.loop-i.invariant.same_writer;
  number = c.in_ok-look_at.ensures.number ∙ c.loop-i.invariant.number;
  place = c.in_ok-look_at.ensures.place ∙ c.loop-i.invariant.place;
  debugger = c.in_ok-look_at.ensures.debugger ∙ c.loop-i.invariant.debugger;
  on = goes_on _ _ _ _ _ _ _ _ _ _ _ c.loop-i.invariant.on c.loop-i-test.true
      (rw (c.loop-i.invariant.place, c.loop-i.invariant.debugger) at c.in_ok-look_at.ensures.ok)
      (rw (c.loop-i.invariant.place, c.loop-i.invariant.debugger) at c.in_ok-look_at.ensures.score);
}

pub returns-in_err-look_at-clause-front : goal.returns-in_err-look_at-clause-front
returns-in_err-look_at-clause-front g c =
    let p = err_from_is_err_and c.from_residual.result c.from_residual.ensures.1 in
    rw p.1 (breaks_off _ _ _ _ _ _ _ _ _ _ c.loop-i.invariant.on c.loop-i-test.true
    (rw (c.loop-i.invariant.place, c.loop-i.invariant.debugger) at c.in_err-look_at.ensures.front))

pub returns-clause-ok : goal.returns-clause-ok
returns-clause-ok g c = (finishes _ _ _ _ _ _ _ _ _ c.loop-i.invariant.on (omega arith)).0

pub returns-clause-score : goal.returns-clause-score
returns-clause-score g c = (finishes _ _ _ _ _ _ _ _ _ c.loop-i.invariant.on (omega arith)).1
