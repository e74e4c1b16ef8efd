use Rattle.std.proofs.Common.{◌∙◌, refl, arith}
use Rattle.iom_check.proofs.Owed.{begins, finishes, goes_on}
use Rattle.iom_check.proofs.checking.Checking.tell_all.Goals as goal

pub loop-each-init : goal.loop-each-init
loop-each-init g c = record {
  can = c.requires;
  same_writer = refl;
  number = refl;
  place = refl;
  debugger = refl;
  on = begins _ _ _ _ _ _;
}

pub loop-each-preserved : goal.loop-each-preserved
loop-each-preserved g c = record {
  can = c.in_ok-tell_one.ensures.told;
  same_writer = c.in_ok-tell_one.ensures.same_writer ∙ c.loop-each.invariant.same_writer;
  number = c.in_ok-tell_one.ensures.number ∙ c.loop-each.invariant.number;
  place = c.in_ok-tell_one.ensures.place ∙ c.loop-each.invariant.place;
  debugger = c.in_ok-tell_one.ensures.debugger ∙ c.loop-each.invariant.debugger;
  on = goes_on _ _ _ _ _ _ _ _ _ _ _ _ c.loop-each.invariant.on c.loop-each-test.true c.each-item.is
      (rw (c.loop-each.invariant.place, c.loop-each.invariant.debugger) at c.in_ok-tell_one.ensures.ok);
}

pub returns-clause-ok : goal.returns-clause-ok
returns-clause-ok g c = finishes _ _ _ _ _ _ _ _ _ c.loop-each.invariant.on (omega arith)
