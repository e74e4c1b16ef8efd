use Rattle.std.proofs.Common.{◌≡◌, ◌∙◌, ◌+◌, sym, refl, arith, rules}
use Rattle.iom_debug.proofs.Remaining.{all_stored, begins, ends, goes_on, stops, stored, was_false, was_true}
use Rattle.iom_debug.proofs.debugger.Debugger.store_all.Goals as goal

pub loop-i-init : goal.loop-i-init
loop-i-init c =
    let first : c.args.addr + 0 ≡ c.args.addr = omega arith in
    record { same = refl; left = rw first (begins _ _ _) }

pub loop-i-preserved : goal.loop-i-preserved
loop-i-preserved c =
    let same = stored c.args.addr c.args.words.now c.loop-i.i (omega arith) in
    record {
      same = search rules;
      left = goes_on _ _ _ _ _ _ _ _ (rw same at c.loop-i.invariant.left) c.take-answered.ensures.took
          (sym c.take-answered.ensures.done ∙ was_true _ c.if-not-answered.false);
    }

pub returns-then-not-answered-clause-took : goal.returns-then-not-answered-clause-took
returns-then-not-answered-clause-took c =
    let same = stored c.args.addr c.args.words.now c.loop-i.i (omega arith) in
    let stopped = stops _ _ _ _ _ _ _ _ (rw same at c.loop-i.invariant.left) c.take-answered.ensures.took
    (sym c.take-answered.ensures.done ∙ was_false _ c.if-not-answered.true) in
    stopped.took

pub returns-clause-took : goal.returns-clause-took
returns-clause-took c =
    let none = all_stored c.args.addr c.args.words.now c.loop-i.i (omega arith) in
    ends _ _ _ _ _ (rw none at c.loop-i.invariant.left)
