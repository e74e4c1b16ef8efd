use Rattle.std.proofs.Common.{◌≡◌, ◌∙◌, ◌+◌, ◌++◌, refl, sym, arith, rules}
use Rattle.std.proofs.KnownBytes.{Appends-trans}
use Rattle.std.proofs.lemmas.Bool.{false≢true}
use Rattle.iom_debug.proofs.Remaining.{all_stored, stored, was_false, was_true}
use Rattle.iom_explain.proofs.Chain.{begins, ends, goes_on, stops}
use Rattle.iom_explain.proofs.explaining.Explaining.tell_stores.Goals as goal

pub loop-i-init : goal.loop-i-init
loop-i-init g c =
    let first : c.args.addr + 0 ≡ c.args.addr = omega arith in
    record {
      can = search rules;
      memory = search rules;
      number = refl;
      only = refl;
      same_writer = refl;
      same = refl;
      along = rw first (begins _ _ _ _);
    }

pub returns-then-self-clause-ok : goal.returns-then-self-clause-ok
returns-then-self-clause-ok g c =
    let e = c.in_ok-answered.ensures.ok in
    let so_far = c.loop-i.invariant.along in
    (so_far.said ++ e.0, Appends-trans _ _ _ _ _ so_far.wrote e.1, λ m. absurd (false≢true (sym m ∙ c.if-self.true)))

pub returns-then-not-answered-clause-ok : goal.returns-then-not-answered-clause-ok
returns-then-not-answered-clause-ok g c =
    let same = stored c.args.addr c.args.words.now c.loop-i.i (omega arith) in
    let e = c.in_ok-answered.ensures.ok in
    let stopped = stops _ _ _ _ _ _ _ _ _ _ _ (rw same at c.loop-i.invariant.along) e.0 e.1
    (rw c.loop-i.invariant.number at (e.2 c.if-self.false))
    (sym c.in_ok-answered.ensures.done ∙ was_false _ c.if-not-answered.true) in
    (stopped.said, stopped.wrote, λ m. (stopped.told, rw stopped.stopped.last_is c.in_ok-answered.ensures.text))

pub loop-i-preserved : goal.loop-i-preserved
loop-i-preserved g c =
    let same = stored c.args.addr c.args.words.now c.loop-i.i (omega arith) in
    let e = c.in_ok-answered.ensures.ok in
    record {
      can = search rules;
      memory = c.if-self.false;
      number = search rules;
      only = search rules;
      same_writer = search rules;
      same = search rules;
      along = goes_on _ _ _ _ _ _ _ _ _ _ _ (rw same at c.loop-i.invariant.along) e.0 e.1
          (rw c.loop-i.invariant.number at (e.2 c.if-self.false))
          (sym c.in_ok-answered.ensures.done ∙ was_true _ c.if-not-answered.false);
    }

pub returns-clause-ok : goal.returns-clause-ok
returns-clause-ok g c =
    let none = all_stored c.args.addr c.args.words.now c.loop-i.i (omega arith) in
    let so_far = rw none at c.loop-i.invariant.along in
    (so_far.said, so_far.wrote, λ m. (ends _ _ _ _ _ _ _ so_far, rw so_far.left.last_is c.answer_text.ensures.text))
