use Rattle.std.proofs.Common.{◌≡◌, ◌∙◌, ◌+◌, ◌-◌, ◌++◌, codes, length, replicate, ap, sym, true, false, arith, rules, refl}
use Rattle.std.proofs.KnownBytes.{Appends-trans}
use Rattle.std.proofs.lemmas.Bool.{false≢true}
use Rattle.iom_text.specs.Texts.{hexadecimal}
use Rattle.iom_tool.specs.Texts.{text_of}
use Rattle.iom_core.specs.Table.{next}
use Rattle.iom_tool.specs.Parsed.{step_of}
use Rattle.iom_debug.specs.Taking.{count_text, is_done, taken}
use Rattle.iom_debug.proofs.Remaining.{again, none_left}
use Rattle.iom_explain.proofs.Chain.{begins, ends, goes_on, stops}
use Rattle.iom_explain.proofs.explaining.Explaining.tell_again.Goals as goal

pub loop-i-init : goal.loop-i-init
loop-i-init g c =
    let all : c.args.most - 0 ≡ c.args.most = omega arith in
    record {
      within = omega arith;
      can = search rules;
      memory = search rules;
      number = refl;
      only = refl;
      same_writer = refl;
      same = refl;
      along = rw all (begins _ _ _ _);
    }

pub returns-then-self-clause-ok : goal.returns-then-self-clause-ok
returns-then-self-clause-ok g c =
    let e = c.in_ok-answered.ensures.ok in
    let so_far = c.loop-i.invariant.along in
    (so_far.said ++ e.0, Appends-trans _ _ _ _ _ so_far.wrote e.1, λ m. absurd (false≢true (sym m ∙ c.if-self.true)))

pub returns-then-not-answered-clause-ok : goal.returns-then-not-answered-clause-ok
unfolding count_text
returns-then-not-answered-clause-ok g c =
    let same = again (step_of c.args.actor) c.args.most c.loop-i.i c.loop-i-test.true in
    let e = c.in_ok-answered.ensures.ok in
    let other : is_done (next c.loop-i.self.debugger.platform.now (step_of c.args.actor)).answer ≡ false =
    sym (rw c.step_by.ensures at c.in_ok-answered.ensures.done) ∙ c.if-not-answered.true in
    let stopped = stops _ _ _ _ _ _ _ (step_of c.args.actor) _ _ _ (rw same at c.loop-i.invariant.along) e.0 e.1
    (rw (c.step_by.ensures, c.loop-i.invariant.number) at (e.2 c.if-self.false)) other in (
      stopped.said,
      stopped.wrote,
      λ m. (
        stopped.told,
        rw (stopped.stopped.count_is, stopped.stopped.last_is)
            (c.reply_with_count.ensures ∙ ap (λ t. hexadecimal (c.loop-i.i + 1) ++ codes " " ++ t) (c.as_slice.ensures.value ∙ c.in_ok-answered.ensures.text
            ∙ ap (λ s. text_of (next c.loop-i.self.debugger.platform.now s).answer) c.step_by.ensures)),
      ),
    )

pub loop-i-preserved : goal.loop-i-preserved
loop-i-preserved g c =
    let same = again (step_of c.args.actor) c.args.most c.loop-i.i c.loop-i-test.true in
    let e = c.in_ok-answered.ensures.ok in
    let done : is_done (next c.loop-i.self.debugger.platform.now (step_of c.args.actor)).answer ≡ true =
    sym (rw c.step_by.ensures at c.in_ok-answered.ensures.done) ∙ c.if-not-answered.false in
    record {
      within = omega arith;
      can = search rules;
      memory = c.if-self.false;
      number = search rules;
      only = search rules;
      same_writer = search rules;
      same = search rules;
      along = goes_on _ _ _ _ _ _ _ (step_of c.args.actor) _ _ _ (rw same at c.loop-i.invariant.along) e.0 e.1
          (rw (c.step_by.ensures, c.loop-i.invariant.number) at (e.2 c.if-self.false)) done;
    }

pub returns-clause-ok : goal.returns-clause-ok
unfolding count_text text_of
returns-clause-ok g c =
    let none = none_left (step_of c.args.actor) c.args.most c.loop-i.i (omega arith) in
    let so_far = rw none at c.loop-i.invariant.along in
    let counted = so_far.left.count_is in
    let count : length (taken c.args.self.now.debugger.platform.now (replicate c.args.most (step_of c.args.actor))) ≡ c.args.most = omega (arith, counted) in
    (so_far.said, so_far.wrote, λ m. (ends _ _ _ _ _ _ _ so_far, rw (count, so_far.left.last_is) c.reply_with_count-2.ensures))
