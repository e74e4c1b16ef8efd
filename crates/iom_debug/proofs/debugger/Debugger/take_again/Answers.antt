use Rattle.std.proofs.Common.{◌≡◌, ◌∙◌, ◌+◌, ◌-◌, ◌++◌, codes, length, replicate, ap, refl, true, false, arith, rules}
use Rattle.iom_text.specs.Texts.{hexadecimal}
use Rattle.iom_tool.specs.Parsed.{step_of}
use Rattle.iom_tool.specs.Texts.{text_of}
use Rattle.iom_core.specs.Table.{next}
use Rattle.iom_debug.specs.Taking.{count_text, is_done, taken}
use Rattle.iom_debug.proofs.Remaining.{again, begins, ends, goes_on, none_left, stops}
use Rattle.iom_debug.proofs.debugger.Debugger.take_again.Goals as goal

pub loop-i-preserved : goal.loop-i-preserved
loop-i-preserved c =
    let same = again (step_of c.args.actor) c.args.most c.loop-i.i c.loop-i-test.true in
    let done : is_done (next c.loop-i.self.platform.now (step_of c.args.actor)).answer ≡ true = cc in
    record {
      within = omega arith;
      same = search rules;
      left = goes_on _ _ _ _ (step_of c.args.actor) _ _ _ (rw same at c.loop-i.invariant.left) (rw c.step_by.ensures at c.take-answered.ensures.took) done;
    }

pub loop-i-init : goal.loop-i-init
loop-i-init c =
    let all : c.args.most - 0 ≡ c.args.most = omega arith in
    record { within = omega arith; same = refl; left = rw all (begins _ _ _) }

pub returns-then-not-answered-clause-reply : goal.returns-then-not-answered-clause-reply
unfolding count_text
returns-then-not-answered-clause-reply c =
    let same = again (step_of c.args.actor) c.args.most c.loop-i.i c.loop-i-test.true in
    let other : is_done (next c.loop-i.self.platform.now (step_of c.args.actor)).answer ≡ false = cc in
    let stopped = stops _ _ _ _ _ _ _ _ (rw same at c.loop-i.invariant.left) (rw c.step_by.ensures at c.take-answered.ensures.took) other in
    rw (stopped.count_is, stopped.last_is)
    (c.reply_with_count.ensures ∙ ap (λ t. hexadecimal (c.loop-i.i + 1) ++ codes " " ++ t) (c.as_slice.ensures.value ∙ c.take-answered.ensures.text
    ∙ ap (λ s. text_of (next c.loop-i.self.platform.now s).answer) c.step_by.ensures))

pub returns-then-not-answered-clause-took : goal.returns-then-not-answered-clause-took
returns-then-not-answered-clause-took c =
    let same = again (step_of c.args.actor) c.args.most c.loop-i.i c.loop-i-test.true in
    let other : is_done (next c.loop-i.self.platform.now (step_of c.args.actor)).answer ≡ false = cc in
    let stopped = stops _ _ _ _ _ _ _ _ (rw same at c.loop-i.invariant.left) (rw c.step_by.ensures at c.take-answered.ensures.took) other in
    stopped.took

pub returns-clause-reply : goal.returns-clause-reply
unfolding count_text text_of
returns-clause-reply c =
    let none = none_left (step_of c.args.actor) c.args.most c.loop-i.i (omega arith) in
    let left = rw none at c.loop-i.invariant.left in
    let counted = left.count_is in
    let count : length (taken c.args.self.now.platform.now (replicate c.args.most (step_of c.args.actor))) ≡ c.args.most = omega (arith, counted) in
    rw (count, left.last_is) c.reply_with_count-2.ensures

pub returns-clause-took : goal.returns-clause-took
returns-clause-took c =
    let none = none_left (step_of c.args.actor) c.args.most c.loop-i.i (omega arith) in
    ends _ _ _ _ _ (rw none at c.loop-i.invariant.left)
