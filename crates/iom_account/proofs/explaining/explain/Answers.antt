use Rattle.std.proofs.Common.{◌≡◌, ◌∙◌, ◌+◌, ◌<◌, [], Some, suc, take, refl, sym, ap, subst, arith}
use Rattle.std.specs.Prelude.{slice_get}
use Rattle.std.proofs.lemmas.Grind.{common_steps}
use Rattle.std.proofs.lemmas.Option.{slice_get-get_or}
use Rattle.iom_core.specs.State.{State}
use Rattle.iom_core.specs.Warrants.{IsUncached, moment}
use Rattle.iom_core.specs.declared.step.Step.{Step}
use Rattle.iom_account.specs.Following.{Follows, counted, notes_at, number_of}
use Rattle.iom_account.proofs.Counted.{explained_by, none_noted, number_counted, step_at}
use Rattle.iom_account.proofs.Stepped.{leaves_moment, leaves_notes, origin_there}
use Rattle.iom_account.proofs.explaining.explain.Goals as goal

pub loop-k-init : goal.loop-k-init
unfolding moment
loop-k-init c =
    let at : c.in_ok-platform.platform ≡ c.args.start.now = c.in_ok-platform.ensures in
    let none : IsUncached c.in_ok-platform.platform = subst IsUncached (sym at) c.requires.uncached in
    let follows : Follows c.new-history.result c.args.start.now c.args.start.now [] [] =
    subst (λ (s : State). Follows c.new-history.result s s [] []) at (c.new-history.ensures none) in
    record {
      items = refl;
      at = at;
      kept = none_noted c.args.start.now c.args.steps.now (suc c.args.n) c.new-history.result follows;
    }

pub loop-k-preserved : goal.loop-k-preserved
loop-k-preserved c =
    let l = c.loop-k in
    let start = c.args.start.now in
    let steps = c.args.steps.now in
    let step = c.step-item.result in
    let there : slice_get (take c.args.n steps) l.k ≡ Some step = slice_get-get_or (take c.args.n steps) l.k step c.loop-k-test.true ∙ ap (λ (s : Step). Some s) (sym c.step-item.is) in
    let is : slice_get steps l.k ≡ Some step = step_at steps c.args.n l.k step there in
    let below : l.k < c.args.n = grind (arith, common_steps) in
    let own : l.k ≡ number_of (counted (suc c.args.n)) l.k = sym (number_counted (suc c.args.n) l.k (omega arith)) in
    let one : suc l.k ≡ l.k + 1 = omega arith in
    record {
      items = refl;
      at = leaves_moment start steps (counted (suc c.args.n)) l.k step l.k is own l.history c.step.new.self l.platform c.step.new.platform c.step.result.seen
          l.invariant.at l.invariant.kept c.step.ensures.state c.step.ensures.seen c.step.ensures.noted ∙ ap (moment start steps) one;
      kept = leaves_notes start steps (counted (suc c.args.n)) l.k step l.k is own l.history c.step.new.self l.platform c.step.new.platform c.step.result.seen
          l.invariant.at l.invariant.kept c.step.ensures.state c.step.ensures.seen c.step.ensures.noted
          ∙ ap (notes_at start steps (counted (suc c.args.n))) one;
    }

pub returns : goal.returns
returns c =
    let l = c.loop-k in
    let start = c.args.start.now in
    let steps = c.args.steps.now in
    let n = c.args.n in
    let step = c.index-steps-n.result in
    let all : l.k ≡ n = grind (arith, common_steps) in
    let is : slice_get steps n ≡ Some step = slice_get-get_or steps n step c.requires.below ∙ ap (λ (s : Step). Some s) (sym c.index-steps-n.is) in
    let own : n ≡ number_of (counted (suc n)) n = sym (number_counted (suc n) n (omega arith)) in
    let at : l.platform ≡ moment start steps n = l.invariant.at ∙ ap (moment start steps) all in
    let kept : l.history ≡ notes_at start steps (counted (suc n)) n = l.invariant.kept ∙ ap (notes_at start steps (counted (suc n))) all in
    explained_by start steps n c.step-taken.result.origin c.warrant_of.result
    (origin_there start steps (counted (suc n)) n step n is own l.history c.step-taken.new.self l.platform c.step-taken.new.platform c.step-taken.result.seen
    at kept c.step-taken.ensures.state c.step-taken.ensures.seen c.step-taken.ensures.noted c.requires.uncached c.step-taken.result.origin c.step-taken.ensures.told)
    c.warrant_of.ensures
