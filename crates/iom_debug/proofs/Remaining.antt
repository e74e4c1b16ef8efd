-- Steps that are taken one after the other, seen by those that are left.
use Rattle.std.proofs.Common.{◌≡◌, ◌+◌, ◌-◌, ◌*◌, ◌<◌, ◌≤◌, ◌∙◌, ℕ, suc, List, [], ◌∷◌, Bool, true, false, not, length, drop, get_or, replicate, drop-cons, drop_of_length-le, refl, sym, ap, subst, arith}
use Rattle.iom_core.specs.State.{State}
use Rattle.iom_core.specs.Table.{next}
use Rattle.iom_core.specs.Run.{end_of}
use Rattle.iom_core.specs.declared.step.Step.{Step}
use Rattle.iom_core.specs.declared.step.Step.TheVariants as step
use Rattle.iom_account.proofs.Telling.{along_more, along_none}
use Rattle.iom_tool.specs.declared.trace.TracedStep.{TracedStep}
use Rattle.iom_tool.specs.Console.{trace_after}
use Rattle.iom_debug.specs.Reasons.{GoesAlong, KeepsLastStale, LineAccountView}
use Rattle.iom_tool.specs.Script.{stores_at}
use Rattle.iom_debug.specs.Taking.{Desk, Took, TookAll, is_done, last_answer, taken}

-- some steps of one number from a start, after `count` of them that were done: `rest` is left here
pub record Left (start : Desk) (number : ℕ) (all : List Step) (here : Desk) (rest : List Step) (count : ℕ) : Type 0 where
  pub state_is : end_of start.state (taken start.state all) ≡ end_of here.state (taken here.state rest)
  pub trace_is : trace_after start.trace start.state (taken start.state all) ≡ trace_after here.trace here.state (taken here.state rest)
  pub stale : (after : LineAccountView) → KeepsLastStale here.reasons here.state (taken here.state rest) number after →
      KeepsLastStale start.reasons start.state (taken start.state all) number after
  pub along : (after : LineAccountView) (left : State) → GoesAlong here.reasons here.state (taken here.state rest) number after left →
      GoesAlong start.reasons start.state (taken start.state all) number after left
  pub names_is : here.names ≡ start.names
  pub marks_is : here.marks ≡ start.marks
  pub count_is : length (taken start.state all) ≡ count + length (taken here.state rest)
  pub last_is : last_answer start.state all ≡ last_answer here.state rest

pub begins : (start : Desk) (number : ℕ) (all : List Step) → Left start number all start all 0
begins start number all = record {
  state_is = refl;
  trace_is = refl;
  stale = λ after is. is;
  along = λ after left is. is;
  names_is = refl;
  marks_is = refl;
  count_is = omega arith;
  last_is = refl;
}

-- one step by itself
one_along : (here : Desk) (step : Step) (number : ℕ) (after : Desk) → Took here step number after →
    GoesAlong here.reasons here.state (step ∷ []) number after.reasons (next here.state step).state
one_along here step number after took =
    subst (λ (s : State). GoesAlong here.reasons here.state (step ∷ []) number after.reasons s) took.state took.along

pub one_kept : (here : Desk) (step : Step) (number : ℕ) (after : Desk) → Took here step number after →
    KeepsLastStale here.reasons here.state (step ∷ []) number after.reasons
one_kept here step number after took = (after.reasons, one_along here step number after took, took.stale, took.fence, took.settled, took.invalidation, took.ignored, refl)

-- where the next step isn't done
pub record Stopped (start : Desk) (number : ℕ) (all : List Step) (here : Desk) (step : Step) (count : ℕ) (after : Desk) : Type 0 where
  pub took : TookAll start all number after
  pub count_is : length (taken start.state all) ≡ count + 1
  pub last_is : last_answer start.state all ≡ (next here.state step).answer

module _ (start : Desk) (number : ℕ) (all : List Step) (here : Desk) (step : Step) (rest : List Step) (count : ℕ) (after : Desk)
    (left : Left start number all here (step ∷ rest) count) (took : Took here step number after) where
  pub goes_on : is_done (next here.state step).answer ≡ true → Left start number all after rest (count + 1)
  goes_on done =
      let there = (next here.state step).state in
      let is : taken here.state (step ∷ rest) ≡ step ∷ taken there rest = rw done refl in
      record {
        state_is = left.state_is ∙ ap (end_of here.state) is ∙ ap (λ (s : State). end_of s (taken s rest)) (sym took.state);
        trace_is = left.trace_is ∙ ap (trace_after here.trace here.state) is
            ∙ ap (λ (t : List TracedStep). trace_after t there (taken there rest)) (sym took.trace)
            ∙ ap (λ (s : State). trace_after after.trace s (taken s rest)) (sym took.state);
        stale = λ last more. left.stale last
            (subst (λ (steps : List Step). KeepsLastStale here.reasons here.state steps number last) (sym is) (
              after.reasons,
              one_along here step number after took,
              took.stale,
              took.fence,
              took.settled,
              took.invalidation,
              took.ignored,
              subst (λ (s : State). KeepsLastStale after.reasons s (taken s rest) number last) took.state more,
            ));
        along = λ last end more. left.along last end
            (subst (λ (steps : List Step). GoesAlong here.reasons here.state steps number last end) (sym is)
            (along_more here.reasons.account after.reasons.account last.account here.state after.state end step (taken there rest) number took.along
            (subst (λ (s : State). GoesAlong after.reasons after.state (taken s rest) number last end) took.state more)));
        names_is = took.names ∙ left.names_is;
        marks_is = took.marks ∙ left.marks_is;
        count_is =
            let one : length (taken here.state (step ∷ rest)) ≡ suc (length (taken there rest)) = ap length is in
            let same : length (taken there rest) ≡ length (taken after.state rest) = ap (λ (s : State). length (taken s rest)) (sym took.state) in
            let before = left.count_is in omega (arith, one, same, before);
        last_is = left.last_is ∙ rw done (ap (λ (s : State). last_answer s rest) (sym took.state));
      }

  pub stops : is_done (next here.state step).answer ≡ false → Stopped start number all here step count after
  stops other =
      let is : taken here.state (step ∷ rest) ≡ step ∷ [] = rw other refl in
      record {
        took = record {
          state = took.state ∙ sym (left.state_is ∙ ap (end_of here.state) is);
          trace = took.trace ∙ sym (left.trace_is ∙ ap (trace_after here.trace here.state) is);
          stale = left.stale after.reasons
              (subst (λ (steps : List Step). KeepsLastStale here.reasons here.state steps number after.reasons) (sym is)
              (one_kept here step number after took));
          along = left.along after.reasons after.state
              (subst (λ (steps : List Step). GoesAlong here.reasons here.state steps number after.reasons after.state) (sym is) took.along);
          names = took.names ∙ left.names_is;
          marks = took.marks ∙ left.marks_is;
        };
        count_is =
            let one : length (taken here.state (step ∷ rest)) ≡ 1 = ap length is in
            let before = left.count_is in omega (arith, one, before);
        last_is = left.last_is ∙ rw other refl;
      }

-- where none is left
pub ends : (start : Desk) (number : ℕ) (all : List Step) (here : Desk) (count : ℕ) → Left start number all here [] count → TookAll start all number here
ends start number all here count left = record {
  state = sym left.state_is;
  trace = sym left.trace_is;
  stale = left.stale here.reasons refl;
  along = left.along here.reasons here.state (along_none here.reasons.account here.state number);
  names = left.names_is;
  marks = left.marks_is;
}

-- a step that is repeated
pub again : (step : Step) (most i : ℕ) → i < most → replicate (most - i) step ≡ step ∷ replicate (most - (i + 1)) step
again step most i lt =
    let is : most - i ≡ suc (most - (i + 1)) = omega arith in ap (λ n. replicate n step) is

pub none_left : (step : Step) (most i : ℕ) → most ≤ i → replicate (most - i) step ≡ []
none_left step most i over =
    let is : most - i ≡ 0 = omega arith in ap (λ n. replicate n step) is

-- words that are stored one after the other
pub stored : (addr : ℕ) (words : List ℕ) (i : ℕ) → i < length words →
    stores_at (addr + 8 * i) (drop i words)
    ≡ step.Store (addr + 8 * i) 8 (get_or words i 0) ∷ stores_at (addr + 8 * (i + 1)) (drop (i + 1) words)
stored addr words i low =
    let further : addr + 8 * i + 8 ≡ addr + 8 * (i + 1) = omega arith in
    let one : suc i ≡ i + 1 = omega arith in
    ap (stores_at (addr + 8 * i)) (drop-cons words i 0 low)
    ∙ ap (λ a. step.Store (addr + 8 * i) 8 (get_or words i 0) ∷ stores_at a (drop (suc i) words)) further
    ∙ ap (λ k. step.Store (addr + 8 * i) 8 (get_or words i 0) ∷ stores_at (addr + 8 * (i + 1)) (drop k words)) one

pub all_stored : (addr : ℕ) (words : List ℕ) (i : ℕ) → length words ≤ i → stores_at (addr + 8 * i) (drop i words) ≡ []
all_stored addr words i over = ap (stores_at (addr + 8 * i)) (drop_of_length-le words over)

-- of a test that was turned
pub was_true : (b : Bool) → not b ≡ false → b ≡ true
was_true true is = refl
was_true false is = absurd (cc is)

pub was_false : (b : Bool) → not b ≡ true → b ≡ false
was_false true is = absurd (cc is)
was_false false is = refl
