-- A candidate whose access can go to one place alone, taken in place.
use Rattle.std.proofs.Common.{◌≡◌, ◌∙◌, ◌++◌, ◌||◌, ℕ, Bool, true, false, List, [], ◌∷◌, length, Option, Some, None, if◌then◌else◌, refl, sym, ap, subst, arith}
use Rattle.std.specs.List.{list_any}
use Rattle.std.specs.Prelude.{get_or, slice_set, IfOk, Result, Ok, Err}
use Rattle.iom_core.specs.Rows.{bare, row}
use Rattle.iom_core.specs.Table.{request_of_step}
use Rattle.iom_core.specs.declared.step.Step.{Step}
use Rattle.iom_every.specs.Ways.{Goes}
use Rattle.iom_held.specs.Kept.{HasNoneTwice, entries_in}
use Rattle.iom_held.specs.declared.kept.Kept.{Kept}
use Rattle.iom_ways.specs.Ways.{AreAdded}
use Rattle.iom_choices.specs.Traces.{is_any}
use Rattle.iom_judge.specs.Behind.{AreBehind, IsHeldBehind, IsTaken, next_of}
use Rattle.iom_judge.specs.Gathered.{Gathered}
use Rattle.iom_judge.specs.Candidates.{CandidateView, goes_over, is_any_fit}
use Rattle.iom_judge.specs.Seen.{fits_seen, unseen}
use Rattle.iom_judge.specs.Showing.{IsTold}
use Rattle.iom_judge.specs.declared.possible.Possible.{Possible}
use Rattle.iom_judge.specs.declared.seen.Seen.{Seen}
use Rattle.iom_judge.proofs.Any.{added_any, or_false}

pub one_alone : {X : Type 0} (xs : List X) (x : X) (n : ℕ) → n ≡ length xs → n ≡ 1 → x ≡ get_or xs 0 x → xs ≡ x ∷ []
one_alone [] x n is one same = absurd (omega (arith, is, one))
one_alone {X} (y ∷ []) x n is one same = ap (λ (y : X). y ∷ []) (sym same)
one_alone (y ∷ z ∷ xs) x n is one same = absurd (omega (arith, is, one))

module _ (taken : Step) (seen : Seen) (before after : CandidateView) (places : List (Option Goes)) (held : List Kept) (goes : Option Goes)
    (added : AreAdded (goes_over (bare before.platform) (entries_in before.held) (request_of_step before.platform taken)) [] places) (one : places ≡ goes ∷ [])
    (holds : IsHeldBehind before.platform taken before.held held) (made : after ≡ next_of before.platform held taken goes) where
  fit_behind : (seen : Seen) → fits_seen ((row before.platform taken goes).answer, goes) seen ≡ true → AreBehind taken seen before (after ∷ [])
  fit_behind seen fits = record {
    places = goes ∷ [];
    held = held;
    goes = subst (λ (places : List (Option Goes)). AreAdded (goes_over (bare before.platform) (entries_in before.held) (request_of_step before.platform taken)) [] places) one added;
    holds = holds;
    are = ap (λ (next : CandidateView). next ∷ []) made ∙ ap (λ (b : Bool). (if b then next_of before.platform held taken goes ∷ [] else []) ++ []) (sym fits);
  }

  unfit_behind : fits_seen ((row before.platform taken goes).answer, goes) seen ≡ false → AreBehind taken seen before []
  unfit_behind fits = record {
    places = goes ∷ [];
    held = held;
    goes = subst (λ (places : List (Option Goes)). AreAdded (goes_over (bare before.platform) (entries_in before.held) (request_of_step before.platform taken)) [] places) one added;
    holds = holds;
    are = ap (λ (b : Bool). (if b then next_of before.platform held taken goes ∷ [] else []) ++ []) (sym fits);
  }

  pub is_taken : (fits : Bool) → fits ≡ fits_seen ((row before.platform taken goes).answer, goes) seen → IsTaken taken seen (Some fits) before after
  is_taken true is = fit_behind seen (sym is)
  is_taken false is = (unfit_behind (sym is), fit_behind unseen refl)

-- and its only answer is told where it doesn't fit
pub told_alone : (taken : Step) (before : CandidateView) (places : List (Option Goes)) (goes : Option Goes) (fits : Bool) (list : List Possible) →
    AreAdded (goes_over (bare before.platform) (entries_in before.held) (request_of_step before.platform taken)) [] places → places ≡ goes ∷ [] →
    list ≡ (if fits then [] else record { answer = (row before.platform taken goes).answer; goes = goes } ∷ []) → IsTold taken (Some fits) (before ∷ []) list
told_alone taken before places goes true list added one is = is
told_alone taken before places goes false list added one is = (
  λ seen.
      let fit : Option Goes → Bool = λ goes. fits_seen ((row before.platform taken goes).answer, goes) seen in
      let all : List (Option Goes) = goes_over (bare before.platform) (entries_in before.held) (request_of_step before.platform taken) in
      ap (λ (list : List Possible). is_any_fit seen list) is
      ∙ sym (or_false (fit goes || false))
      ∙ ap (λ (places : List (Option Goes)). list_any fit places || false) (sym one)
      ∙ ap (λ (b : Bool). b || false) (added_any fit all places added),
  subst (λ (list : List Possible). HasNoneTwice list) (sym is) ((λ h. h), tt),
)

-- the only one of a list
pub are_told : {F : Type 0} (taken : Step) (result : Result (Option Bool) F) (all : List CandidateView) (one : CandidateView) (list : List Possible) → length all ≡ 1 →
    IfOk result (λ fits. IsTold taken fits (get_or all 0 one ∷ []) list) → IfOk result (λ fits. IsTold taken fits all list)
are_told taken result [] one list single h = absurd (omega (arith, single))
are_told taken result (x ∷ []) one list single h = h
are_told taken result (x ∷ y ∷ all) one list single h = absurd (omega (arith, single))

abbrev pub AreTaken : Step → Seen → Option Bool → List CandidateView → List CandidateView → Type 0
AreTaken taken seen None before after = after ≡ before
AreTaken taken seen (Some true) before after = (is_any after ≡ true) × Gathered (AreBehind taken seen) before after
AreTaken taken seen (Some false) before after = Gathered (AreBehind taken seen) before [] × Gathered (AreBehind taken unseen) before after

pub are_taken : {F : Type 0} (taken : Step) (seen : Seen) (result : Result (Option Bool) F) (all : List CandidateView) (one after : CandidateView) → length all ≡ 1 →
    IfOk result (λ fits. IsTaken taken seen fits (get_or all 0 one) after) → IfOk result (λ fits. AreTaken taken seen fits all (slice_set all 0 after))
are_taken taken seen (Err fault) all one after single h = tt
are_taken taken seen (Ok fits) [] one after single h = absurd (omega (arith, single))
are_taken taken seen (Ok None) (x ∷ []) one after single h = ap (λ (x : CandidateView). x ∷ []) h
are_taken taken seen (Ok (Some true)) (x ∷ []) one after single h = (refl, (after ∷ [], [], refl, h, refl))
are_taken taken seen (Ok (Some false)) (x ∷ []) one after single h = (([], [], refl, h.0, refl), (after ∷ [], [], refl, h.1, refl))
are_taken taken seen (Ok fits) (x ∷ y ∷ all) one after single h = absurd (omega (arith, single))
