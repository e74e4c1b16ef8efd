-- What a history returns for a step explains it, if its numbers count the steps.
use Rattle.std.proofs.Common.{◌≡◌, ◌∙◌, ◌++◌, ◌<◌, ℕ, zero, suc, List, [], ◌∷◌, length, take, get_or, Option, Some, None, refl, sym, ap, subst, inl, inr, arith}
use Rattle.std.specs.Prelude.{slice_get}
use Rattle.std.specs.Option.{option_map}
use Rattle.std.proofs.lemmas.Bool.{cases_lt}
use Rattle.std.proofs.lemmas.List.{get_or_append_left}
use Rattle.std.proofs.Math.Seq.{get_or-append_seam}
use Rattle.iom_core.specs.State.{State}
use Rattle.iom_core.specs.Warrants.{Explains, IsWarrant}
use Rattle.iom_core.specs.declared.access.Request.{Request}
use Rattle.iom_core.specs.declared.step.Step.{Step}
use Rattle.iom_core.specs.declared.warrant.Warrant.{Warrant}
use Rattle.iom_core.specs.declared.warrant.Warrant.TheVariants as warrant
use Rattle.iom_account.specs.Following.{ComesFrom, Follows, HistoryView, counted, notes_at, number_of, numbered_warrant, warrant_of}
use Rattle.iom_account.specs.declared.origin.NumberedWarrant.{NumberedWarrant}
use Rattle.iom_account.proofs.Runs.{length_more}

-- the step at an index of the first ones is the step of all
pub step_at : (steps : List Step) (n k : ℕ) (taken : Step) → slice_get (take n steps) k ≡ Some taken → slice_get steps k ≡ Some taken
step_at steps zero k taken e = absurd (cc)
step_at [] (suc n) k taken e = absurd (cc)
step_at (first ∷ steps) (suc n) zero taken e = e
step_at (first ∷ steps) (suc n) (suc k) taken e = step_at steps n k taken e

length_counted : (n : ℕ) → length (counted n) ≡ n
length_counted zero = refl
length_counted (suc n) = omega (arith, length_more (counted n) n, length_counted n)

pub number_counted : (n k : ℕ) → k < n → number_of (counted n) k ≡ k
number_counted zero k low = absurd (omega arith)
number_counted (suc n) k low = elim (cases_lt k n) [
  | inl lt ↦ get_or_append_left (counted n) (n ∷ []) 0 k (let len = length_counted n in omega arith) ∙ number_counted n k lt
  | inr ge ↦
      let is : length (counted n) ≡ k = let len = length_counted n in omega arith in
      let last : n ≡ k = omega arith in
      ap (λ (j : ℕ). get_or (counted n ++ n ∷ []) j 0) (sym is) ∙ get_or-append_seam (counted n) n [] 0 ∙ last
]

-- a history of no step yet
pub none_noted : (start : State) (steps : List Step) (n : ℕ) (history : HistoryView) → Follows history start start [] [] →
    history ≡ notes_at start steps (counted n) 0
none_noted start steps n history h = λ i. record { contexts = h.contexts i; walks = h.walks i; walk_contexts = h.walk_contexts i }

-- the moments of a warrant are those of steps up to n
told_back : (start : State) (steps : List Step) (n : ℕ) (request : Request) (found : Warrant) → IsWarrant start steps n request found →
    warrant_of (numbered_warrant (counted (suc n)) found) ≡ found
told_back start steps n request warrant.Register is = refl
told_back start steps n request (warrant.Context context) is =
    let within = is.fresh.origin.within in ap (λ (c : ℕ). warrant.Context c) (number_counted (suc n) context (omega arith))
told_back start steps n request (warrant.Walked context walk current) is =
    let old = is.old_context.origin.within in
    let within = is.page.origin.within in
    let now = is.now_context.origin.within in
    let c : number_of (counted (suc n)) context ≡ context = number_counted (suc n) context (omega arith) in
    let w : number_of (counted (suc n)) walk ≡ walk = number_counted (suc n) walk (omega arith) in
    let k : number_of (counted (suc n)) current ≡ current = number_counted (suc n) current (omega arith) in
    λ i. warrant.Walked (c i) (w i) (k i)

explained_so : (start : State) (steps : List Step) (n : ℕ) (found : Option Warrant) → Explains start steps n found →
    Explains start steps n (option_map warrant_of (option_map (numbered_warrant (counted (suc n))) found))
explained_so start steps n None has = has
explained_so start steps n (Some found) (request, asked, is) =
    subst (λ (w : Warrant). Explains start steps n (Some w)) (sym (told_back start steps n request found is)) (request, asked, is)

pub explained_by : (start : State) (steps : List Step) (n : ℕ) (origin : Option NumberedWarrant) (found : Option Warrant) →
    ComesFrom start steps (counted (suc n)) n origin → found ≡ option_map warrant_of origin → Explains start steps n found
explained_by start steps n origin found from is =
    subst (Explains start steps n) (sym (is ∙ ap (option_map warrant_of) from.told)) (explained_so start steps n from.warrant from.explains)
