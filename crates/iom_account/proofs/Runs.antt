-- A run and the same with one step more.
use Rattle.std.proofs.Common.{◌≡◌, ◌∙◌, ◌++◌, ◌<◌, ◌≤◌, ℕ, zero, suc, List, [], ◌∷◌, length, Some, refl, sym, ap, arith}
use Rattle.std.specs.Prelude.{slice_get}
use Rattle.std.specs.Option.{option_and_then}
use Rattle.std.proofs.lemmas.List.{take-append-le}
use Rattle.std.proofs.Math.Seq.{take-length}
use Rattle.iom_core.specs.State.{State}
use Rattle.iom_core.specs.Run.{end_of}
use Rattle.iom_core.specs.Table.{next, request_of_step}
use Rattle.iom_core.specs.Warrants.{moment, request_at}
use Rattle.iom_core.specs.declared.step.Step.{Step}

pub length_more : {X : Type 0} (xs : List X) (x : X) → length (xs ++ x ∷ []) ≡ suc (length xs)
length_more [] x = refl
length_more (y ∷ xs) x = ap suc (length_more xs x)

pub item_below : {X : Type 0} (xs : List X) (x : X) (k : ℕ) → k < length xs → slice_get (xs ++ x ∷ []) k ≡ slice_get xs k
item_below [] x k low = absurd (omega arith)
item_below (y ∷ xs) x zero low = refl
item_below (y ∷ xs) x (suc k) low = item_below xs x k (omega arith)

pub item_last : {X : Type 0} (xs : List X) (x : X) → slice_get (xs ++ x ∷ []) (length xs) ≡ Some x
item_last [] x = refl
item_last (y ∷ xs) x = item_last xs x

pub end_more : (start : State) (steps : List Step) (taken : Step) → end_of start (steps ++ taken ∷ []) ≡ (next (end_of start steps) taken).state
end_more start [] taken = refl
end_more start (first ∷ steps) taken = end_more (next start first).state steps taken

pub moment_all : (start : State) (steps : List Step) → moment start steps (length steps) ≡ end_of start steps
unfolding moment
moment_all start steps = ap (end_of start) (take-length steps)

pub moment_below : (start : State) (steps : List Step) (taken : Step) (k : ℕ) → k ≤ length steps →
    moment start (steps ++ taken ∷ []) k ≡ moment start steps k
unfolding moment
moment_below start steps taken k within = ap (end_of start) (take-append-le k steps (taken ∷ []) within)

pub request_below : (start : State) (steps : List Step) (taken : Step) (k : ℕ) → k < length steps →
    request_at start (steps ++ taken ∷ []) k ≡ request_at start steps k
request_below start steps taken k low =
    ap (λ (s : State). option_and_then (request_of_step s) (slice_get (steps ++ taken ∷ []) k)) (moment_below start steps taken k (omega arith))
    ∙ ap (option_and_then (request_of_step (moment start steps k))) (item_below steps taken k low)

-- the last step
pub moment_last : (start : State) (steps : List Step) (taken : Step) → moment start (steps ++ taken ∷ []) (length steps) ≡ end_of start steps
moment_last start steps taken = moment_below start steps taken (length steps) (omega arith) ∙ moment_all start steps

pub moment_after : (start : State) (steps : List Step) (taken : Step) →
    moment start (steps ++ taken ∷ []) (suc (length steps)) ≡ (next (end_of start steps) taken).state
moment_after start steps taken =
    ap (moment start (steps ++ taken ∷ [])) (sym (length_more steps taken)) ∙ moment_all start (steps ++ taken ∷ []) ∙ end_more start steps taken

pub request_last : (start : State) (steps : List Step) (taken : Step) →
    request_at start (steps ++ taken ∷ []) (length steps) ≡ request_of_step (end_of start steps) taken
request_last start steps taken =
    ap (λ (s : State). option_and_then (request_of_step s) (slice_get (steps ++ taken ∷ []) (length steps))) (moment_last start steps taken)
    ∙ ap (option_and_then (request_of_step (end_of start steps))) (item_last steps taken)
