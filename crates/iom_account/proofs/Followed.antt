-- What a history kept of steps stands, with one step more.
use Rattle.std.proofs.Common.{◌≡◌, ◌∙◌, ◌++◌, ◌<◌, ◌≤◌, ℕ, suc, List, [], ◌∷◌, length, get_or, sym, ap, arith}
use Rattle.std.proofs.lemmas.List.{get_or_append_left}
use Rattle.std.proofs.Math.Seq.{get_or-append_seam}
use Rattle.iom_cache.specs.Origins.{first_stamps}
use Rattle.iom_core.specs.State.{State, context_room, page_room}
use Rattle.iom_core.specs.Warrants.{context_filled, context_filled_at, moment, page_filled, page_filled_at, request_at}
use Rattle.iom_core.specs.declared.step.Step.{Step}
use Rattle.iom_account.specs.Following.{base_at, base_by, walk_contexts_at, contexts_at, number_of, walks_at}
use Rattle.iom_account.proofs.Beside.{noted_at-same}
use Rattle.iom_account.proofs.Runs.{moment_below, request_below}

module _ (start : State) (steps : List Step) (taken : Step) (numbers : List ℕ) (number : ℕ) (numbered : length numbers ≡ length steps) where
  abbrev more : List Step
  more = steps ++ taken ∷ []

  abbrev told : List ℕ
  told = numbers ++ number ∷ []

  abbrev n : ℕ
  n = length steps

  number_below : (k : ℕ) → k < n → number_of told k ≡ number_of numbers k
  number_below k low = get_or_append_left numbers (number ∷ []) 0 k (omega arith)

  pub number_last : number_of told n ≡ number
  number_last = ap (λ (k : ℕ). get_or told k 0) (sym numbered) ∙ get_or-append_seam numbers number [] 0

  context_below : (k : ℕ) → k < n → context_filled_at start more k ≡ context_filled_at start steps k
  context_below k low =
      ap (λ (s : State). context_filled s (request_at start more k)) (moment_below start steps taken k (omega arith))
      ∙ ap (context_filled (moment start steps k)) (request_below start steps taken k low)

  page_below : (k : ℕ) → k < n → page_filled_at start more k ≡ page_filled_at start steps k
  page_below k low =
      ap (λ (s : State). page_filled s (request_at start more k)) (moment_below start steps taken k (omega arith))
      ∙ ap (page_filled (moment start steps k)) (request_below start steps taken k low)

  contexts_below : (k : ℕ) → k ≤ n → contexts_at start more told k ≡ contexts_at start steps numbers k
  contexts_below k within =
      noted_at-same context_room (context_filled_at start more) (context_filled_at start steps) (number_of told) (number_of numbers)
      (first_stamps start.machine.contexts) k (λ j low. context_below j (omega arith)) (λ j low. number_below j (omega arith))

  base_below : (k : ℕ) → k < n → base_at start more told k ≡ base_at start steps numbers k
  base_below k low =
      ap (λ (s : State). base_by s (contexts_at start more told (suc k)) (number_of told k) (request_at start more k)) (moment_below start steps taken (suc k) (omega arith))
      ∙ ap (λ (notes : List ℕ). base_by (moment start steps (suc k)) notes (number_of told k) (request_at start more k)) (contexts_below (suc k) (omega arith))
      ∙ ap (λ (s : ℕ). base_by (moment start steps (suc k)) (contexts_at start steps numbers (suc k)) s (request_at start more k)) (number_below k low)
      ∙ ap (base_by (moment start steps (suc k)) (contexts_at start steps numbers (suc k)) (number_of numbers k)) (request_below start steps taken k low)

  pub contexts_kept : contexts_at start more told n ≡ contexts_at start steps numbers n
  contexts_kept = contexts_below n (omega arith)

  pub walks_kept : walks_at start more told n ≡ walks_at start steps numbers n
  walks_kept =
      noted_at-same page_room (page_filled_at start more) (page_filled_at start steps) (number_of told) (number_of numbers)
      (first_stamps start.machine.pages) n page_below number_below

  pub bases_kept : walk_contexts_at start more told n ≡ walk_contexts_at start steps numbers n
  bases_kept =
      noted_at-same page_room (page_filled_at start more) (page_filled_at start steps) (base_at start more told) (base_at start steps numbers)
      (first_stamps start.machine.pages) n page_below base_below
