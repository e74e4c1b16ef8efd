-- How a step changes both caches, and what stands in them at each moment of a run.
use Rattle.std.proofs.Common.{◌≡◌, ◌+◌, ◌∙◌, ℕ, zero, suc, List, [], ◌∷◌, Option, Some, None, refl, sym, ap, subst, arith}
use Rattle.std.specs.Prelude.{IfSome, slice_get}
use Rattle.std.specs.Option.{option_and_then, option_map}
use Rattle.iom_ddt.specs.declared.context.Context.{Context}
use Rattle.iom_nested.specs.declared.translation.Hit.{Hit}
use Rattle.iom_cache.specs.Drops.{drops_page, drops_context}
use Rattle.iom_cache.specs.Keys.{same_key, same_did}
use Rattle.iom_cache.specs.Origins.{first_stamps, stamped_by}
use Rattle.iom_cache.specs.Places.{find, filled_by, emptied_by, NoneLive}
use Rattle.iom_cache.specs.declared.key.Key.{Key}
use Rattle.iom_cache.proofs.Stamped.{Stamped, Stamped-start}
use Rattle.iom_cache.proofs.Since.{Since, Since-step}
use Rattle.iom_virtq.specs.Bus.{Ask}
use Rattle.iom_blk.specs.Device.{Device}
use Rattle.iom_blk.specs.Phases.{asks}
use Rattle.iom_core.specs.State.{State, Machine, context_room, page_room}
use Rattle.iom_core.specs.declared.access.Request.{Request}
use Rattle.iom_core.specs.Commands.{after_command}
use Rattle.iom_core.specs.Table.{Asking, acted, asked, asked_by, asking_for, dev_written, device_step, executed, moving, next, probed, request_in, request_of_step, translated, with_signals}
use Rattle.iom_core.specs.Warrants.{context_filled, context_filled_at, executed_at, moment, page_filled, page_filled_at, request_at}
use Rattle.iom_core.specs.declared.step.Step.{Step}
use Rattle.iom_core.specs.declared.step.Step.TheVariants as step
use Rattle.iom_core.proofs.Ways.{led_context-unused, led_page-unused}

-- a step's state, or the same past the last step
abbrev pub next_by : State → Option Step → State
next_by state None = state
next_by state (Some taken) = (next state taken).state

pub moment-suc : (start : State) (steps : List Step) (k : ℕ) → moment start steps (suc k) ≡ next_by (moment start steps k) (slice_get steps k)
unfolding moment
moment-suc start [] zero = refl
moment-suc start [] (suc k) = refl
moment-suc start (taken ∷ steps) zero = refl
moment-suc start (taken ∷ steps) (suc k) = moment-suc (next start taken).state steps k

-- an access fills and drops nothing else
probed-contexts : (state : State) (asking : Option Asking) →
    (probed state asking).state.machine.contexts ≡ filled_by context_room (context_filled state (option_map request_in asking)) state.machine.contexts
probed-contexts state None = refl
probed-contexts state (Some asking) = refl

probed-pages : (state : State) (asking : Option Asking) →
    (probed state asking).state.machine.pages ≡ filled_by page_room (page_filled state (option_map request_in asking)) state.machine.pages
probed-pages state None = refl
probed-pages state (Some asking) = refl

-- so does a request for a translation
translated-contexts : (state : State) (asking : Option Asking) →
    (translated state asking).state.machine.contexts ≡ filled_by context_room (context_filled state (option_map request_in asking)) state.machine.contexts
translated-contexts state None = refl
translated-contexts state (Some asking) = refl

translated-pages : (state : State) (asking : Option Asking) →
    (translated state asking).state.machine.pages ≡ filled_by page_room (page_filled state (option_map request_in asking)) state.machine.pages
translated-pages state None = refl
translated-pages state (Some asking) = refl

-- so does a block device's step
moved-contexts : (state : State) (dev : ℕ) (slot : Option (ℕ × Device)) → (device_step state dev slot).state.machine.contexts
    ≡ filled_by context_room (context_filled state (option_map request_in (asked_by slot))) state.machine.contexts
unfolding moving
moved-contexts state dev None = refl
moved-contexts state dev (Some own) = elim (asks own.1) as (λ (o : Option Ask). (moving state.machine state.messages own.0 own.1 o).machine.contexts
    ≡ filled_by context_room (context_filled state (option_map request_in (option_map (asking_for own.0) o))) state.machine.contexts) [
      | None ↦ refl
      | Some ask ↦ refl
    ]

moved-pages : (state : State) (dev : ℕ) (slot : Option (ℕ × Device)) → (device_step state dev slot).state.machine.pages
    ≡ filled_by page_room (page_filled state (option_map request_in (asked_by slot))) state.machine.pages
unfolding moving
moved-pages state dev None = refl
moved-pages state dev (Some own) = elim (asks own.1) as (λ (o : Option Ask). (moving state.machine state.messages own.0 own.1 o).machine.pages
    ≡ filled_by page_room (page_filled state (option_map request_in (option_map (asking_for own.0) o))) state.machine.pages) [
      | None ↦ refl
      | Some ask ↦ refl
    ]

-- a write of a device's register does nothing to the machine
pub written-machine : (state : State) (dev : ℕ) (slot : Option (ℕ × Device)) (off size value : ℕ) →
    (dev_written state dev slot off size value).state.machine ≡ state.machine
written-machine state dev None off size value = refl
written-machine state dev (Some own) off size value = refl

acted-contexts : (state : State) (taken : Step) → (acted state taken).state.machine.contexts
    ≡ emptied_by drops_context (executed state taken) (filled_by context_room (context_filled state (request_of_step state taken)) state.machine.contexts)
unfolding acted executed after_command asked
acted-contexts state (step.Load addr size) = refl
acted-contexts state (step.Store addr size value) = refl
acted-contexts state (step.RegRead off size) = refl
acted-contexts state (step.RegWrite off size value) = refl
acted-contexts state step.Command = refl
acted-contexts state (step.Settle register) = refl
acted-contexts state (step.DmaRead did iova len) = probed-contexts state (asked state (step.DmaRead did iova len))
acted-contexts state (step.DmaWrite did iova bytes) = probed-contexts state (asked state (step.DmaWrite did iova bytes))
acted-contexts state (step.Translate did iova kind) = translated-contexts state (asked state (step.Translate did iova kind))
acted-contexts state (step.DevRead dev off size) = refl
acted-contexts state (step.DevWrite dev off size value) = ap (λ (m : Machine). m.contexts) (written-machine state dev (slice_get state.devices dev) off size value)
acted-contexts state (step.Device dev) = moved-contexts state dev (slice_get state.devices dev)

acted-pages : (state : State) (taken : Step) → (acted state taken).state.machine.pages
    ≡ emptied_by drops_page (executed state taken) (filled_by page_room (page_filled state (request_of_step state taken)) state.machine.pages)
unfolding acted executed after_command asked
acted-pages state (step.Load addr size) = refl
acted-pages state (step.Store addr size value) = refl
acted-pages state (step.RegRead off size) = refl
acted-pages state (step.RegWrite off size value) = refl
acted-pages state step.Command = refl
acted-pages state (step.Settle register) = refl
acted-pages state (step.DmaRead did iova len) = probed-pages state (asked state (step.DmaRead did iova len))
acted-pages state (step.DmaWrite did iova bytes) = probed-pages state (asked state (step.DmaWrite did iova bytes))
acted-pages state (step.Translate did iova kind) = translated-pages state (asked state (step.Translate did iova kind))
acted-pages state (step.DevRead dev off size) = refl
acted-pages state (step.DevWrite dev off size value) = ap (λ (m : Machine). m.pages) (written-machine state dev (slice_get state.devices dev) off size value)
acted-pages state (step.Device dev) = moved-pages state dev (slice_get state.devices dev)

-- interrupts do nothing to the caches
pub next-contexts : (state : State) (taken : Step) → (next state taken).state.machine.contexts
    ≡ emptied_by drops_context (executed state taken) (filled_by context_room (context_filled state (request_of_step state taken)) state.machine.contexts)
unfolding next with_signals
next-contexts state taken = acted-contexts state taken

pub next-pages : (state : State) (taken : Step) → (next state taken).state.machine.pages
    ≡ emptied_by drops_page (executed state taken) (filled_by page_room (page_filled state (request_of_step state taken)) state.machine.pages)
unfolding next with_signals
next-pages state taken = acted-pages state taken

next_by-contexts : (state : State) (taken : Option Step) → (next_by state taken).machine.contexts
    ≡ emptied_by drops_context (option_and_then (executed state) taken)
    (filled_by context_room (context_filled state (option_and_then (request_of_step state) taken)) state.machine.contexts)
next_by-contexts state None = refl
next_by-contexts state (Some taken) = next-contexts state taken

next_by-pages : (state : State) (taken : Option Step) → (next_by state taken).machine.pages
    ≡ emptied_by drops_page (option_and_then (executed state) taken)
    (filled_by page_room (page_filled state (option_and_then (request_of_step state) taken)) state.machine.pages)
next_by-pages state None = refl
next_by-pages state (Some taken) = next-pages state taken

-- what a request fills was not found
pub context_filled-unused : (state : State) (request : Option Request) →
    IfSome (context_filled state request) (λ entry. find (same_did entry.0) state.machine.contexts ≡ None)
context_filled-unused state None = tt
context_filled-unused state (Some request) = led_context-unused state.machine request

pub page_filled-unused : (state : State) (request : Option Request) →
    IfSome (page_filled state request) (λ entry. find (same_key entry.0) state.machine.pages ≡ None)
page_filled-unused state None = tt
page_filled-unused state (Some request) = led_page-unused state.machine request

module _ (start : State) (steps : List Step) where
  -- since which step each place holds its entry
  abbrev pub ContextSince : ℕ → ℕ × Context → ℕ → Type 0
  ContextSince = Since same_did drops_context (context_filled_at start steps) (executed_at start steps)

  abbrev pub PageSince : ℕ → Key × Hit → ℕ → Type 0
  PageSince = Since same_key drops_page (page_filled_at start steps) (executed_at start steps)

  -- the stamps at each moment
  pub context_stamps : ℕ → List ℕ
  context_stamps zero = first_stamps start.machine.contexts
  context_stamps (suc k) = stamped_by context_room k (context_filled_at start steps k) (context_stamps k)

  pub page_stamps : ℕ → List ℕ
  page_stamps zero = first_stamps start.machine.pages
  page_stamps (suc k) = stamped_by page_room k (page_filled_at start steps k) (page_stamps k)

  pub contexts_stamped : NoneLive start.machine.contexts → (k : ℕ) →
      Stamped (ContextSince k) (moment start steps k).machine.contexts (context_stamps k)
  unfolding moment context_stamps
  contexts_stamped none zero = Stamped-start (ContextSince 0) start.machine.contexts none
  contexts_stamped none (suc k) =
      let state = moment start steps k in
      let kept = Since-step same_did drops_context (context_filled_at start steps) (executed_at start steps) k context_room state.machine.contexts
      (context_stamps k) (context_filled-unused state (request_at start steps k)) (contexts_stamped none k) in
      let same : emptied_by drops_context (executed_at start steps k) (filled_by context_room (context_filled_at start steps k) state.machine.contexts)
      ≡ (moment start steps (suc k)).machine.contexts =
      sym (ap (λ (s : State). s.machine.contexts) (moment-suc start steps k) ∙ next_by-contexts state (slice_get steps k)) in
      subst (λ (n : ℕ). Stamped (ContextSince n) (moment start steps (suc k)).machine.contexts (context_stamps (suc k))) (omega arith)
      (subst (λ (ps : List (Option (ℕ × Context))). Stamped (ContextSince (k + 1)) ps (context_stamps (suc k))) same kept)

  pub pages_stamped : NoneLive start.machine.pages → (k : ℕ) →
      Stamped (PageSince k) (moment start steps k).machine.pages (page_stamps k)
  unfolding moment page_stamps
  pages_stamped none zero = Stamped-start (PageSince 0) start.machine.pages none
  pages_stamped none (suc k) =
      let state = moment start steps k in
      let kept = Since-step same_key drops_page (page_filled_at start steps) (executed_at start steps) k page_room state.machine.pages
      (page_stamps k) (page_filled-unused state (request_at start steps k)) (pages_stamped none k) in
      let same : emptied_by drops_page (executed_at start steps k) (filled_by page_room (page_filled_at start steps k) state.machine.pages)
      ≡ (moment start steps (suc k)).machine.pages =
      sym (ap (λ (s : State). s.machine.pages) (moment-suc start steps k) ∙ next_by-pages state (slice_get steps k)) in
      subst (λ (n : ℕ). Stamped (PageSince n) (moment start steps (suc k)).machine.pages (page_stamps (suc k))) (omega arith)
      (subst (λ (ps : List (Option (Key × Hit))). Stamped (PageSince (k + 1)) ps (page_stamps (suc k))) same kept)
