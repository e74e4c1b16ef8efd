-- A row for an access that goes to a given place doesn't depend on this model's caches.
use Rattle.std.proofs.Common.{◌≡◌, ℕ, slice_get, Option, Some, None, Result, refl, sym, ap, subst}
use Rattle.iom_blk.specs.Device.{Device}
use Rattle.iom_blk.specs.Phases.{asks}
use Rattle.iom_virtq.specs.Bus.{Ask}
use Rattle.iom_core.specs.Access.{Effect, effect_at, request_of}
use Rattle.iom_core.specs.Commands.{after_command, executed_by, messages_after_command}
use Rattle.iom_core.specs.Rows.{acted_row, bare, device_row, device_row_led, dma_row, dma_row_led, machine_by, moves_at, moving_at, row, translation_row_led}
use Rattle.iom_core.specs.State.{State, with_machine}
use Rattle.iom_core.specs.Table.{Asking, Outcome, acted, asked, interrupted, next}
use Rattle.iom_core.specs.declared.access.Denial.{Denial}
use Rattle.iom_core.specs.declared.step.Step.{Step}
use Rattle.iom_core.specs.declared.step.Step.TheVariants as step
use Rattle.iom_core.proofs.Rows.{device_row_is, read_row, row_unled, translate_row, write_row}
use Rattle.iom_every.specs.Every.{none_ahead}
use Rattle.iom_every.proofs.Rows.{IsAs, effect_bare, interrupts_as, our_led, row_is, written_is}

as_given : (one other given made : Outcome) → one ≡ given → other ≡ made → IsAs given made → IsAs one other
as_given one other given made is_given is_made h = subst (λ (o : Outcome). IsAs o other) (sym is_given) (subst (IsAs given) (sym is_made) h)

dma_bare : (state : State) (o : Option Asking) (goes : Result ℕ Denial) → IsAs (dma_row_led state o goes) (dma_row_led (bare state) o goes)
dma_bare state None goes = record { left = refl; answered = refl }
dma_bare state (Some asking) goes =
    let same : effect_at state.machine state.messages (request_of asking.did asking.ask) asking.ask goes
    ≡ effect_at (bare state).machine state.messages (request_of asking.did asking.ask) asking.ask goes =
    sym (effect_bare state.machine state.messages (request_of asking.did asking.ask) asking.ask goes) in
    record {
      left = ap (λ (e : Effect). bare (dma_row state asking e).state) same;
      answered = ap (λ (e : Effect). (dma_row state asking e).answer) same;
    }

translation_bare : (state : State) (o : Option Asking) (goes : Result ℕ Denial) → IsAs (translation_row_led state o goes) (translation_row_led (bare state) o goes)
translation_bare state None goes = record { left = refl; answered = refl }
translation_bare state (Some asking) goes =
    let same : effect_at state.machine state.messages (request_of asking.did asking.ask) asking.ask goes
    ≡ effect_at (bare state).machine state.messages (request_of asking.did asking.ask) asking.ask goes =
    sym (effect_bare state.machine state.messages (request_of asking.did asking.ask) asking.ask goes) in
    record {
      left = ap (λ (e : Effect). bare (with_machine state (machine_by state.machine e))) same;
      answered = refl;
    }

moves_bare : (state : State) (dev : ℕ) (own : ℕ × Device) (ask : Option Ask) (goes : Result ℕ Denial) → IsAs (moves_at state dev own ask goes) (moves_at (bare state) dev own ask goes)
unfolding moving_at
moves_bare state dev own None goes = record { left = refl; answered = refl }
moves_bare state dev own (Some ask) goes =
    let same : effect_at state.machine state.messages (request_of own.0 ask) ask goes ≡ effect_at (bare state).machine state.messages (request_of own.0 ask) ask goes =
    sym (effect_bare state.machine state.messages (request_of own.0 ask) ask goes) in
    record {
      left = ap (λ (e : Effect). bare (device_row state dev own e).state) same;
      answered = ap (λ (e : Effect). (device_row state dev own e).answer) same;
    }

device_bare : (state : State) (dev : ℕ) (slot : Option (ℕ × Device)) (goes : Result ℕ Denial) → IsAs (device_row_led state dev slot goes) (device_row_led (bare state) dev slot goes)
device_bare state dev None goes = record { left = refl; answered = refl }
device_bare state dev (Some own) goes = moves_bare state dev own (asks own.1) goes

acted_bare : (state : State) (taken : Step) (goes : Result ℕ Denial) → IsAs (acted_row state taken (Some goes)) (acted_row (bare state) taken (Some goes))
unfolding acted acted_row asked after_command executed_by messages_after_command
acted_bare state (step.Load addr size) goes = record { left = refl; answered = refl }
acted_bare state (step.Store addr size value) goes = record { left = refl; answered = refl }
acted_bare state (step.RegRead off size) goes = record { left = refl; answered = refl }
acted_bare state (step.RegWrite off size value) goes = record { left = refl; answered = refl }
acted_bare state step.Command goes = record { left = refl; answered = refl }
acted_bare state (step.Settle register) goes = record { left = refl; answered = refl }
acted_bare state (step.DmaRead did iova len) goes =
    as_given _ _ _ _ (read_row state did iova len goes) (read_row (bare state) did iova len goes) (dma_bare state (asked (bare state) (step.DmaRead did iova len)) goes)
acted_bare state (step.DmaWrite did iova bytes) goes =
    as_given _ _ _ _ (write_row state did iova bytes goes) (write_row (bare state) did iova bytes goes) (dma_bare state (asked (bare state) (step.DmaWrite did iova bytes)) goes)
acted_bare state (step.Translate did iova kind) goes =
    as_given _ _ _ _ (translate_row state did iova kind goes) (translate_row (bare state) did iova kind goes) (translation_bare state (asked (bare state) (step.Translate did iova kind)) goes)
acted_bare state (step.DevRead dev off size) goes = record { left = refl; answered = refl }
acted_bare state (step.DevWrite dev off size value) goes = written_is state dev (slice_get state.devices dev) off size value
acted_bare state (step.Device dev) goes =
    as_given _ _ _ _ (device_row_is state dev goes) (device_row_is (bare state) dev goes) (device_bare state dev (slice_get state.devices dev) goes)

pub row_bare : (state : State) (taken : Step) (goes : Result ℕ Denial) → IsAs (row state taken (Some goes)) (row (bare state) taken (Some goes))
unfolding row
row_bare state taken goes = interrupts_as state taken (acted_row state taken (Some goes)) (acted_row (bare state) taken (Some goes)) (acted_bare state taken goes)

pub row_unled_is : (state : State) (taken : Step) → row state taken None ≡ next state taken
unfolding row next
row_unled_is state taken = ap (interrupted state taken) (row_unled state taken)

-- a step that makes no access
pub row_bare_none : (state : State) (taken : Step) → asked (bare state) taken ≡ None → IsAs (row state taken None) (row (bare state) taken None)
row_bare_none state taken none =
    as_given (row state taken None) (row (bare state) taken None) (next state taken) (row (bare state) taken (our_led none_ahead state (asked (bare state) taken)))
    (row_unled_is state taken) (ap (λ (asking : Option Asking). row (bare state) taken (our_led none_ahead state asking)) (sym none)) (row_is none_ahead state taken)
