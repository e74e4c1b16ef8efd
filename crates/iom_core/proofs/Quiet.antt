-- A step that may raise no interrupt signals nothing.
use Rattle.std.proofs.Common.{◌≡◌, ◌∙◌, ◌&&◌, ℕ, Bool, true, false, not, Option, Some, None, Result, Ok, Err, if◌then◌else◌, refl, sym, ap}
use Rattle.std.specs.Prelude.{slice_get}
use Rattle.std.specs.Option.{option_map}
use Rattle.iom_blk.specs.Device.{Device}
use Rattle.iom_blk.specs.Phases.{asks}
use Rattle.iom_regs.specs.Busy.{is_busy_at, settled}
use Rattle.iom_regs.specs.Interrupts.{freed, pending_left}
use Rattle.iom_regs.specs.Table.{Registers, after_write, is_legal}
use Rattle.iom_regs.specs.declared.busy.Busy.{Busy}
use Rattle.iom_regs.specs.declared.busy.Busy.TheVariants as busy
use Rattle.iom_signals.specs.declared.signalling.Noted.{Noted}
use Rattle.iom_signals.proofs.Signals.{quiet}
use Rattle.iom_virtq.specs.Bus.{Ask, Read, Write}
use Rattle.iom_messages.specs.Messages.{Messages}
use Rattle.iom_core.specs.Access.{effect, effect_at}
use Rattle.iom_core.specs.Reach.{is_denied, may_raise, raises_by}
use Rattle.iom_core.specs.State.{Machine, State}
use Rattle.iom_core.specs.Table.{Asking, Written, acted, address_in, after_settling, asked, asked_by, asking_for, device_step, fits, is_size, moving, next, noted, noted_write, outside_of, probed, reg_write, request_in, translated, unwritten, with_outside_of, with_signals}
use Rattle.iom_core.specs.declared.access.Denial.{Denial}
use Rattle.iom_core.specs.declared.access.Request.{Request}
use Rattle.iom_core.specs.declared.step.Answer.TheVariants as answer
use Rattle.iom_core.specs.declared.step.Step.{Step}
use Rattle.iom_core.specs.declared.step.Step.TheVariants as step
use Rattle.iom_core.proofs.Moments.{written-machine}

-- the registers that a state has
abbrev regs : State → Registers
regs state = state.machine.registers

granted_kept : (m : Machine) (messages : Messages) (request : Request) (ask : Ask) (led_to : Result ℕ Denial) → is_denied led_to ≡ false →
    (effect_at m messages request ask led_to).registers ≡ m.registers
granted_kept m messages request (Read iova count) (Ok addr) granted = refl
granted_kept m messages request (Write iova bytes) (Ok addr) granted = refl
granted_kept m messages request ask (Err denial) granted = absurd (cc)

probed_kept : (state : State) (asking : Option Asking) → raises_by state asking ≡ false → regs (probed state asking).state ≡ regs state
unfolding effect
probed_kept state None quiet = refl
probed_kept state (Some asking) quiet = granted_kept state.machine state.messages (request_in asking) asking.ask (address_in state asking) quiet

translated_kept : (state : State) (asking : Option Asking) → raises_by state asking ≡ false → regs (translated state asking).state ≡ regs state
unfolding effect
translated_kept state None quiet = refl
translated_kept state (Some asking) quiet = granted_kept state.machine state.messages (request_in asking) asking.ask (address_in state asking) quiet

moved_kept : (state : State) (dev : ℕ) (slot : Option (ℕ × Device)) → raises_by state (asked_by slot) ≡ false → regs (device_step state dev slot).state ≡ regs state
unfolding moving effect
moved_kept state dev None = λ quiet. refl
moved_kept state dev (Some own) = elim (asks own.1) as (λ (o : Option Ask).
    raises_by state (option_map (asking_for own.0) o) ≡ false → (moving state.machine state.messages own.0 own.1 o).machine.registers ≡ regs state) [
      | None ↦ λ quiet. refl
      | Some ask ↦ λ quiet. granted_kept state.machine state.messages (request_in (asking_for own.0 ask)) ask (address_in state (asking_for own.0 ask)) quiet
    ]

-- settling changes no pending interrupt
settled_kept : (r : Registers) (register : Busy) → (after_settling register r).ipsr ≡ r.ipsr
settled_kept r register = elim (is_busy_at r register) as (λ b. (if b then settled register r else r).ipsr ≡ r.ipsr) [
  | true ↦ elim register as (λ (one : Busy). (settled one r).ipsr ≡ r.ipsr) [
    | busy.Directory ↦ refl
    | busy.Commands ↦ refl
    | busy.Faults ↦ refl
  ]
  | false ↦ refl
]

pending_kept : (state : State) (taken : Step) → may_raise state taken ≡ false → (regs (acted state taken).state).ipsr ≡ (regs state).ipsr
unfolding acted may_raise asked
pending_kept state (step.Load addr size) quiet = refl
pending_kept state (step.Store addr size value) quiet = refl
pending_kept state (step.RegRead off size) quiet = refl
pending_kept state (step.RegWrite off size value) quiet = absurd (cc)
pending_kept state step.Command quiet = absurd (cc)
pending_kept state (step.Settle register) quiet = settled_kept (regs state) register
pending_kept state (step.DmaRead did iova len) quiet = ap (λ (r : Registers). r.ipsr) (probed_kept state (asked state (step.DmaRead did iova len)) quiet)
pending_kept state (step.DmaWrite did iova bytes) quiet = ap (λ (r : Registers). r.ipsr) (probed_kept state (asked state (step.DmaWrite did iova bytes)) quiet)
pending_kept state (step.Translate did iova kind) quiet = ap (λ (r : Registers). r.ipsr) (translated_kept state (asked state (step.Translate did iova kind)) quiet)
pending_kept state (step.DevRead dev off size) quiet = refl
pending_kept state (step.DevWrite dev off size value) quiet = ap (λ (m : Machine). m.registers.ipsr) (written-machine state dev (slice_get state.devices dev) off size value)
pending_kept state (step.Device dev) quiet = ap (λ (r : Registers). r.ipsr) (moved_kept state dev (slice_get state.devices dev) quiet)

noted_alone : (state : State) (taken : Step) → may_raise state taken ≡ false → noted state taken ≡ unwritten (regs state)
unfolding noted may_raise asked
noted_alone state (step.Load addr size) quiet = refl
noted_alone state (step.Store addr size value) quiet = refl
noted_alone state (step.RegRead off size) quiet = refl
noted_alone state (step.RegWrite off size value) quiet = absurd (cc)
noted_alone state step.Command quiet = refl
noted_alone state (step.Settle register) quiet = refl
noted_alone state (step.DmaRead did iova len) quiet = refl
noted_alone state (step.DmaWrite did iova bytes) quiet = refl
noted_alone state (step.Translate did iova kind) quiet = refl
noted_alone state (step.DevRead dev off size) quiet = refl
noted_alone state (step.DevWrite dev off size value) quiet = refl
noted_alone state (step.Device dev) quiet = refl

-- where the pending interrupts are as they were, nothing is signalled
pub still : (before : ℕ) (state : State) → before ≡ (regs state).ipsr → with_signals (record { freed = None; before = before }) state ≡ state
unfolding with_signals
still before state same = ap (with_outside_of state) (quiet before (outside_of state) same)

pub next_quiet : (state : State) (taken : Step) → may_raise state taken ≡ false → (next state taken).state ≡ (acted state taken).state
unfolding next
next_quiet state taken none =
    let after = (acted state taken).state in
    ap (λ noted. with_signals noted after) (noted_alone state taken none) ∙ still (regs state).ipsr after (sym (pending_kept state taken none))

-- a refused write lets nothing go, and clears nothing
refused_write : (r : Registers) (off size value : ℕ) → ((reg_write r off size value).answer ≡ answer.Done → ⊥) → noted_write r off size value ≡ unwritten r
unfolding reg_write noted_write
refused_write r off size value refused =
    let legal : Bool → Written = λ b. if b then record { answer = answer.Done; registers = after_write r off size value } else record { answer = answer.BadAccess; registers = r } in
    let given : Bool → Written = λ b. if b then record { answer = answer.Misuse; registers = r } else legal (is_legal r.features off size) in
    let note : Bool → Noted = λ b. if b then record { freed = freed r off size value; before = pending_left r off size value } else unwritten r in
    elim (is_size size && not (fits value size)) as (λ b. ((given b).answer ≡ answer.Done → ⊥) → (if b then unwritten r else note (is_legal r.features off size)) ≡ unwritten r) [
      | true ↦ λ no. refl
      | false ↦ elim (is_legal r.features off size) as (λ b. ((legal b).answer ≡ answer.Done → ⊥) → note b ≡ unwritten r) [
        | true ↦ λ no. absurd (no refl)
        | false ↦ λ no. refl
      ]
    ] refused

noted_of_refusal : (state : State) (taken : Step) → ((acted state taken).answer ≡ answer.Done → ⊥) → noted state taken ≡ unwritten (regs state)
unfolding noted acted
noted_of_refusal state (step.Load addr size) refused = refl
noted_of_refusal state (step.Store addr size value) refused = refl
noted_of_refusal state (step.RegRead off size) refused = refl
noted_of_refusal state (step.RegWrite off size value) refused = refused_write (regs state) off size value refused
noted_of_refusal state step.Command refused = refl
noted_of_refusal state (step.Settle register) refused = refl
noted_of_refusal state (step.DmaRead did iova len) refused = refl
noted_of_refusal state (step.DmaWrite did iova bytes) refused = refl
noted_of_refusal state (step.Translate did iova kind) refused = refl
noted_of_refusal state (step.DevRead dev off size) refused = refl
noted_of_refusal state (step.DevWrite dev off size value) refused = refl
noted_of_refusal state (step.Device dev) refused = refl

-- a refusal that leaves the registers as they are signals nothing
pub refusal_quiet : (state : State) (taken : Step) → ((acted state taken).answer ≡ answer.Done → ⊥) → regs (acted state taken).state ≡ regs state →
    (next state taken).state ≡ (acted state taken).state
unfolding next
refusal_quiet state taken refused same =
    let after = (acted state taken).state in
    ap (λ noted. with_signals noted after) (noted_of_refusal state taken refused) ∙ still (regs state).ipsr after (sym (ap (λ (r : Registers). r.ipsr) same))
