-- What a step changes, takes and refuses, row by row of the step table.
use Rattle.std.proofs.Common.{◌≡◌, ◌&&◌, ℕ, List, [], ◌∷◌, length, Bool, true, false, not, Option, Some, None, Ok, Err, if◌then◌else◌, refl, sym, subst}
use Rattle.std.specs.Prelude.{is_some, slice_get}
use Rattle.iom_bits.specs.Bytes.{bytes_of_number}
use Rattle.iom_bits.proofs.Bytes.{length_of_number}
use Rattle.iom_mem.specs.Memory.{Memory, bytes_at, put}
use Rattle.iom_messages.specs.Messages.{Messages, can_put}
use Rattle.iom_regs.specs.Busy.{is_busy_at}
use Rattle.iom_regs.specs.Table.{after_write, is_legal, read}
use Rattle.iom_blk.specs.Device.{Device}
use Rattle.iom_queue.specs.declared.command.Command.TheVariants.{Vma, Gvma, Fence, Iodir}
use Rattle.iom_queue.specs.declared.fetch.Fetch.{Fetch}
use Rattle.iom_queue.specs.declared.fetch.Fetch.TheVariants as fetch
use Rattle.iom_core.specs.State.{State, Machine, with_outside}
use Rattle.iom_core.specs.Access.{effect, served}
use Rattle.iom_core.specs.Commands.{after_command, executed_by, executed_of, fetched, is_taken, memory_left, messages_after_command, messages_left}
use Rattle.iom_core.specs.Table.{Asking, Stored, Written, acted, address_in, after_settling, answer_by_address, asked, dev_written, executed, fits, idle_or_done, is_aligned, is_size, load, probed, put_inside, reg_read, reg_write, request_in, store, translated, value_of, value_or_bad, with_memory, with_registers}
use Rattle.iom_core.specs.Reach.{Breaks, ChangesOnly, DeviceGoesOn, KeepsDevices, RefusesAlone, SendsAlone, SendsBy, SendsByCommand, Span, Takes, TakesBy, span_of, span_of_access, span_of_command}
use Rattle.iom_core.specs.declared.step.Step.{Step}
use Rattle.iom_core.specs.declared.step.Step.TheVariants as step
use Rattle.iom_core.specs.declared.step.Answer.TheVariants.{Done, BusError, BadAccess, Misuse}
use Rattle.iom_signals.proofs.Puts.{put_changes_only, same_memory}
use Rattle.iom_core.proofs.Effects.{address_refuses, effect_changes, effect_refuses, effect_sends, effect_takes, put_sends, sends_nothing}
use Rattle.iom_core.proofs.Moments.{written-machine}
use Rattle.iom_core.proofs.Moved.{dev_read_refuses, dev_write_refuses, moved_breaks, moved_changes, moved_devices, moved_goes_on, moved_refuses, moved_sends, moved_takes, written_devices}

-- Each row of the step table.
probed_changes : (state : State) (asking : Option Asking) →
    ChangesOnly (span_of_access state asking) state.machine.memory (probed state asking).state.machine.memory
unfolding effect
probed_changes state None = same_memory state.machine.memory []
probed_changes state (Some asking) = effect_changes state.machine state.messages (request_in asking) asking.ask (address_in state asking)

translated_changes : (state : State) (asking : Option Asking) →
    ChangesOnly (span_of_access state asking) state.machine.memory (translated state asking).state.machine.memory
unfolding effect
translated_changes state None = same_memory state.machine.memory []
translated_changes state (Some asking) = effect_changes state.machine state.messages (request_in asking) asking.ask (address_in state asking)

probed_devices : (state : State) (asking : Option Asking) → (probed state asking).state.devices ≡ state.devices
probed_devices state None = refl
probed_devices state (Some asking) = refl

translated_devices : (state : State) (asking : Option Asking) → (translated state asking).state.devices ≡ state.devices
translated_devices state None = refl
translated_devices state (Some asking) = refl

store_changes : (memory : Memory) (addr size value : ℕ) → ChangesOnly (record { addr = addr; count = size } ∷ []) memory (store memory addr size value).memory
unfolding store
store_changes memory addr size value =
    let span : List Span = record { addr = addr; count = size } ∷ [] in
    let bytes = bytes_of_number size value in
    let count : length bytes ≡ size = length_of_number size value in
    let inside : Bool → Stored = λ b. if b then record { answer = Done; memory = put memory addr bytes } else record { answer = BusError; memory = memory } in
    let given : Bool → Stored = λ b. if b then put_inside memory addr bytes else record { answer = Misuse; memory = memory } in
    let Goal : Bool → Type 0 = λ b. is_some (bytes_at memory addr (length bytes)) ≡ b → ChangesOnly span memory (inside b).memory in
    let by_place : (b : Bool) → Goal b = λ b. elim b as Goal [
      | true ↦ λ is. subst (λ (n : ℕ). ChangesOnly (record { addr = addr; count = n } ∷ []) memory (put memory addr bytes)) count (put_changes_only memory addr bytes is)
      | false ↦ λ is. same_memory memory span
    ] in
    elim (is_aligned addr size && fits value size) as (λ b. ChangesOnly span memory (given b).memory) [
      | true ↦ by_place (is_some (bytes_at memory addr (length bytes))) refl
      | false ↦ same_memory memory span
    ]

executed_changes : (m : Machine) (messages : Messages) (found : Fetch) →
    ChangesOnly (span_of_command (executed_of m.memory messages found)) m.memory (memory_left m.memory (executed_of m.memory messages found))
executed_changes m messages fetch.Idle = same_memory m.memory []
executed_changes m messages fetch.Fault = same_memory m.memory []
executed_changes m messages fetch.Illegal = same_memory m.memory []
executed_changes m messages (fetch.Ready (Vma av page pscv pscid gv gscid nl s)) = same_memory m.memory []
executed_changes m messages (fetch.Ready (Gvma av page pscid gv gscid nl s)) = same_memory m.memory []
executed_changes m messages (fetch.Ready (Fence true wsi pr pw value addr)) =
    let command = Fence true wsi pr pw value addr in
    let bytes = bytes_of_number 4 value in
    let span : List Span = record { addr = addr; count = 4 } ∷ [] in
    let Goal : Bool → Type 0 = λ b. is_some (bytes_at m.memory addr (length bytes)) ≡ b →
    ChangesOnly span m.memory (if b then put m.memory addr bytes else m.memory) in
    let by_place : (b : Bool) → Goal b = λ b. elim b as Goal [
      | true ↦ λ is. put_changes_only m.memory addr bytes is
      | false ↦ λ is. same_memory m.memory span
    ] in
    elim (can_put m.memory messages addr bytes) as
    (λ b. ChangesOnly (span_of_command (if b then Some command else None)) m.memory (memory_left m.memory (if b then Some command else None))) [
      | true ↦ by_place (is_some (bytes_at m.memory addr (length bytes))) refl
      | false ↦ same_memory m.memory []
    ]
executed_changes m messages (fetch.Ready (Fence false wsi pr pw value addr)) = same_memory m.memory []
executed_changes m messages (fetch.Ready (Iodir dv did)) = same_memory m.memory []

command_changes : (m : Machine) (messages : Messages) → ChangesOnly (span_of_command (executed_by m messages)) m.memory (after_command m messages).memory
unfolding after_command executed_by
command_changes m messages = executed_changes m messages (fetched m)

-- a write of a device's register sends nothing
written_sends : (state : State) (dev : ℕ) (slot : Option (ℕ × Device)) (off size value : ℕ) →
    (dev_written state dev slot off size value).state.messages ≡ state.messages
written_sends state dev None off size value = refl
written_sends state dev (Some own) off size value = refl

-- What each row sends.
probed_sends : (state : State) (asking : Option Asking) → SendsBy state asking state.messages (probed state asking).state.messages
unfolding effect
probed_sends state None = refl
probed_sends state (Some asking) = effect_sends state.machine state.messages (request_in asking) asking.ask (address_in state asking)

translated_sends : (state : State) (asking : Option Asking) → SendsBy state asking state.messages (translated state asking).state.messages
translated_sends state None = refl
translated_sends state (Some asking) = sends_nothing asking.ask (address_in state asking) state.messages

executed_sends : (m : Machine) (messages : Messages) (found : Fetch) →
    SendsByCommand (executed_of m.memory messages found) messages (messages_left m.memory messages (executed_of m.memory messages found))
executed_sends m messages fetch.Idle = refl
executed_sends m messages fetch.Fault = refl
executed_sends m messages fetch.Illegal = refl
executed_sends m messages (fetch.Ready (Vma av page pscv pscid gv gscid nl s)) = refl
executed_sends m messages (fetch.Ready (Gvma av page pscid gv gscid nl s)) = refl
executed_sends m messages (fetch.Ready (Fence true wsi pr pw value addr)) =
    let command = Fence true wsi pr pw value addr in
    elim (can_put m.memory messages addr (bytes_of_number 4 value)) as
    (λ b. SendsByCommand (if b then Some command else None) messages (messages_left m.memory messages (if b then Some command else None))) [
      | true ↦ put_sends m.memory messages addr (bytes_of_number 4 value)
      | false ↦ refl
    ]
executed_sends m messages (fetch.Ready (Fence false wsi pr pw value addr)) = refl
executed_sends m messages (fetch.Ready (Iodir dv did)) = refl

command_sends : (state : State) → SendsByCommand (executed state step.Command) state.messages (acted state step.Command).state.messages
unfolding acted executed executed_by messages_after_command
command_sends state = executed_sends state.machine state.messages (fetched state.machine)

pub sends : (state : State) (taken : Step) → SendsAlone state taken state.messages (acted state taken).state.messages
unfolding acted asked
sends state (step.Load addr size) = refl
sends state (step.Store addr size value) = refl
sends state (step.RegRead off size) = refl
sends state (step.RegWrite off size value) = refl
sends state step.Command = command_sends state
sends state (step.Settle register) = refl
sends state (step.DmaRead did iova len) = probed_sends state (asked state (step.DmaRead did iova len))
sends state (step.DmaWrite did iova bytes) = probed_sends state (asked state (step.DmaWrite did iova bytes))
sends state (step.Translate did iova kind) = translated_sends state (asked state (step.Translate did iova kind))
sends state (step.DevRead dev off size) = refl
sends state (step.DevWrite dev off size value) = written_sends state dev (slice_get state.devices dev) off size value
sends state (step.Device dev) = moved_sends state dev (slice_get state.devices dev)

pub changes : (state : State) (taken : Step) → ChangesOnly (span_of state taken) state.machine.memory (acted state taken).state.machine.memory
unfolding acted executed asked
changes state (step.Load addr size) = same_memory state.machine.memory []
changes state (step.Store addr size value) = store_changes state.machine.memory addr size value
changes state (step.RegRead off size) = same_memory state.machine.memory []
changes state (step.RegWrite off size value) = same_memory state.machine.memory []
changes state step.Command = command_changes state.machine state.messages
changes state (step.Settle register) = same_memory state.machine.memory []
changes state (step.DmaRead did iova len) = probed_changes state (asked state (step.DmaRead did iova len))
changes state (step.DmaWrite did iova bytes) = probed_changes state (asked state (step.DmaWrite did iova bytes))
changes state (step.Translate did iova kind) = translated_changes state (asked state (step.Translate did iova kind))
changes state (step.DevRead dev off size) = same_memory state.machine.memory []
changes state (step.DevWrite dev off size value) =
    subst (λ (m : Machine). ChangesOnly [] state.machine.memory m.memory) (sym (written-machine state dev (slice_get state.devices dev) off size value))
    (same_memory state.machine.memory [])
changes state (step.Device dev) = moved_changes state dev (slice_get state.devices dev)

probed_takes : (state : State) (asking : Option Asking) → Takes state asking (probed state asking).answer
unfolding effect
probed_takes state None = tt
probed_takes state (Some asking) = effect_takes state.machine state.messages (request_in asking) asking.ask (address_in state asking)

translated_takes : (state : State) (asking : Option Asking) → Takes state asking (translated state asking).answer
translated_takes state None = tt
translated_takes state (Some asking) =
    elim (address_in state asking) as (λ led_to. TakesBy state.machine.memory asking.ask (address_in state asking) (answer_by_address led_to)) [
      | Ok addr ↦ tt
      | Err denial ↦ tt
    ]

pub takes : (state : State) (taken : Step) → Takes state (asked state taken) (acted state taken).answer
unfolding acted asked
takes state (step.Load addr size) = tt
takes state (step.Store addr size value) = tt
takes state (step.RegRead off size) = tt
takes state (step.RegWrite off size value) = tt
takes state step.Command = tt
takes state (step.Settle register) = tt
takes state (step.DmaRead did iova len) = probed_takes state (asked state (step.DmaRead did iova len))
takes state (step.DmaWrite did iova bytes) = probed_takes state (asked state (step.DmaWrite did iova bytes))
takes state (step.Translate did iova kind) = translated_takes state (asked state (step.Translate did iova kind))
takes state (step.DevRead dev off size) = tt
takes state (step.DevWrite dev off size value) = tt
takes state (step.Device dev) = moved_takes state dev (slice_get state.devices dev)

probed_refuses : (state : State) (asking : Option Asking) → RefusesAlone (probed state asking).answer state (probed state asking).state
unfolding effect
probed_refuses state None = refl
probed_refuses state (Some asking) =
    effect_refuses state (probed state (Some asking)).state (request_in asking) asking.ask (address_in state asking)
    (record { memory = refl; registers = refl; messages = refl })

translated_refuses : (state : State) (asking : Option Asking) → RefusesAlone (translated state asking).answer state (translated state asking).state
unfolding effect
translated_refuses state None = refl
translated_refuses state (Some asking) =
    address_refuses state (request_in asking) asking.ask (address_in state asking) (served state.machine state.messages asking.did asking.ask).machine refl refl

load_refuses : (state : State) (addr size : ℕ) → RefusesAlone (load state.machine.memory addr size) state state
unfolding load
load_refuses state addr size =
    let memory = state.machine.memory in
    elim (is_aligned addr size) as (λ b. RefusesAlone (if b then value_of (bytes_at memory addr size) else Misuse) state state) [
      | true ↦ elim (bytes_at memory addr size) as (λ o. RefusesAlone (value_of o) state state) [
        | Some bytes ↦ tt
        | None ↦ (refl, refl, refl)
      ]
      | false ↦ refl
    ]

store_refuses : (state : State) (addr size value : ℕ) →
    RefusesAlone (store state.machine.memory addr size value).answer state (with_memory state (store state.machine.memory addr size value).memory)
unfolding store
store_refuses state addr size value =
    let memory = state.machine.memory in
    let bytes = bytes_of_number size value in
    let inside : Bool → Stored = λ b. if b then record { answer = Done; memory = put memory addr bytes } else record { answer = BusError; memory = memory } in
    let given : Bool → Stored = λ b. if b then put_inside memory addr bytes else record { answer = Misuse; memory = memory } in
    elim (is_aligned addr size && fits value size) as (λ b. RefusesAlone (given b).answer state (with_memory state (given b).memory)) [
      | true ↦ elim (is_some (bytes_at memory addr (length bytes))) as (λ b. RefusesAlone (inside b).answer state (with_memory state (inside b).memory)) [
        | true ↦ tt
        | false ↦ (refl, refl, refl)
      ]
      | false ↦ refl
    ]

reg_read_refuses : (state : State) (off size : ℕ) → RefusesAlone (reg_read state.machine.registers off size) state state
unfolding reg_read
reg_read_refuses state off size =
    elim (read state.machine.registers off size) as (λ o. RefusesAlone (value_or_bad o) state state) [
      | Some value ↦ tt
      | None ↦ refl
    ]

reg_write_refuses : (state : State) (off size value : ℕ) →
    RefusesAlone (reg_write state.machine.registers off size value).answer state (with_registers state (reg_write state.machine.registers off size value).registers)
unfolding reg_write
reg_write_refuses state off size value =
    let registers = state.machine.registers in
    let legal : Bool → Written = λ b. if b then record { answer = Done; registers = after_write registers off size value } else record { answer = BadAccess; registers = registers } in
    let given : Bool → Written = λ b. if b then record { answer = Misuse; registers = registers } else legal (is_legal registers.features off size) in
    elim (is_size size && not (fits value size)) as (λ b. RefusesAlone (given b).answer state (with_registers state (given b).registers)) [
      | true ↦ refl
      | false ↦ elim (is_legal registers.features off size) as (λ b. RefusesAlone (legal b).answer state (with_registers state (legal b).registers)) [
        | true ↦ tt
        | false ↦ refl
      ]
    ]

pub refuses : (state : State) (taken : Step) → RefusesAlone (acted state taken).answer state (acted state taken).state
unfolding acted
refuses state (step.Load addr size) = load_refuses state addr size
refuses state (step.Store addr size value) = store_refuses state addr size value
refuses state (step.RegRead off size) = reg_read_refuses state off size
refuses state (step.RegWrite off size value) = reg_write_refuses state off size value
refuses state step.Command = elim (is_taken (fetched state.machine)) as (λ b. RefusesAlone (idle_or_done b) state (with_outside state (after_command state.machine state.messages) (messages_after_command state.machine state.messages))) [
  | true ↦ tt
  | false ↦ tt
]
refuses state (step.Settle register) = elim (is_busy_at state.machine.registers register) as (λ b. RefusesAlone (idle_or_done b) state
    (with_registers state (after_settling register state.machine.registers))) [
      | true ↦ tt
      | false ↦ tt
    ]
refuses state (step.DmaRead did iova len) = probed_refuses state (asked state (step.DmaRead did iova len))
refuses state (step.DmaWrite did iova bytes) = probed_refuses state (asked state (step.DmaWrite did iova bytes))
refuses state (step.Translate did iova kind) = translated_refuses state (asked state (step.Translate did iova kind))
refuses state (step.DevRead dev off size) = dev_read_refuses state (slice_get state.devices dev) off size
refuses state (step.DevWrite dev off size value) = dev_write_refuses state dev off size value
refuses state (step.Device dev) = moved_refuses state dev (slice_get state.devices dev)

pub devices : (state : State) (taken : Step) → KeepsDevices taken state.devices (acted state taken).state.devices
unfolding acted
devices state (step.Load addr size) = refl
devices state (step.Store addr size value) = refl
devices state (step.RegRead off size) = refl
devices state (step.RegWrite off size value) = refl
devices state step.Command = refl
devices state (step.Settle register) = refl
devices state (step.DmaRead did iova len) = probed_devices state (asked state (step.DmaRead did iova len))
devices state (step.DmaWrite did iova bytes) = probed_devices state (asked state (step.DmaWrite did iova bytes))
devices state (step.Translate did iova kind) = translated_devices state (asked state (step.Translate did iova kind))
devices state (step.DevRead dev off size) = refl
devices state (step.DevWrite dev off size value) = written_devices state dev off size value
devices state (step.Device dev) = moved_devices state dev

pub breaks : (state : State) (taken : Step) → Breaks taken (acted state taken).answer (acted state taken).state.devices
unfolding acted
breaks state (step.Load addr size) = tt
breaks state (step.Store addr size value) = tt
breaks state (step.RegRead off size) = tt
breaks state (step.RegWrite off size value) = tt
breaks state step.Command = tt
breaks state (step.Settle register) = tt
breaks state (step.DmaRead did iova len) = tt
breaks state (step.DmaWrite did iova bytes) = tt
breaks state (step.Translate did iova kind) = tt
breaks state (step.DevRead dev off size) = tt
breaks state (step.DevWrite dev off size value) = tt
breaks state (step.Device dev) = moved_breaks state dev

pub goes_on : (state : State) (taken : Step) → DeviceGoesOn state taken (acted state taken).answer (acted state taken).state.devices
unfolding acted asked
goes_on state (step.Load addr size) = tt
goes_on state (step.Store addr size value) = tt
goes_on state (step.RegRead off size) = tt
goes_on state (step.RegWrite off size value) = tt
goes_on state step.Command = tt
goes_on state (step.Settle register) = tt
goes_on state (step.DmaRead did iova len) = tt
goes_on state (step.DmaWrite did iova bytes) = tt
goes_on state (step.Translate did iova kind) = tt
goes_on state (step.DevRead dev off size) = tt
goes_on state (step.DevWrite dev off size value) = tt
goes_on state (step.Device dev) = moved_goes_on state dev
