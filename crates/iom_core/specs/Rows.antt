-- The rows of the step table for an access that goes to a given address, or is denied so. A step that makes no access has the row of the step table.
use Rattle.std.specs.Prelude.{ℕ, slice_get, Option, Some, None, Result}
use Rattle.iom_blk.specs.Device.{Device}
use Rattle.iom_blk.specs.Phases.{asks, moved_of, took}
use Rattle.iom_blk.specs.declared.want.Moved.TheVariants as moved
use Rattle.iom_virtq.specs.Bus.{Ask}
use Rattle.iom_core.specs.Access.{Effect, effect_at, request_of}
use Rattle.iom_core.specs.Looking.{uncached}
use Rattle.iom_core.specs.State.{Machine, State, with_device, with_machine, with_outside}
use Rattle.iom_messages.specs.Messages.{Messages}
use Rattle.iom_core.specs.Table.{Asking, Moving, Outcome, answer_by_address, answer_by_reply, answer_of, acted, asked, interrupted, stays}
use Rattle.iom_core.specs.declared.access.Denial.{Denial}
use Rattle.iom_core.specs.declared.step.Answer.TheVariants as answer
use Rattle.iom_core.specs.declared.step.Step.{Step}
use Rattle.iom_core.specs.declared.step.Step.TheVariants as step

-- the state with nothing in this model's own caches
abbrev pub bare : State → State
bare state = with_machine state (uncached state.machine)

-- the bus's answer to an access that goes there, and what it leaves
abbrev pub effect_by : State → Asking → Result ℕ Denial → Effect
effect_by state asking goes =
    effect_at state.machine state.messages (request_of asking.did asking.ask) asking.ask goes

abbrev pub machine_by : Machine → Effect → Machine
machine_by m effect = record m { memory = effect.memory; registers = effect.registers }

abbrev pub state_by : State → Effect → State
state_by state effect = with_outside state (machine_by state.machine effect) effect.messages

-- the row of an access of a script, and that of a block device's own access
abbrev pub dma_row : State → Asking → Effect → Outcome
dma_row state asking effect = record {
  answer = answer_by_reply asking.ask effect.reply;
  state = state_by state effect;
}

-- the row of a request for a translation
abbrev pub translation_row : State → Asking → Result ℕ Denial → Outcome
translation_row state asking goes = record {
  answer = answer_by_address goes;
  state = with_machine state (machine_by state.machine (effect_by state asking goes));
}

abbrev pub device_row : State → ℕ → ℕ × Device → Effect → Outcome
device_row state dev own effect = record {
  answer = answer_of (moved_of effect.reply.access);
  state = with_device (state_by state effect) dev own.0 (took own.1 effect.reply);
}

abbrev pub device_row_of : State → ℕ → Option (ℕ × Device) → Asking → Result ℕ Denial → Outcome
device_row_of state dev None asking goes = acted state (step.Device dev)
device_row_of state dev (Some own) asking goes = device_row state dev own (effect_by state asking goes)

abbrev pub access_row : State → Step → Asking → Result ℕ Denial → Outcome
access_row state (step.Device dev) asking goes = device_row_of state dev (slice_get state.devices dev) asking goes
access_row state (step.Translate did iova kind) asking goes = translation_row state asking goes
access_row state _ asking goes = dma_row state asking (effect_by state asking goes)

abbrev pub row_of : State → Step → Option Asking → Option (Result ℕ Denial) → Outcome
row_of state taken None goes = acted state taken
row_of state taken (Some asking) None = acted state taken
row_of state taken (Some asking) (Some goes) = access_row state taken asking goes

unfoldable pub acted_row : State → Step → Option (Result ℕ Denial) → Outcome
acted_row state taken goes = row_of state taken (asked state taken) goes

-- and then the interrupts by message that the step raises
unfoldable pub row : State → Step → Option (Result ℕ Denial) → Outcome
row state taken goes = interrupted state taken (acted_row state taken goes)

-- The rows by what a step asks: a device may not ask for an access (None), or there is no such block device.
abbrev pub dma_row_led : State → Option Asking → Result ℕ Denial → Outcome
dma_row_led state None goes = stays state answer.Misuse
dma_row_led state (Some asking) goes = dma_row state asking (effect_by state asking goes)

abbrev pub translation_row_led : State → Option Asking → Result ℕ Denial → Outcome
translation_row_led state None goes = stays state answer.Misuse
translation_row_led state (Some asking) goes = translation_row state asking goes

-- what a step of a device returns, and the machine, the messages and the device after it, if the access that it asks for goes there
unfoldable pub moving_at : Machine → Messages → ℕ → Device → Option Ask → Result ℕ Denial → Moving
moving_at m messages did device None goes = record { told = moved.Idle; machine = m; messages = messages; device = device }
moving_at m messages did device (Some ask) goes = record {
  told = moved_of (effect_at m messages (request_of did ask) ask goes).reply.access;
  machine = machine_by m (effect_at m messages (request_of did ask) ask goes);
  messages = (effect_at m messages (request_of did ask) ask goes).messages;
  device = took device (effect_at m messages (request_of did ask) ask goes).reply;
}

abbrev pub moves_at : State → ℕ → ℕ × Device → Option Ask → Result ℕ Denial → Outcome
moves_at state dev own ask goes = record {
  answer = answer_of (moving_at state.machine state.messages own.0 own.1 ask goes).told;
  state = with_device (with_outside state (moving_at state.machine state.messages own.0 own.1 ask goes).machine
      (moving_at state.machine state.messages own.0 own.1 ask goes).messages) dev own.0
      (moving_at state.machine state.messages own.0 own.1 ask goes).device;
}

abbrev pub device_row_led : State → ℕ → Option (ℕ × Device) → Result ℕ Denial → Outcome
device_row_led state dev None goes = stays state answer.NoDevice
device_row_led state dev (Some own) goes = moves_at state dev own (asks own.1) goes
