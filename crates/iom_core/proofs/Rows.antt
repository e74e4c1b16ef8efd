-- The row of a step whose access goes to a given place, by what the step asks.
use Rattle.std.proofs.Common.{◌≡◌, ◌∙◌, ℕ, length, nat_lt, slice_get, Option, Some, None, Result, refl, ap}
use Rattle.std.specs.Option.{option_map}
use Rattle.iom_bits.specs.declared.causes.Kind.{Kind}
use Rattle.iom_blk.specs.Device.{Device}
use Rattle.iom_blk.specs.Phases.{asks}
use Rattle.iom_virtq.specs.Bus.{Ask, Read, Write}
use Rattle.iom_core.specs.Rows.{acted_row, device_row_led, device_row_of, dma_row_led, moves_at, moving_at, row_of, translation_row_led}
use Rattle.iom_core.specs.State.{State, device_id_end, with_device, with_outside}
use Rattle.iom_core.specs.Table.{Asking, Outcome, access_of_none, acted, answer_of, asked, asked_by, asking_for, asking_where, device_step, is_device_access, moving, probed, translated}
use Rattle.iom_core.specs.declared.access.Denial.{Denial}
use Rattle.iom_core.specs.declared.step.Step.{Step}
use Rattle.iom_core.specs.declared.step.Step.TheVariants as step

-- a row for which nothing is led, or nothing asked, is the step table's
pub row_unled : (state : State) (taken : Step) → acted_row state taken None ≡ acted state taken
unfolding acted_row
row_unled state taken = elim (asked state taken) as (λ asking. row_of state taken asking None ≡ acted state taken) [
  | None ↦ refl
  | Some asking ↦ refl
]

pub row_unasked : (state : State) (taken : Step) (goes : Option (Result ℕ Denial)) → asked state taken ≡ None → acted_row state taken goes ≡ acted state taken
unfolding acted_row
row_unasked state taken goes none = ap (λ (asking : Option Asking). row_of state taken asking goes) none

read_by : (state : State) (did iova len : ℕ) (goes : Result ℕ Denial) (o : Option Asking) → asked state (step.DmaRead did iova len) ≡ o →
    row_of state (step.DmaRead did iova len) o (Some goes) ≡ dma_row_led state o goes
unfolding acted
read_by state did iova len goes None is = ap (probed state) is
read_by state did iova len goes (Some asking) is = refl

pub read_row : (state : State) (did iova len : ℕ) (goes : Result ℕ Denial) → acted_row state (step.DmaRead did iova len) (Some goes) ≡ dma_row_led state (asked state (step.DmaRead did iova len)) goes
unfolding acted_row
read_row state did iova len goes = read_by state did iova len goes (asked state (step.DmaRead did iova len)) refl

write_by : (state : State) (did iova : ℕ) (bytes : _) (goes : Result ℕ Denial) (o : Option Asking) → asked state (step.DmaWrite did iova bytes) ≡ o →
    row_of state (step.DmaWrite did iova bytes) o (Some goes) ≡ dma_row_led state o goes
unfolding acted
write_by state did iova bytes goes None is = ap (probed state) is
write_by state did iova bytes goes (Some asking) is = refl

pub write_row : (state : State) (did iova : ℕ) (bytes : _) (goes : Result ℕ Denial) → acted_row state (step.DmaWrite did iova bytes) (Some goes) ≡ dma_row_led state (asked state (step.DmaWrite did iova bytes)) goes
unfolding acted_row
write_row state did iova bytes goes = write_by state did iova bytes goes (asked state (step.DmaWrite did iova bytes)) refl

translate_by : (state : State) (did iova : ℕ) (kind : Kind) (goes : Result ℕ Denial) (o : Option Asking) → asked state (step.Translate did iova kind) ≡ o →
    row_of state (step.Translate did iova kind) o (Some goes) ≡ translation_row_led state o goes
unfolding acted
translate_by state did iova kind goes None is = ap (translated state) is
translate_by state did iova kind goes (Some asking) is = refl

pub translate_row : (state : State) (did iova : ℕ) (kind : Kind) (goes : Result ℕ Denial) →
    acted_row state (step.Translate did iova kind) (Some goes) ≡ translation_row_led state (asked state (step.Translate did iova kind)) goes
unfolding acted_row
translate_row state did iova kind goes = translate_by state did iova kind goes (asked state (step.Translate did iova kind)) refl

-- a step of a block device, by what it asks
abbrev moved_by : State → ℕ → ℕ × Device → Option Ask → Outcome
moved_by state dev own ask = record {
  answer = answer_of (moving state.machine state.messages own.0 own.1 ask).told;
  state = with_device (with_outside state (moving state.machine state.messages own.0 own.1 ask).machine
      (moving state.machine state.messages own.0 own.1 ask).messages) dev own.0 (moving state.machine state.messages own.0 own.1 ask).device;
}

device_asked : (state : State) (dev : ℕ) (own : ℕ × Device) → slice_get state.devices dev ≡ Some own → (goes : Result ℕ Denial) (o : Option Ask) → asks own.1 ≡ o →
    row_of state (step.Device dev) (option_map (asking_for own.0) o) (Some goes) ≡ moves_at state dev own o goes
unfolding acted moving moving_at
device_asked state dev own there goes None none = ap (device_step state dev) there ∙ ap (moved_by state dev own) none
device_asked state dev own there goes (Some ask) some = ap (λ (slot : Option (ℕ × Device)). device_row_of state dev slot (asking_for own.0 ask) goes) there

device_by : (state : State) (dev : ℕ) (goes : Result ℕ Denial) (slot : Option (ℕ × Device)) → slice_get state.devices dev ≡ slot →
    row_of state (step.Device dev) (asked_by slot) (Some goes) ≡ device_row_led state dev slot goes
unfolding acted
device_by state dev goes None there = ap (device_step state dev) there
device_by state dev goes (Some own) there = device_asked state dev own there goes (asks own.1) refl

pub device_row_is : (state : State) (dev : ℕ) (goes : Result ℕ Denial) → acted_row state (step.Device dev) (Some goes) ≡ device_row_led state dev (slice_get state.devices dev) goes
unfolding acted_row asked
device_row_is state dev goes = device_by state dev goes (slice_get state.devices dev) refl

-- the row of a step that is one of these
pub unled : (state : State) (taken : Step) (goes : Option (Result ℕ Denial)) → goes ≡ None → acted_row state taken goes ≡ acted state taken
unled state taken goes none = ap (acted_row state taken) none ∙ row_unled state taken

pub read_led : (state : State) (taken : Step) (goes : Option (Result ℕ Denial)) (did iova len : ℕ) (place : Result ℕ Denial) → taken ≡ step.DmaRead did iova len → goes ≡ Some place →
    acted_row state taken goes ≡ dma_row_led state (asking_where (is_device_access did iova len) did (Read iova len)) place
unfolding asked
read_led state taken goes did iova len place is some = (λ n. acted_row state (is n) (some n)) ∙ read_row state did iova len place

pub write_led : (state : State) (taken : Step) (goes : Option (Result ℕ Denial)) (did iova : ℕ) (bytes : _) (place : Result ℕ Denial) → taken ≡ step.DmaWrite did iova bytes → goes ≡ Some place →
    acted_row state taken goes ≡ dma_row_led state (asking_where (is_device_access did iova (length bytes.items)) did (Write iova bytes.items)) place
unfolding asked
write_led state taken goes did iova bytes place is some = (λ n. acted_row state (is n) (some n)) ∙ write_row state did iova bytes place

pub translate_led : (state : State) (taken : Step) (goes : Option (Result ℕ Denial)) (did iova : ℕ) (kind : Kind) (place : Result ℕ Denial) → taken ≡ step.Translate did iova kind → goes ≡ Some place →
    acted_row state taken goes ≡ translation_row_led state (asking_where (nat_lt did device_id_end) did (access_of_none iova kind)) place
unfolding asked
translate_led state taken goes did iova kind place is some = (λ n. acted_row state (is n) (some n)) ∙ translate_row state did iova kind place

pub device_led : (state : State) (taken : Step) (goes : Option (Result ℕ Denial)) (dev : ℕ) (place : Result ℕ Denial) → taken ≡ step.Device dev → goes ≡ Some place →
    acted_row state taken goes ≡ device_row_led state dev (slice_get state.devices dev) place
device_led state taken goes dev place is some = (λ n. acted_row state (is n) (some n)) ∙ device_row_is state dev place

-- or none of these
unasked : (state : State) (taken : Step) → ((did iova len : ℕ) → taken ≡ step.DmaRead did iova len → ⊥) → ((did iova : ℕ) (bytes : _) → taken ≡ step.DmaWrite did iova bytes → ⊥) →
    ((did iova : ℕ) (kind : Kind) → taken ≡ step.Translate did iova kind → ⊥) → ((dev : ℕ) → taken ≡ step.Device dev → ⊥) → asked state taken ≡ None
unfolding asked
unasked state (step.Load addr size) read write translate device = refl
unasked state (step.Store addr size value) read write translate device = refl
unasked state (step.RegRead off size) read write translate device = refl
unasked state (step.RegWrite off size value) read write translate device = refl
unasked state step.Command read write translate device = refl
unasked state (step.Settle register) read write translate device = refl
unasked state (step.DmaRead did iova len) read write translate device = absurd (read did iova len refl)
unasked state (step.DmaWrite did iova bytes) read write translate device = absurd (write did iova bytes refl)
unasked state (step.Translate did iova kind) read write translate device = absurd (translate did iova kind refl)
unasked state (step.DevRead dev off size) read write translate device = refl
unasked state (step.DevWrite dev off size value) read write translate device = refl
unasked state (step.Device dev) read write translate device = absurd (device dev refl)

pub others_led : (state : State) (taken : Step) (goes : Option (Result ℕ Denial)) → ((did iova len : ℕ) → taken ≡ step.DmaRead did iova len → ⊥) → ((did iova : ℕ) (bytes : _) → taken ≡ step.DmaWrite did iova bytes → ⊥) →
    ((did iova : ℕ) (kind : Kind) → taken ≡ step.Translate did iova kind → ⊥) → ((dev : ℕ) → taken ≡ step.Device dev → ⊥) → acted_row state taken goes ≡ acted state taken
others_led state taken goes read write translate device = row_unasked state taken goes (unasked state taken read write translate device)
