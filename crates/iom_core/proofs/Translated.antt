-- What an access of no byte leaves: what was read is cached, and a denial leaves its record.
use Rattle.std.proofs.Common.{◌≡◌, ◌-◌, ℕ, [], Result, Ok, Err, refl, ap, add-zero}
use Rattle.std.proofs.lemmas.List.{take-append-drop}
use Rattle.iom_bits.specs.declared.causes.Kind.{Kind}
use Rattle.iom_bits.specs.declared.causes.Kind.TheVariants as kind
use Rattle.iom_mem.specs.Memory.{Memory, bytes_at}
use Rattle.iom_messages.specs.Messages.{Messages, memory_put}
use Rattle.iom_core.specs.State.{Machine}
use Rattle.iom_core.specs.Access.{Effect, access_to, address_on, after_request, effect, effect_at, led, record_left, request_of, served, with_delivery, with_fills}
use Rattle.iom_core.specs.Rows.{machine_by}
use Rattle.iom_core.specs.declared.access.Denial.{Denial}
use Rattle.iom_core.specs.declared.access.Request.{Request}
use Rattle.iom_core.specs.Table.{access_of_none}

put_none : (memory : Memory) (addr : ℕ) → memory_put memory addr [] ≡ memory
unfolding bytes_at
put_none memory addr = rw (add-zero (addr - memory.base)) (ap (λ bytes. record memory { bytes = bytes }) (take-append-drop (addr - memory.base) memory.bytes))

-- the machine that an effect leaves, with what was read cached
abbrev after : Machine → Request → Effect → Machine
after m request effect = record {
  memory = effect.memory;
  registers = effect.registers;
  contexts = (with_fills m (led m request)).contexts;
  pages = (with_fills m (led m request)).pages;
}

by_kind : (m : Machine) (messages : Messages) (did iova : ℕ) (kind : Kind) (led_to : Result ℕ Denial) →
    after m (access_to did iova kind) (effect_at m messages (access_to did iova kind) (access_of_none iova kind) led_to) ≡ after_request m (access_to did iova kind) led_to
unfolding bytes_at
by_kind m messages did iova kind.Read (Ok addr) = refl
by_kind m messages did iova kind.Write (Ok addr) = ap (λ (memory : Memory). record (with_fills m (led m (access_to did iova kind.Write))) { memory = memory }) (put_none m.memory addr)
by_kind m messages did iova kind.Read (Err denial) = refl
by_kind m messages did iova kind.Write (Err denial) = refl

pub served_none : (m : Machine) (messages : Messages) (did iova : ℕ) (kind : Kind) → (served m messages did (access_of_none iova kind)).machine
    ≡ after_request m (access_to did iova kind) (address_on (led m (access_to did iova kind)).way iova)
unfolding effect
served_none m messages did iova kind.Read = by_kind m messages did iova kind.Read (address_on (led m (access_to did iova kind.Read)).way iova)
served_none m messages did iova kind.Write = by_kind m messages did iova kind.Write (address_on (led m (access_to did iova kind.Write)).way iova)

-- What an access of no byte leaves that goes to a given address, or is denied.
pub led_none : (m : Machine) (messages : Messages) (did iova : ℕ) (kind : Kind) (addr : ℕ) → machine_by m (effect_at m messages (request_of did (access_of_none iova kind)) (access_of_none iova kind) (Ok addr)) ≡ m
unfolding bytes_at
led_none m messages did iova kind.Read addr = refl
led_none m messages did iova kind.Write addr = ap (λ (memory : Memory). record m { memory = memory }) (put_none m.memory addr)

pub led_denied : (m : Machine) (messages : Messages) (did iova : ℕ) (kind : Kind) (denial : Denial) → machine_by m (effect_at m messages (request_of did (access_of_none iova kind)) (access_of_none iova kind) (Err denial))
    ≡ with_delivery m (record_left m.registers m.memory (access_to did iova kind) denial)
led_denied m messages did iova kind.Read denial = refl
led_denied m messages did iova kind.Write denial = refl
