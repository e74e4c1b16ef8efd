-- What an access changes, takes and refuses.
use Rattle.std.proofs.Common.{◌≡◌, ℕ, List, [], ◌∷◌, length, Bool, true, false, Option, Some, None, Result, Ok, Err, ◌||◌, ◌∙◌, if◌then◌else◌, refl, sym, subst, inl, inr}
use Rattle.std.specs.Prelude.{is_some}
use Rattle.iom_mem.specs.Memory.{Memory, bytes_at, put}
use Rattle.iom_regs.specs.Table.{Registers}
use Rattle.iom_queue.specs.Denials.{denial_record}
use Rattle.iom_queue.specs.Delivery.{KeepsOtherRegisters, delivered}
use Rattle.iom_virtq.specs.Bus.{Ask, Read, Write, reply_of}
use Rattle.iom_virtq.specs.declared.access.Access.TheVariants as access
use Rattle.iom_messages.specs.Messages.{Messages, can_put, is_message, memory_put, message_of, messages_put, posted}
use Rattle.iom_bits.specs.Causes.{cause_number}
use Rattle.iom_core.specs.State.{State, Machine, with_machine}
use Rattle.iom_core.specs.Access.{effect_at, record_left, reply_with}
use Rattle.iom_core.specs.declared.access.Denial.{Denial}
use Rattle.iom_core.specs.declared.access.Request.{Request}
use Rattle.iom_core.specs.Table.{answer_by_address, answer_by_reply}
use Rattle.iom_core.specs.Reach.{ChangesOnly, MovesTail, RefusesAlone, SendsAt, SendsAtMost, Span, TakesBy, span_to}
use Rattle.iom_core.specs.declared.step.Answer.TheVariants as answer
use Rattle.iom_signals.specs.Reach.{next_records}
use Rattle.iom_signals.proofs.Delivers.{Delivers, delivers}
use Rattle.iom_signals.proofs.Puts.{put_changes_only, same_memory}

pub left_by_denial : (registers : Registers) (memory : Memory) (request : Request) (denial : Denial) → Delivers registers memory (record_left registers memory request denial)
unfolding record_left
left_by_denial registers memory request denial =
    elim denial.reported as (λ b. Delivers registers memory (if b then delivered registers memory (denial_record denial.cause request.kind request.did request.iova denial.iotval2) else record { registers = registers; memory = memory })) [
      | true ↦ delivers registers memory (denial_record denial.cause request.kind request.did request.iova denial.iotval2)
      | false ↦ record {
        others = record { features = refl; ddtp = refl; acting = refl; cqb = refl; cqh = refl; cqt = refl; fqb = refl; fqh = refl; cqcsr = refl; icvec = refl; fctl = refl; table = refl };
        bytes = same_memory memory (next_records 1 registers);
        tail = inl refl;
      }
    ]

-- What goes nowhere changes nothing.
pub put_nowhere : (memory : Memory) (messages : Messages) (addr : ℕ) (bytes : List ℕ) → can_put memory messages addr bytes ≡ false →
    (memory_put memory addr bytes ≡ memory) × (messages_put memory messages addr bytes ≡ messages)
put_nowhere memory messages addr bytes =
    elim (is_some (bytes_at memory addr (length bytes))) as (λ a. (a || is_message messages addr (length bytes)) ≡ false →
    ((if a then put memory addr bytes else memory) ≡ memory)
    × ((if a then messages else if is_message messages addr (length bytes) then posted (message_of addr bytes) messages else messages) ≡ messages)) [
      | true ↦ λ no. absurd (cc)
      | false ↦ elim (is_message messages addr (length bytes)) as (λ b. b ≡ false →
          (memory ≡ memory) × ((if b then posted (message_of addr bytes) messages else messages) ≡ messages)) [
            | true ↦ λ no. absurd (cc)
            | false ↦ λ no. (refl, refl)
          ]
    ]

-- What is put is sent at most.
pub put_sends : (memory : Memory) (messages : Messages) (addr : ℕ) (bytes : List ℕ) →
    SendsAtMost addr bytes messages (messages_put memory messages addr bytes)
put_sends memory messages addr bytes =
    let sent : Bool → Messages = λ b. if b then posted (message_of addr bytes) messages else messages in
    let Goal : Bool → Type 0 = λ b. is_message messages addr (length bytes) ≡ b → SendsAtMost addr bytes messages (sent b) in
    let by_window : (b : Bool) → Goal b = λ b. elim b as Goal [
      | true ↦ λ is. inr (is, refl)
      | false ↦ λ is. inl refl
    ] in
    elim (is_some (bytes_at memory addr (length bytes))) as
    (λ a. SendsAtMost addr bytes messages (if a then messages else sent (is_message messages addr (length bytes)))) [
      | true ↦ inl refl
      | false ↦ by_window (is_message messages addr (length bytes)) refl
    ]

-- An access, at the address that it is led to.
pub denied_refuses : (state new : State) (request : Request) (denial : Denial) →
    new.machine.memory ≡ (record_left state.machine.registers state.machine.memory request denial).memory →
    new.machine.registers ≡ (record_left state.machine.registers state.machine.memory request denial).registers →
    new.messages ≡ state.messages → RefusesAlone (answer.Denied (cause_number denial.cause)) state new
denied_refuses state new request denial memory registers messages =
    let d = left_by_denial state.machine.registers state.machine.memory request denial in (
      subst (λ (r : Registers). KeepsOtherRegisters state.machine.registers r) (sym registers) d.others,
      subst (λ (m : Memory). ChangesOnly (next_records 1 state.machine.registers) state.machine.memory m) (sym memory) d.bytes,
      messages,
      subst (λ (r : Registers). MovesTail state.machine.registers r) (sym registers) d.tail,
    )

pub effect_changes : (m : Machine) (messages : Messages) (request : Request) (ask : Ask) (led_to : Result ℕ Denial) →
    ChangesOnly (span_to m ask led_to) m.memory (effect_at m messages request ask led_to).memory
effect_changes m messages request (Read iova count) (Ok addr) = same_memory m.memory []
effect_changes m messages request (Write iova bytes) (Ok addr) =
    let span : List Span = record { addr = addr; count = length bytes } ∷ [] in
    let Goal : Bool → Type 0 = λ b. is_some (bytes_at m.memory addr (length bytes)) ≡ b →
    ChangesOnly span m.memory (if b then put m.memory addr bytes else m.memory) in
    let by_place : (b : Bool) → Goal b = λ b. elim b as Goal [
      | true ↦ λ is. put_changes_only m.memory addr bytes is
      | false ↦ λ is. same_memory m.memory span
    ] in by_place (is_some (bytes_at m.memory addr (length bytes))) refl
effect_changes m messages request (Read iova count) (Err denial) = (left_by_denial m.registers m.memory request denial).bytes
effect_changes m messages request (Write iova bytes) (Err denial) = (left_by_denial m.registers m.memory request denial).bytes

pub effect_sends : (m : Machine) (messages : Messages) (request : Request) (ask : Ask) (led_to : Result ℕ Denial) →
    SendsAt ask led_to messages (effect_at m messages request ask led_to).messages
effect_sends m messages request (Read iova count) (Ok addr) = refl
effect_sends m messages request (Write iova bytes) (Ok addr) = put_sends m.memory messages addr bytes
effect_sends m messages request (Read iova count) (Err denial) = refl
effect_sends m messages request (Write iova bytes) (Err denial) = refl

-- an access may send nothing
pub sends_nothing : (ask : Ask) (led_to : Result ℕ Denial) (messages : Messages) → SendsAt ask led_to messages messages
sends_nothing (Read iova count) led_to messages = refl
sends_nothing (Write iova bytes) (Ok addr) messages = inl refl
sends_nothing (Write iova bytes) (Err denial) messages = refl

pub effect_takes : (m : Machine) (messages : Messages) (request : Request) (ask : Ask) (led_to : Result ℕ Denial) →
    TakesBy m.memory ask led_to (answer_by_reply ask (effect_at m messages request ask led_to).reply)
effect_takes m messages request (Read iova count) (Ok addr) =
    let Goal : Option (List ℕ) → Type 0 = λ o. bytes_at m.memory addr count ≡ o →
    TakesBy m.memory (Read iova count) (Ok addr) (answer_by_reply (Read iova count) (reply_with o)) in
    let by_place : (o : Option (List ℕ)) → Goal o = λ o. elim o as Goal [
      | Some bytes ↦ λ is. is
      | None ↦ λ is. tt
    ] in by_place (bytes_at m.memory addr count) refl
effect_takes m messages request (Write iova bytes) (Ok addr) =
    elim (can_put m.memory messages addr bytes) as
    (λ b. TakesBy m.memory (Write iova bytes) (Ok addr) (answer_by_reply (Write iova bytes) (reply_of (if b then access.Ok else access.Outside) []))) [
      | true ↦ tt
      | false ↦ tt
    ]
effect_takes m messages request (Read iova count) (Err denial) = tt
effect_takes m messages request (Write iova bytes) (Err denial) = tt

-- what an access leaves of a state
pub record Leaves (state new : State) (request : Request) (ask : Ask) (led_to : Result ℕ Denial) : Type 0 where
  pub memory : new.machine.memory ≡ (effect_at state.machine state.messages request ask led_to).memory
  pub registers : new.machine.registers ≡ (effect_at state.machine state.messages request ask led_to).registers
  pub messages : new.messages ≡ (effect_at state.machine state.messages request ask led_to).messages

-- where it is denied, or goes nowhere
pub denied_leaves : (state new : State) (request : Request) (ask : Ask) (denial : Denial) → Leaves state new request ask (Err denial) →
    RefusesAlone (answer.Denied (cause_number denial.cause)) state new
denied_leaves state new request (Read iova count) denial left = denied_refuses state new request denial left.memory left.registers left.messages
denied_leaves state new request (Write iova bytes) denial left = denied_refuses state new request denial left.memory left.registers left.messages

pub read_leaves : (state new : State) (request : Request) (iova count addr : ℕ) → Leaves state new request (Read iova count) (Ok addr) →
    RefusesAlone answer.BusError state new
read_leaves state new request iova count addr left = (left.memory, left.registers, left.messages)

pub write_leaves : (state new : State) (request : Request) (iova : ℕ) (bytes : List ℕ) (addr : ℕ) →
    can_put state.machine.memory state.messages addr bytes ≡ false → Leaves state new request (Write iova bytes) (Ok addr) →
    RefusesAlone answer.BusError state new
write_leaves state new request iova bytes addr nowhere left =
    let same = put_nowhere state.machine.memory state.messages addr bytes nowhere in
    (left.memory ∙ same.0, left.registers, left.messages ∙ same.1)

pub effect_refuses : (state new : State) (request : Request) (ask : Ask) (led_to : Result ℕ Denial) → Leaves state new request ask led_to →
    RefusesAlone (answer_by_reply ask (effect_at state.machine state.messages request ask led_to).reply) state new
effect_refuses state new request (Read iova count) (Ok addr) left =
    elim (bytes_at state.machine.memory addr count) as (λ o. RefusesAlone (answer_by_reply (Read iova count) (reply_with o)) state new) [
      | Some bytes ↦ tt
      | None ↦ read_leaves state new request iova count addr left
    ]
effect_refuses state new request (Write iova bytes) (Ok addr) left =
    let Goal : Bool → Type 0 = λ b. can_put state.machine.memory state.messages addr bytes ≡ b →
    RefusesAlone (answer_by_reply (Write iova bytes) (reply_of (if b then access.Ok else access.Outside) [])) state new in
    let by_place : (b : Bool) → Goal b = λ b. elim b as Goal [
      | true ↦ λ is. tt
      | false ↦ λ is. write_leaves state new request iova bytes addr is left
    ] in by_place (can_put state.machine.memory state.messages addr bytes) refl
effect_refuses state new request (Read iova count) (Err denial) left = denied_leaves state new request (Read iova count) denial left
effect_refuses state new request (Write iova bytes) (Err denial) left = denied_leaves state new request (Write iova bytes) denial left

-- so does a request for a translation, which sends nothing
pub address_refuses : (state : State) (request : Request) (ask : Ask) (led_to : Result ℕ Denial) (left : Machine) →
    left.memory ≡ (effect_at state.machine state.messages request ask led_to).memory →
    left.registers ≡ (effect_at state.machine state.messages request ask led_to).registers →
    RefusesAlone (answer_by_address led_to) state (with_machine state left)
address_refuses state request ask (Ok addr) left memory registers = tt
address_refuses state request (Read iova count) (Err denial) left memory registers =
    denied_refuses state (with_machine state left) request denial memory registers refl
address_refuses state request (Write iova bytes) (Err denial) left memory registers =
    denied_refuses state (with_machine state left) request denial memory registers refl
