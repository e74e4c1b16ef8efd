-- What a step changes, takes and refuses, its interrupts by message with it.
use Rattle.std.proofs.Common.{◌≡◌, ◌∙◌, ◌&&◌, ◌+◌, ◌%◌, ℕ, [], ◌++◌, map, Bool, true, false, if◌then◌else◌, refl, sym, ap, subst, inl, inr}
use Rattle.iom_bits.specs.Features.{has_messages}
use Rattle.iom_mem.specs.Memory.{Memory}
use Rattle.iom_queue.specs.Delivery.{KeepsOtherRegisters}
use Rattle.iom_regs.specs.Table.{Registers, entries_of}
use Rattle.iom_signals.specs.Changes.{ChangesOnly, IsOutside}
use Rattle.iom_signals.specs.Reach.{KeepsButOwed, MaySignal, SendsOf, message_span, next_records, settled_vector, signal_spans}
use Rattle.iom_signals.proofs.Puts.{changes_both, changes_wider, outside_both, outside_first, outside_second}
use Rattle.iom_signals.proofs.Signals.{at_tail, keeps_both, signals_reach}
use Rattle.iom_core.specs.Reach.{DenialLeaves, MaySend, MovesTail, Reaches, Refuses, RefusesAlone, may_raise, span_of}
use Rattle.iom_core.specs.State.{State}
use Rattle.iom_core.specs.Table.{acted, next, noted, outside_of, with_signals}
use Rattle.iom_core.specs.declared.step.Answer.{Answer}
use Rattle.iom_core.specs.declared.step.Answer.TheVariants as answer
use Rattle.iom_core.specs.declared.step.Step.{Step}
use Rattle.iom_core.proofs.Quiet.{next_quiet, refusal_quiet}
use Rattle.iom_core.proofs.Reaches.{breaks, changes, devices, goes_on, refuses, sends, takes}

-- what the interrupts of a step leave of what its row left
signals : (state : State) (taken : Step) → let alone = (acted state taken).state in let new = (next state taken).state in
    MaySignal (has_messages alone.machine.registers.features) alone.machine.registers new.machine.registers alone.machine.memory new.machine.memory alone.messages new.messages
unfolding next with_signals
signals state taken = signals_reach (noted state taken) (outside_of (acted state taken).state)

-- by whether a step may raise an interrupt, and its interrupts may be messages
both_change : (state : State) (taken : Step) (raises messages : Bool) → may_raise state taken ≡ raises →
    has_messages (acted state taken).state.machine.registers.features ≡ messages →
    ChangesOnly (span_of state taken ++ (if raises && messages then signal_spans (acted state taken).state.machine.registers else [])) state.machine.memory (next state taken).state.machine.memory
both_change state taken false messages quiet has =
    subst (λ (s : State). ChangesOnly (span_of state taken ++ []) state.machine.memory s.machine.memory) (sym (next_quiet state taken quiet))
    (changes_wider _ _ _ _ (λ a out. outside_first (span_of state taken) [] a out) (changes state taken))
both_change state taken true true raises has =
    let alone = (acted state taken).state in
    let left : MaySignal true alone.machine.registers (next state taken).state.machine.registers alone.machine.memory (next state taken).state.machine.memory alone.messages (next state taken).state.messages =
    subst (λ b. MaySignal b alone.machine.registers (next state taken).state.machine.registers alone.machine.memory (next state taken).state.machine.memory alone.messages (next state taken).state.messages) has (signals state taken) in
    changes_both _ _ _ _
    (changes_wider _ _ _ _ (λ a out. outside_first (span_of state taken) (signal_spans alone.machine.registers) a out) (changes state taken))
    (changes_wider _ _ _ _ (λ a out. outside_second (span_of state taken) (signal_spans alone.machine.registers) a out) left.changes)
both_change state taken true false raises has =
    let alone = (acted state taken).state in
    let left : MaySignal false alone.machine.registers (next state taken).state.machine.registers alone.machine.memory (next state taken).state.machine.memory alone.messages (next state taken).state.messages =
    subst (λ b. MaySignal b alone.machine.registers (next state taken).state.machine.registers alone.machine.memory (next state taken).state.machine.memory alone.messages (next state taken).state.messages) has (signals state taken) in
    subst (λ (m : Memory). ChangesOnly (span_of state taken ++ []) state.machine.memory m) (sym left.1)
    (changes_wider _ _ _ _ (λ a out. outside_first (span_of state taken) [] a out) (changes state taken))

both_send : (state : State) (taken : Step) (raises messages : Bool) → may_raise state taken ≡ raises →
    has_messages (acted state taken).state.machine.registers.features ≡ messages →
    MaySend (raises && messages) (acted state taken).state.machine.registers.table (acted state taken).state.messages (next state taken).state.messages
both_send state taken false messages quiet has = ap (λ (s : State). s.messages) (next_quiet state taken quiet)
both_send state taken true true raises has =
    let alone = (acted state taken).state in
    let left : MaySignal true alone.machine.registers (next state taken).state.machine.registers alone.machine.memory (next state taken).state.machine.memory alone.messages (next state taken).state.messages =
    subst (λ b. MaySignal b alone.machine.registers (next state taken).state.machine.registers alone.machine.memory (next state taken).state.machine.memory alone.messages (next state taken).state.messages) has (signals state taken) in
    left.sends
both_send state taken true false raises has =
    let alone = (acted state taken).state in
    let left : MaySignal false alone.machine.registers (next state taken).state.machine.registers alone.machine.memory (next state taken).state.machine.memory alone.messages (next state taken).state.messages =
    subst (λ b. MaySignal b alone.machine.registers (next state taken).state.machine.registers alone.machine.memory (next state taken).state.machine.memory alone.messages (next state taken).state.messages) has (signals state taken) in
    left.2

-- interrupts leave the answer and the devices as they are
pub reaches : (state : State) (taken : Step) → Reaches state taken (next state taken).answer (next state taken).state
unfolding next with_signals
reaches state taken = record {
  changes = both_change state taken (may_raise state taken) (has_messages (acted state taken).state.machine.registers.features) refl refl;
  sends = record {
    alone = sends state taken;
    signals = both_send state taken (may_raise state taken) (has_messages (acted state taken).state.machine.registers.features) refl refl;
  };
  devices = devices state taken;
  breaks = breaks state taken;
  goes_on = goes_on state taken;
  takes = takes state taken;
}

-- Where an access is denied.
owed_kept : (old alone : Registers) → KeepsOtherRegisters old alone → KeepsButOwed old alone
owed_kept old alone kept = record {
  others = record {
    features = kept.features;
    ddtp = kept.ddtp;
    acting = kept.acting;
    cqb = kept.cqb;
    cqh = kept.cqh;
    cqt = kept.cqt;
    fqb = kept.fqb;
    fqh = kept.fqh;
    cqcsr = kept.cqcsr;
    icvec = kept.icvec;
    fctl = kept.fctl;
    table = refl;
  };
  vectors = ap (map settled_vector) kept.table;
}

-- the next two records behind a tail that stayed, or went on by one, are of the next three
two_of_three : (old alone : Registers) (a : ℕ) → alone.fqb ≡ old.fqb → MovesTail old alone → IsOutside (next_records 3 old) a → IsOutside (next_records 2 alone) a
two_of_three old alone a base (inl same) out =
    let more : Registers = record alone { fqt = (alone.fqt + 1) % entries_of alone.fqb } in (
      (at_tail old alone old.fqt a base same (out.0, tt)).0,
      at_tail old more ((old.fqt + 1) % entries_of old.fqb) a base ((λ n. (same n + 1) % entries_of (base n))) (out.1.0, tt),
    )
two_of_three old alone a base (inr moved) out =
    let more : Registers = record alone { fqt = (alone.fqt + 1) % entries_of alone.fqb } in (
      (at_tail old alone ((old.fqt + 1) % entries_of old.fqb) a base moved (out.1.0, tt)).0,
      at_tail old more (((old.fqt + 1) % entries_of old.fqb + 1) % entries_of old.fqb) a base ((λ n. (moved n + 1) % entries_of (base n))) (out.1.1.0, tt),
    )

denial_leaves : (state alone new : State) (messages : Bool) → RefusesAlone (answer.Denied 0) state alone →
    MaySignal messages alone.machine.registers new.machine.registers alone.machine.memory new.machine.memory alone.messages new.messages →
    DenialLeaves messages state new
denial_leaves state alone new true (kept, changed, sent, tail) left =
    let old = state.machine.registers in
    let table = map message_span old.table in
    let wide = table ++ next_records 3 old in
    let first : ChangesOnly wide state.machine.memory alone.machine.memory =
    changes_wider (next_records 1 old) wide state.machine.memory alone.machine.memory (λ a out. ((outside_second table (next_records 3 old) a out).0, tt)) changed in
    let own : (a : ℕ) → IsOutside wide a → IsOutside (map message_span alone.machine.registers.table) a = λ a out.
    subst (λ vectors. IsOutside (map message_span vectors) a) (sym kept.table) (outside_first table (next_records 3 old) a out) in
    let second : ChangesOnly wide alone.machine.memory new.machine.memory =
    changes_wider (signal_spans alone.machine.registers) wide alone.machine.memory new.machine.memory (λ a out.
    outside_both (map message_span alone.machine.registers.table) (next_records 2 alone.machine.registers) a (own a out)
    (two_of_three old alone.machine.registers a kept.fqb tail (outside_second table (next_records 3 old) a out))) left.changes in (
      keeps_both old alone.machine.registers new.machine.registers (owed_kept old alone.machine.registers kept) left.keeps,
      changes_both wide state.machine.memory alone.machine.memory new.machine.memory first second,
      subst (λ vectors. SendsOf vectors 2 state.messages new.messages) kept.table
          (subst (λ messages. SendsOf alone.machine.registers.table 2 messages new.messages) sent left.sends),
    )
denial_leaves state alone new false (kept, changed, sent, tail) left = (
  subst (λ (r : Registers). KeepsOtherRegisters state.machine.registers r) (sym left.0) kept,
  subst (λ (m : Memory). ChangesOnly (next_records 1 state.machine.registers) state.machine.memory m) (sym left.1) changed,
  left.2 ∙ sent,
)

by_answer : (state : State) (taken : Step) (given : Answer) → (acted state taken).answer ≡ given → RefusesAlone given state (acted state taken).state →
    Refuses given state (next state taken).state
by_answer state taken (answer.Value value) is alone = tt
by_answer state taken answer.Done is alone = tt
by_answer state taken (answer.Bytes bytes) is alone = tt
by_answer state taken answer.Idle is alone = tt
by_answer state taken (answer.Denied cause) is alone =
    denial_leaves state (acted state taken).state (next state taken).state (has_messages state.machine.registers.features) alone
    (subst (λ features. MaySignal (has_messages features) (acted state taken).state.machine.registers (next state taken).state.machine.registers
    (acted state taken).state.machine.memory (next state taken).state.machine.memory (acted state taken).state.messages (next state taken).state.messages) alone.0.features (signals state taken))
by_answer state taken answer.BusError is alone =
    let quiet = refusal_quiet state taken (λ done. absurd (cc)) alone.1 in
    subst (Refuses answer.BusError state) (sym quiet) alone
by_answer state taken answer.BadAccess is alone =
    let quiet = refusal_quiet state taken (λ done. absurd (cc)) (ap (λ (s : State). s.machine.registers) alone) in quiet ∙ alone
by_answer state taken answer.NoDevice is alone =
    let quiet = refusal_quiet state taken (λ done. absurd (cc)) (ap (λ (s : State). s.machine.registers) alone) in quiet ∙ alone
by_answer state taken answer.Misuse is alone =
    let quiet = refusal_quiet state taken (λ done. absurd (cc)) (ap (λ (s : State). s.machine.registers) alone) in quiet ∙ alone

pub refused : (state : State) (taken : Step) → Refuses (next state taken).answer state (next state taken).state
unfolding next
refused state taken = by_answer state taken (acted state taken).answer refl (refuses state taken)
