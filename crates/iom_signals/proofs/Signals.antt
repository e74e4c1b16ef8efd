-- What interrupts by message may change.
use Rattle.std.proofs.Common.{◌≡◌, ◌∙◌, ◌+◌, ◌*◌, ◌%◌, ◌⊎◌, ◌&&◌, ℕ, zero, suc, List, [], ◌∷◌, ◌++◌, length, map, Bool, true, false, not, Option, Some, None, if◌then◌else◌, refl, sym, ap, subst, inl, inr, arith}
use Rattle.std.specs.Prelude.{is_some, slice_get, slice_set}
use Rattle.std.proofs.lemmas.List.Elements.{All-nil, All-cons, All-append, All-weaker}
use Rattle.iom_bits.specs.Bits.{field_of, has_bit}
use Rattle.iom_bits.specs.Bytes.{bytes_of_number}
use Rattle.iom_bits.proofs.Bytes.{length_of_number}
use Rattle.iom_bits.specs.Features.{has_messages}
use Rattle.iom_mem.specs.Memory.{bytes_at, put}
use Rattle.iom_messages.specs.Messages.{Messages, can_put, is_message, memory_put, message_of, messages_put, posted}
use Rattle.iom_messages.specs.declared.messages.Message.{Message}
use Rattle.iom_queue.specs.Delivery.{delivered, record_addr}
use Rattle.iom_regs.specs.Interrupts.{is_wired, owing, vector_in, vector_of}
use Rattle.iom_regs.specs.Table.{Registers, entries_of}
use Rattle.iom_regs.specs.Vectors.{is_vector, vector_at}
use Rattle.iom_regs.specs.declared.vectors.MsiVector.{MsiVector}
use Rattle.iom_regs.specs.declared.views.Which.{Which}
use Rattle.iom_signals.specs.Changes.{ChangesOnly, IsOutside}
use Rattle.iom_signals.specs.Reach.{IsOneOf, KeepsButOwed, MaySignal, SendsOf, message_span, next_records, posted_all, settled_vector, signal_spans}
use Rattle.iom_signals.specs.Signals.{Outside, bit_of, by_freed, bytes_of, first_signalled, let_go, raised, refusal, rises, sent, signalled, signalled_by}
use Rattle.iom_signals.specs.declared.signalling.Noted.{Noted}
use Rattle.iom_signals.proofs.Delivers.{delivers}
use Rattle.iom_signals.proofs.Puts.{changes_both, changes_wider, outside_both, outside_first, outside_second, put_changes_only, same_memory}

-- what one message, or its refusal, may change
pub record One (old new : Outside) : Type 0 where
  pub changes : ChangesOnly (map message_span old.registers.table ++ next_records 1 old.registers) old.memory new.memory
  pub sends : SendsOf old.registers.table 1 old.messages new.messages
  pub keeps : KeepsButOwed old.registers new.registers
  pub tail : (new.registers.fqt ≡ old.registers.fqt) ⊎ (new.registers.fqt ≡ (old.registers.fqt + 1) % entries_of old.registers.fqb)

nothing_sent : (table : List MsiVector) (most : ℕ) (messages : Messages) → SendsOf table most messages messages
nothing_sent table most messages = record { sent = []; few = grind arith; own = All-nil (IsOneOf table); all = refl }

all_kept : (r : Registers) → KeepsButOwed r r
all_kept r = record {
  others = record { features = refl; ddtp = refl; acting = refl; cqb = refl; cqh = refl; cqt = refl; fqb = refl; fqh = refl; cqcsr = refl; icvec = refl; fctl = refl; table = refl };
  vectors = refl;
}

none : (o : Outside) → One o o
none o = record { changes = same_memory o.memory _; sends = nothing_sent o.registers.table 1 o.messages; keeps = all_kept o.registers; tail = inl refl }

-- a vector of the table is outside where all are
outside_vector : (table : List MsiVector) (x : ℕ) (vector : MsiVector) (a : ℕ) → slice_get table x ≡ Some vector → IsOutside (map message_span table) a →
    IsOutside (message_span vector ∷ []) a
outside_vector [] x vector a there out = absurd (cc)
outside_vector (first ∷ table) zero vector a there out =
    let same : first ≡ vector = cc in subst (λ (v : MsiVector). IsOutside (message_span v ∷ []) a) same (out.0, tt)
outside_vector (first ∷ table) (suc x) vector a there out = outside_vector table x vector a there out.1

-- its message is written
put_changes : (o : Outside) (x : ℕ) (vector : MsiVector) → slice_get o.registers.table x ≡ Some vector →
    ChangesOnly (map message_span o.registers.table ++ next_records 1 o.registers) o.memory (memory_put o.memory vector.addr (bytes_of vector))
put_changes o x vector there =
    let bytes = bytes_of vector in
    let spans = map message_span o.registers.table in
    let count : length bytes ≡ 4 = length_of_number 4 vector.value in
    let Goal : Bool → Type 0 = λ b. is_some (bytes_at o.memory vector.addr (length bytes)) ≡ b →
    ChangesOnly (message_span vector ∷ []) o.memory (if b then put o.memory vector.addr bytes else o.memory) in
    let by_place : (b : Bool) → Goal b = λ b. elim b as Goal [
      | true ↦ λ is. subst (λ (n : ℕ). ChangesOnly (record { addr = vector.addr; count = n } ∷ []) o.memory (put o.memory vector.addr bytes)) count (put_changes_only o.memory vector.addr bytes is)
      | false ↦ λ is. same_memory o.memory _
    ] in
    changes_wider (message_span vector ∷ []) _ _ _ (λ a out. outside_vector o.registers.table x vector a there (outside_first spans _ a out))
    (by_place (is_some (bytes_at o.memory vector.addr (length bytes))) refl)

put_sends : (o : Outside) (x : ℕ) (vector : MsiVector) → slice_get o.registers.table x ≡ Some vector →
    SendsOf o.registers.table 1 o.messages (messages_put o.memory o.messages vector.addr (bytes_of vector))
put_sends o x vector there =
    let bytes = bytes_of vector in
    let message = message_of vector.addr bytes in
    let table = o.registers.table in
    elim (is_some (bytes_at o.memory vector.addr (length bytes))) as
    (λ a. SendsOf table 1 o.messages (if a then o.messages else if is_message o.messages vector.addr (length bytes) then posted message o.messages else o.messages)) [
      | true ↦ nothing_sent table 1 o.messages
      | false ↦ elim (is_message o.messages vector.addr (length bytes)) as (λ b. SendsOf table 1 o.messages (if b then posted message o.messages else o.messages)) [
        | true ↦ record { sent = message ∷ []; few = grind arith; own = All-cons (IsOneOf table) message [] (record { x = x; vector = vector; there = there; same = refl }) (All-nil (IsOneOf table)); all = refl }
        | false ↦ nothing_sent table 1 o.messages
      ]
    ]

pub sent_changes : (o : Outside) (x : ℕ) (vector : MsiVector) → slice_get o.registers.table x ≡ Some vector → One o (sent vector o)
sent_changes o x vector there =
    let left = delivered o.registers o.memory (refusal vector.addr) in
    let d = delivers o.registers o.memory (refusal vector.addr) in
    elim (can_put o.memory o.messages vector.addr (bytes_of vector)) as (λ b. One o (
    if b then record o { memory = memory_put o.memory vector.addr (bytes_of vector); messages = messages_put o.memory o.messages vector.addr (bytes_of vector) }
    else record o { registers = left.registers; memory = left.memory })) [
      | true ↦ record { changes = put_changes o x vector there; sends = put_sends o x vector there; keeps = all_kept o.registers; tail = inl refl }
      | false ↦ record {
        changes = changes_wider _ _ _ _ (λ a out. outside_second (map message_span o.registers.table) _ a out) d.bytes;
        sends = nothing_sent o.registers.table 1 o.messages;
        keeps = record {
          others = record {
            features = d.others.features;
            ddtp = d.others.ddtp;
            acting = d.others.acting;
            cqb = d.others.cqb;
            cqh = d.others.cqh;
            cqt = d.others.cqt;
            fqb = d.others.fqb;
            fqh = d.others.fqh;
            cqcsr = d.others.cqcsr;
            icvec = d.others.icvec;
            fctl = d.others.fctl;
            table = refl;
          };
          vectors = ap (map settled_vector) d.others.table;
        };
        tail = d.tail;
      }
    ]

-- a vector that owes a message
settled_set : (table : List MsiVector) (x : ℕ) (vector : MsiVector) → slice_get table x ≡ Some vector →
    map settled_vector (slice_set table x (record (vector_at table x) { owed = true })) ≡ map settled_vector table
settled_set [] x vector there = refl
settled_set (first ∷ table) zero vector there = refl
settled_set (first ∷ table) (suc x) vector there = ap (λ rest. settled_vector first ∷ rest) (settled_set table x vector there)

pub owed_changes : (o : Outside) (x : ℕ) (vector : MsiVector) → slice_get o.registers.table x ≡ Some vector → One o (record o { registers = owing x o.registers })
owed_changes o x vector there =
    let owed = record o.registers { table = slice_set o.registers.table x (record (vector_at o.registers.table x) { owed = true }) } in
    elim (is_vector o.registers.features x) as (λ b. One o (record o { registers = if b then owed else o.registers })) [
      | true ↦ record {
        changes = same_memory o.memory _;
        sends = nothing_sent o.registers.table 1 o.messages;
        keeps = record {
          others = record { features = refl; ddtp = refl; acting = refl; cqb = refl; cqh = refl; cqt = refl; fqb = refl; fqh = refl; cqcsr = refl; icvec = refl; fctl = refl; table = refl };
          vectors = settled_set o.registers.table x vector there;
        };
        tail = inl refl;
      }
      | false ↦ none o
    ]

-- a vector of a number is one of the table
in_table : (r : Registers) (x : ℕ) (vector : MsiVector) → vector_in r x ≡ Some vector → slice_get r.table x ≡ Some vector
in_table r x vector = elim (is_vector r.features x) as (λ b. (if b then slice_get r.table x else None) ≡ Some vector → slice_get r.table x ≡ Some vector) [
  | true ↦ λ is. is
  | false ↦ λ is. absurd (cc)
]

signalled_changes : (o : Outside) (x : ℕ) (found : Option MsiVector) → vector_in o.registers x ≡ found → One o (signalled_by x found o)
signalled_changes o x None is = none o
signalled_changes o x (Some vector) is =
    let there = in_table o.registers x vector is in
    elim vector.masked as (λ b. One o (if b then record o { registers = owing x o.registers } else sent vector o)) [
      | true ↦ owed_changes o x vector there
      | false ↦ sent_changes o x vector there
    ]

pub raised_changes : (before : ℕ) (queue : Which) (o : Outside) → One o (raised before queue o)
raised_changes before queue o =
    let x = vector_of o.registers queue in
    elim (rises before (bit_of queue) o.registers) as (λ b. One o (if b then signalled_by x (vector_in o.registers x) o else o)) [
      | true ↦ signalled_changes o x (vector_in o.registers x) refl
      | false ↦ none o
    ]

let_go_changes : (o : Outside) (x : ℕ) (found : Option MsiVector) → vector_in o.registers x ≡ found → One o (let_go found o)
let_go_changes o x None is = none o
let_go_changes o x (Some vector) is = sent_changes o x vector (in_table o.registers x vector is)

first_changes : (freed : Option ℕ) (before : ℕ) (o : Outside) → One o (by_freed freed before o)
first_changes None before o = raised_changes before Which.Commands o
first_changes (Some x) before o = let_go_changes o x (vector_in o.registers x) refl

-- Two of them, one after the other.
spans_kept : (old new : List MsiVector) → map settled_vector new ≡ map settled_vector old → map message_span new ≡ map message_span old
spans_kept [] [] same = refl
spans_kept [] (vector ∷ new) same = absurd (cc)
spans_kept (first ∷ old) [] same = absurd (cc)
spans_kept (first ∷ old) (vector ∷ new) same =
    let heads : settled_vector vector ≡ settled_vector first = cc in
    let tails : map settled_vector new ≡ map settled_vector old = cc in
    let one : message_span vector ≡ message_span first = ap (λ (v : MsiVector). message_span v) heads in
    ap (λ span. span ∷ map message_span new) one ∙ ap (λ rest. message_span first ∷ rest) (spans_kept old new tails)

-- the same vector but for what it owes
pub record Found (old : List MsiVector) (x : ℕ) (vector : MsiVector) : Type 0 where
  pub before : MsiVector
  pub there : slice_get old x ≡ Some before
  pub addr : vector.addr ≡ before.addr
  pub value : vector.value ≡ before.value

found_before : (old new : List MsiVector) (x : ℕ) (vector : MsiVector) → map settled_vector new ≡ map settled_vector old → slice_get new x ≡ Some vector → Found old x vector
found_before [] [] x vector same there = absurd (cc)
found_before [] (first ∷ new) x vector same there = absurd (cc)
found_before (first ∷ old) [] x vector same there = absurd (cc)
found_before (first ∷ old) (second ∷ new) zero vector same there =
    let heads : settled_vector second ≡ settled_vector first = cc in
    let own : second ≡ vector = cc in
    record {
      before = first;
      there = refl;
      addr = ap (λ (v : MsiVector). v.addr) (sym own) ∙ ap (λ (v : MsiVector). v.addr) heads;
      value = ap (λ (v : MsiVector). v.value) (sym own) ∙ ap (λ (v : MsiVector). v.value) heads;
    }
found_before (first ∷ old) (second ∷ new) (suc x) vector same there =
    let tails : map settled_vector new ≡ map settled_vector old = cc in
    let found = found_before old new x vector tails there in
    record { before = found.before; there = found.there; addr = found.addr; value = found.value }

one_of_kept : (old new : List MsiVector) → map settled_vector new ≡ map settled_vector old → (message : Message) → IsOneOf new message → IsOneOf old message
one_of_kept old new same message one =
    let found = found_before old new one.x one.vector same one.there in
    record {
      x = one.x;
      vector = found.before;
      there = found.there;
      same = one.same ∙ ap (λ addr. message_of addr (bytes_of one.vector)) found.addr
          ∙ ap (λ value. message_of found.before.addr (bytes_of_number 4 value)) found.value;
    }

posted_both : (first second : List Message) (messages : Messages) → posted_all (first ++ second) messages ≡ posted_all second (posted_all first messages)
posted_both [] second messages = refl
posted_both (message ∷ first) second messages = posted_both first second (posted message messages)

length_both : (first second : List Message) → length (first ++ second) ≡ length first + length second
length_both [] second = omega arith
length_both (message ∷ first) second = let rest = length_both first second in omega (arith, rest)

sends_both : (old new : List MsiVector) (first second third : Messages) → map settled_vector new ≡ map settled_vector old → SendsOf old 1 first second →
    SendsOf new 1 second third → SendsOf old 2 first third
sends_both old new first second third same one other = record {
  sent = one.sent ++ other.sent;
  few = let both = length_both one.sent other.sent in omega (arith, both, one.few, other.few);
  own = All-append (IsOneOf old) one.sent other.sent one.own (All-weaker (IsOneOf new) (IsOneOf old) (one_of_kept old new same) other.sent other.own);
  all = other.all ∙ ap (posted_all other.sent) one.all ∙ sym (posted_both one.sent other.sent first);
}

pub keeps_both : (first second third : Registers) → KeepsButOwed first second → KeepsButOwed second third → KeepsButOwed first third
keeps_both first second third one other = record {
  others = record {
    features = other.others.features ∙ one.others.features;
    ddtp = other.others.ddtp ∙ one.others.ddtp;
    acting = other.others.acting ∙ one.others.acting;
    cqb = other.others.cqb ∙ one.others.cqb;
    cqh = other.others.cqh ∙ one.others.cqh;
    cqt = other.others.cqt ∙ one.others.cqt;
    fqb = other.others.fqb ∙ one.others.fqb;
    fqh = other.others.fqh ∙ one.others.fqh;
    cqcsr = other.others.cqcsr ∙ one.others.cqcsr;
    icvec = other.others.icvec ∙ one.others.icvec;
    fctl = other.others.fctl ∙ one.others.fctl;
    table = refl;
  };
  vectors = other.vectors ∙ one.vectors;
}

-- the place of a record that comes second is one of the next two
pub at_tail : (first second : Registers) (tail a : ℕ) → second.fqb ≡ first.fqb → second.fqt ≡ tail → IsOutside (next_records 1 (record first { fqt = tail })) a →
    IsOutside (next_records 1 second) a
at_tail first second tail a base same out =
    let e : record_addr second ≡ record_addr (record first { fqt = tail }) =
    ap (λ b. field_of b 10 44 * 4096 + second.fqt * 32) base ∙ ap (λ t. field_of first.fqb 10 44 * 4096 + t * 32) same in
    subst (λ addr. IsOutside (record { addr = addr; count = 32 } ∷ []) a) (sym e) out

next_kept : (first second : Registers) (a : ℕ) → second.fqb ≡ first.fqb → (second.fqt ≡ first.fqt) ⊎ (second.fqt ≡ (first.fqt + 1) % entries_of first.fqb) →
    IsOutside (next_records 2 first) a → IsOutside (next_records 1 second) a
next_kept first second a base (inl same) out = at_tail first second first.fqt a base same (out.0, tt)
next_kept first second a base (inr moved) out = at_tail first second ((first.fqt + 1) % entries_of first.fqb) a base moved out.1

first_of_two : (registers : Registers) (a : ℕ) → IsOutside (next_records 2 registers) a → IsOutside (next_records 1 registers) a
first_of_two registers a out = (out.0, tt)

both_changes : (first second third : Outside) → One first second → One second third →
    ChangesOnly (signal_spans first.registers) first.memory third.memory
both_changes first second third one other = changes_both _ _ _ _
    (changes_wider _ _ _ _ (λ a out. outside_both (map message_span first.registers.table) _ a (outside_first (map message_span first.registers.table) _ a out)
    (first_of_two first.registers a (outside_second (map message_span first.registers.table) _ a out))) one.changes)
    (changes_wider _ _ _ _ (λ a out. outside_both (map message_span second.registers.table) _ a
    (subst (λ spans. IsOutside spans a) (sym (spans_kept first.registers.table second.registers.table one.keeps.vectors)) (outside_first (map message_span first.registers.table) _ a out))
    (next_kept first.registers second.registers a one.keeps.others.fqb one.tail (outside_second (map message_span first.registers.table) _ a out))) other.changes)

-- By what was noted, where interrupts may be messages; else nothing changes.
pub signals_reach : (noted : Noted) (o : Outside) →
    MaySignal (has_messages o.registers.features) o.registers (signalled noted o).registers o.memory (signalled noted o).memory o.messages (signalled noted o).messages
unfolding signalled
signals_reach noted o =
    let mid = first_signalled noted o in
    let one = first_changes noted.freed noted.before o in
    let last = raised noted.before Which.Faults mid in
    let other = raised_changes noted.before Which.Faults mid in
    elim (has_messages o.registers.features) as (λ b. MaySignal b o.registers (if b then last else o).registers o.memory (if b then last else o).memory o.messages (if b then last else o).messages) [
      | true ↦ record {
        changes = both_changes o mid last one other;
        sends = sends_both o.registers.table mid.registers.table o.messages mid.messages last.messages one.keeps.vectors one.sends other.sends;
        keeps = keeps_both o.registers mid.registers last.registers one.keeps other.keeps;
      }
      | false ↦ (refl, refl, refl)
    ]

-- A step that raises no interrupt, and lets go no message, signals nothing.
not_both : (wired now : Bool) → (not wired && now && not now) ≡ false
not_both true true = refl
not_both true false = refl
not_both false true = refl
not_both false false = refl

pub quiet : (before : ℕ) (o : Outside) → before ≡ o.registers.ipsr → signalled (record { freed = None; before = before }) o ≡ o
unfolding signalled
quiet before o same =
    let still : (queue : Which) → rises before (bit_of queue) o.registers ≡ false = λ queue.
    subst (λ n. rises n (bit_of queue) o.registers ≡ false) (sym same) (not_both (is_wired o.registers) (has_bit o.registers.ipsr (bit_of queue))) in
    let none : (queue : Which) → raised before queue o ≡ o = λ queue.
    ap (λ b. if b then signalled_by (vector_of o.registers queue) (vector_in o.registers (vector_of o.registers queue)) o else o) (still queue) in
    elim (has_messages o.registers.features) as (λ b. (if b then raised before Which.Faults (raised before Which.Commands o) else o) ≡ o) [
      | true ↦ ap (raised before Which.Faults) (none Which.Commands) ∙ none Which.Faults
      | false ↦ refl
    ]
