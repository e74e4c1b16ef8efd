-- What signals do to ipsr.
use Rattle.std.proofs.Common.{◌≡◌, ◌∙◌, ◌+◌, ◌*◌, ◌⊎◌, ◌&&◌, ℕ, List, [], ◌∷◌, ◌++◌, length, cond, Bool, true, false, not, Option, Some, None, if◌then◌else◌, refl, sym, ap, subst, inl, inr, arith}
use Rattle.std.specs.Prelude.{◌==◌, IfSome, slice_set}
use Rattle.std.specs.Int.{bit_at}
use Rattle.std.proofs.lemmas.Bool.{eq-eqb, eqb-true}
use Rattle.iom_bits.specs.Bits.{has_bit, with_bit}
use Rattle.iom_bits.specs.Features.{has_messages}
use Rattle.iom_mem.specs.Memory.{Memory, put}
use Rattle.iom_messages.specs.Messages.{can_put}
use Rattle.iom_queue.specs.Delivery.{Delivery, delivered, is_full, is_in_memory, is_stopped, record_addr, record_bytes}
use Rattle.iom_queue.specs.declared.record.Record.{Record}
use Rattle.iom_regs.specs.Interrupts.{is_wired, owing, vector_in, vector_of}
use Rattle.iom_regs.specs.Queues.{record_passed, tail_passed, with_fqmf, with_fqof}
use Rattle.iom_regs.specs.Table.{Registers, asks_command, asks_fault, pending_after, with_pending}
use Rattle.iom_regs.specs.Vectors.{is_vector, vector_at}
use Rattle.iom_regs.specs.declared.vectors.MsiVector.{MsiVector}
use Rattle.iom_regs.specs.declared.views.Which.{Which}
use Rattle.iom_regs.specs.declared.views.Which.TheVariants as which
use Rattle.iom_regs.proofs.KeptVectors.{owing_settled}
use Rattle.iom_signals.specs.Rises.{Act, ActsOf, IsChanged, Owes, RaisesFip, Refuses, TellsOnce, Writes, all_done, all_told, done, has_risen, let_go_first, told, told_in_order}
use Rattle.iom_signals.specs.Signals.{Outside, bit_of, by_freed, bytes_of, first_signalled, let_go, raised, refusal, rises, sent, signalled, signalled_by}
use Rattle.iom_signals.specs.declared.signalling.Noted.{Noted}

one_from_set : (word bit : ℕ) → has_bit word bit ≡ true → bit_at word bit ≡ 1
unfolding has_bit
one_from_set word bit set = eqb-true (bit_at word bit) 1 set

set_from_one : (word bit : ℕ) → bit_at word bit ≡ 1 → has_bit word bit ≡ true
unfolding has_bit
set_from_one word bit one = eq-eqb (bit_at word bit) 1 one

zero_from_clear : (word bit : ℕ) → has_bit word bit ≡ false → bit_at word bit ≡ 0
unfolding has_bit
zero_from_clear word bit clear = grind (arith, clear)

-- The rule of pending interrupts, for any causes.
abbrev ruled : ℕ → Bool → Bool → ℕ
ruled ipsr commands faults = pending_after ipsr 0 commands + pending_after ipsr 1 faults

ruled_again : (ipsr : ℕ) (commands faults : Bool) → ruled (ruled ipsr commands faults) commands faults ≡ ruled ipsr commands faults
ruled_again ipsr true true = refl
ruled_again ipsr true false = omega arith
ruled_again ipsr false true = omega arith
ruled_again ipsr false false = omega arith

ruled_cip : (ipsr : ℕ) (commands faults : Bool) → bit_at ipsr 0 ≡ 1 → bit_at (ruled ipsr commands faults) 0 ≡ 1
ruled_cip ipsr true true one = refl
ruled_cip ipsr true false one = omega arith
ruled_cip ipsr false true one = omega (arith, one)
ruled_cip ipsr false false one = omega (arith, one)

ruled_fip : (ipsr : ℕ) (commands faults : Bool) → bit_at ipsr 1 ≡ 1 → bit_at (ruled ipsr commands faults) 1 ≡ 1
ruled_fip ipsr true true one = refl
ruled_fip ipsr true false one = omega (arith, one)
ruled_fip ipsr false true one = omega arith
ruled_fip ipsr false false one = omega (arith, one)

-- what is pending before the rule, in a delivery
abbrev FipAtMost : ℕ → ℕ → Type 0
FipAtMost old new = (new ≡ old) ⊎ (new ≡ with_bit old 1)

-- each bit that is 1 stays so
abbrev Stays : ℕ → ℕ → Type 0
Stays old new = (queue : Which) → has_bit old (bit_of queue) ≡ true → has_bit new (bit_of queue) ≡ true

with_fip_cip : (ipsr : ℕ) → bit_at (with_bit ipsr 1) 0 ≡ bit_at ipsr 0
with_fip_cip ipsr = omega arith

with_fip_fip : (ipsr : ℕ) → bit_at (with_bit ipsr 1) 1 ≡ 1
with_fip_fip ipsr = omega arith

at_most_cip : (old new : ℕ) → FipAtMost old new → bit_at new 0 ≡ bit_at old 0
at_most_cip old new (inl same) = ap (λ n. bit_at n 0) same
at_most_cip old new (inr with) = ap (λ n. bit_at n 0) with ∙ with_fip_cip old

at_most_fip : (old new : ℕ) → FipAtMost old new → bit_at old 1 ≡ 1 → bit_at new 1 ≡ 1
at_most_fip old new (inl same) one = ap (λ n. bit_at n 1) same ∙ one
at_most_fip old new (inr with) one = ap (λ n. bit_at n 1) with ∙ with_fip_fip old

ruled_stays : (old new : ℕ) (commands faults : Bool) → FipAtMost old new → Stays old (ruled new commands faults)
ruled_stays old new commands faults most = λ queue. elim queue as (λ q. has_bit old (bit_of q) ≡ true → has_bit (ruled new commands faults) (bit_of q) ≡ true) [
  | which.Commands ↦ λ set. set_from_one _ 0 (ruled_cip new commands faults (at_most_cip old new most ∙ one_from_set old 0 set))
  | which.Faults ↦ λ set. set_from_one _ 1 (ruled_fip new commands faults (at_most_fip old new most (one_from_set old 1 set)))
]

-- by the rule before and after, the numbers are these
ruled_parts : (old : ℕ) (commands faults : Bool) → ruled old commands faults ≡ old → (old ≡ bit_at old 0 + 2 * bit_at old 1) × (pending_after old 0 commands ≡ bit_at old 0)
ruled_parts old true true settled = (omega (arith, settled), omega (arith, settled))
ruled_parts old true false settled = (omega (arith, settled), omega (arith, settled))
ruled_parts old false true settled = (omega (arith, settled), omega (arith, settled))
ruled_parts old false false settled = (omega (arith, settled), omega (arith, settled))

cip_alike : (old new : ℕ) (commands : Bool) → bit_at new 0 ≡ bit_at old 0 → pending_after new 0 commands ≡ pending_after old 0 commands
cip_alike old new true same = refl
cip_alike old new false same = ap (λ n. 1 * n) same

raised_to_one : (old new : ℕ) → old ≡ bit_at old 0 + 2 * bit_at old 1 → new ≡ bit_at old 0 + 2 → RaisesFip old new
raised_to_one old new whole is =
    let Goal : Bool → Type 0 = λ b. has_bit old 1 ≡ b → RaisesFip old new in
    let by_fip : (b : Bool) → Goal b = λ b. elim b as Goal [
      | true ↦ λ set. let one = one_from_set old 1 set in inl (omega (arith, whole, is, one))
      | false ↦ λ clear. let zero = zero_from_clear old 1 clear in inr (clear, omega (arith, whole, is, zero))
    ] in
    by_fip (has_bit old 1) refl

ruled_raises : (old new : ℕ) (commands faults asked : Bool) → ruled old commands faults ≡ old → FipAtMost old new → RaisesFip old (ruled new commands asked)
ruled_raises old new commands faults true settled most =
    let parts = ruled_parts old commands faults settled in
    let cip : pending_after new 0 commands ≡ bit_at old 0 = cip_alike old new commands (at_most_cip old new most) ∙ parts.1 in
    raised_to_one old _ parts.0 (omega (arith, cip))
ruled_raises old new commands faults false settled (inl same) =
    let parts = ruled_parts old commands faults settled in
    let cip : pending_after new 0 commands ≡ bit_at old 0 = cip_alike old new commands (at_most_cip old new (inl same)) ∙ parts.1 in
    let fip : bit_at new 1 ≡ bit_at old 1 = ap (λ n. bit_at n 1) same in
    inl (omega (arith, cip, fip, parts.0))
ruled_raises old new commands faults false settled (inr with) =
    let parts = ruled_parts old commands faults settled in
    let cip : pending_after new 0 commands ≡ bit_at old 0 = cip_alike old new commands (at_most_cip old new (inr with)) ∙ parts.1 in
    let fip : bit_at new 1 ≡ 1 = ap (λ n. bit_at n 1) with ∙ with_fip_fip old in
    raised_to_one old _ parts.0 (omega (arith, cip, fip))

-- What a delivery, and so an act, does to ipsr.
record Rules (old new : Registers) : Type 0 where
  stays : Stays old.ipsr new.ipsr
  wsi : new.fctl ≡ old.fctl
  raises : with_pending old ≡ old → RaisesFip old.ipsr new.ipsr
  settled : with_pending old ≡ old → with_pending new ≡ new

ipsr_of : {r s : Registers} → r ≡ s → r.ipsr ≡ s.ipsr
ipsr_of same = ap (λ (r : Registers). r.ipsr) same

-- the rule over registers with another fault queue, where fip at most is raised
rules : (old new : Registers) → new.cqcsr ≡ old.cqcsr → new.fctl ≡ old.fctl → FipAtMost old.ipsr new.ipsr → Rules old (with_pending new)
rules old new commands wsi most =
    let a = asks_command new.cqcsr in
    let b = asks_fault new.fqcsr in
    record {
      stays = ruled_stays old.ipsr new.ipsr a b most;
      wsi = wsi;
      raises = λ settled. ruled_raises old.ipsr new.ipsr a (asks_fault old.fqcsr) b
          (ap (λ control. ruled old.ipsr (asks_command control) (asks_fault old.fqcsr)) commands ∙ ipsr_of settled) most;
      settled = λ _. ap (λ ipsr. record new { ipsr = ipsr }) (ruled_again new.ipsr a b);
    }

passed_at_most : (r : Registers) → FipAtMost r.ipsr (tail_passed r).ipsr
passed_at_most r = elim (bit_at r.fqcsr 1 == 1) as (λ b. FipAtMost r.ipsr (if b then with_bit r.ipsr 1 else r.ipsr)) [
  | true ↦ inr refl
  | false ↦ inl refl
]

abbrev RulesOf : Registers → Delivery → Type 0
RulesOf r left = Rules r left.registers

delivered_rules : (r : Registers) (memory : Memory) (fault : Record) → Rules r (delivered r memory fault).registers
unfolding delivered
delivered_rules r memory fault =
    let stored = elim (is_in_memory r memory) as (λ b. RulesOf r (if not b then record { registers = with_fqmf r; memory = memory }
    else record { registers = record_passed r; memory = put memory (record_addr r) (record_bytes fault) })) [
      | true ↦ rules r (tail_passed r) refl refl (passed_at_most r)
      | false ↦ rules r (record r { fqcsr = with_bit r.fqcsr 8 }) refl refl (inl refl)
    ] in
    elim (is_stopped r) as (λ b. RulesOf r (if b then record { registers = with_pending r; memory = memory }
    else if is_full r then record { registers = with_fqof r; memory = memory }
    else if not (is_in_memory r memory) then record { registers = with_fqmf r; memory = memory }
    else record { registers = record_passed r; memory = put memory (record_addr r) (record_bytes fault) })) [
      | true ↦ rules r r refl refl (inl refl)
      | false ↦ elim (is_full r) as (λ b. RulesOf r (if b then record { registers = with_fqof r; memory = memory }
          else if not (is_in_memory r memory) then record { registers = with_fqmf r; memory = memory }
          else record { registers = record_passed r; memory = put memory (record_addr r) (record_bytes fault) })) [
            | true ↦ rules r (record r { fqcsr = with_bit r.fqcsr 9 }) refl refl (inl refl)
            | false ↦ stored
          ]
    ]

unruled : (r : Registers) → Rules r r
unruled r = record { stays = λ queue set. set; wsi = refl; raises = λ _. inl refl; settled = λ settled. settled }

abbrev ipsr_in : Registers → ℕ
ipsr_in r = r.ipsr

abbrev fctl_in : Registers → ℕ
fctl_in r = r.fctl

owing_rules : (x : ℕ) (r : Registers) → Rules r (owing x r)
owing_rules x r =
    let same : (owing x r).ipsr ≡ r.ipsr = elim (is_vector r.features x) as (λ b. ipsr_in (if b then record r { table = slice_set r.table x (record (vector_at r.table x) { owed = true }) } else r) ≡ r.ipsr) [
      | true ↦ refl
      | false ↦ refl
    ] in
    record {
      stays = λ queue set. ap (λ ipsr. has_bit ipsr (bit_of queue)) same ∙ set;
      wsi = elim (is_vector r.features x) as (λ b. fctl_in (if b then record r { table = slice_set r.table x (record (vector_at r.table x) { owed = true }) } else r) ≡ r.fctl) [
        | true ↦ refl
        | false ↦ refl
      ];
      raises = λ _. inl same;
      settled = owing_settled x r;
    }

done_rules : (act : Act) (o : Outside) → Rules o.registers (done act o).registers
done_rules (Writes vector) o = unruled o.registers
done_rules (Owes x) o = owing_rules x o.registers
done_rules (Refuses vector) o = delivered_rules o.registers o.memory (refusal vector.addr)

pub act_raises : (act : Act) (o : Outside) → with_pending o.registers ≡ o.registers → RaisesFip o.registers.ipsr (done act o).registers.ipsr
act_raises act o = (done_rules act o).raises

pub act_settled : (act : Act) (o : Outside) → with_pending o.registers ≡ o.registers → with_pending (done act o).registers ≡ (done act o).registers
act_settled act o = (done_rules act o).settled

-- What one act after the other does to them.
cip_kept : (old new : ℕ) → RaisesFip old new → has_bit new 0 ≡ has_bit old 0
unfolding has_bit
cip_kept old new (inl same) = ap (λ n. has_bit n 0) same
cip_kept old new (inr rises) = ap (λ n. has_bit n 0) rises.1 ∙ ap (λ n. n == 1) (with_fip_cip old)

record Leaves (old new : Registers) : Type 0 where
  stays : Stays old.ipsr new.ipsr
  wsi : new.fctl ≡ old.fctl
  cip : with_pending old ≡ old → has_bit new.ipsr 0 ≡ has_bit old.ipsr 0
  settled : with_pending old ≡ old → with_pending new ≡ new

acts_leave : (acts : List Act) (o : Outside) → Leaves o.registers (all_done acts o).registers
acts_leave [] o = record { stays = λ queue set. set; wsi = refl; cip = λ _. refl; settled = λ settled. settled }
acts_leave (act ∷ acts) o =
    let one = done_rules act o in
    let rest = acts_leave acts (done act o) in
    record {
      stays = λ queue set. rest.stays queue (one.stays queue set);
      wsi = rest.wsi ∙ one.wsi;
      cip = λ settled. rest.cip (one.settled settled) ∙ cip_kept _ _ (one.raises settled);
      settled = λ settled. rest.settled (one.settled settled);
    }

leaves : (most : ℕ) (old new : Outside) → ActsOf most old new → Leaves old.registers new.registers
leaves most old new done = subst (λ (o : Outside). Leaves old.registers o.registers) (sym done.all) (acts_leave done.acts old)

-- Each message comes to one act.
no_act : (most : ℕ) (o : Outside) → ActsOf most o o
no_act most o = record { acts = []; few = omega arith; all = refl }

one_act : (act : Act) (o : Outside) → ActsOf 1 o (done act o)
one_act act o = record { acts = act ∷ []; few = omega arith; all = refl }

sent_by_one : (vector : MsiVector) (o : Outside) → ActsOf 1 o (sent vector o)
sent_by_one vector o = elim (can_put o.memory o.messages vector.addr (bytes_of vector)) as (λ b. ActsOf 1 o (if b then done (Writes vector) o else done (Refuses vector) o)) [
  | true ↦ one_act (Writes vector) o
  | false ↦ one_act (Refuses vector) o
]

signalled_by_one : (x : ℕ) (found : Option MsiVector) (o : Outside) → ActsOf 1 o (signalled_by x found o)
signalled_by_one x None o = no_act 1 o
signalled_by_one x (Some vector) o = elim vector.masked as (λ b. ActsOf 1 o (if b then done (Owes x) o else sent vector o)) [
  | true ↦ one_act (Owes x) o
  | false ↦ sent_by_one vector o
]

told_by_one : (queue : Which) (o : Outside) → ActsOf 1 o (told queue o)
told_by_one queue o = signalled_by_one (vector_of o.registers queue) (vector_in o.registers (vector_of o.registers queue)) o

abbrev told_if : Bool → Which → Outside → Outside
told_if b queue o = if b then told queue o else o

told_if_by_one : (b : Bool) (queue : Which) (o : Outside) → ActsOf 1 o (told_if b queue o)
told_if_by_one true queue o = told_by_one queue o
told_if_by_one false queue o = no_act 1 o

let_go_by_one : (found : Option MsiVector) (o : Outside) → ActsOf 1 o (let_go found o)
let_go_by_one None o = no_act 1 o
let_go_by_one (Some vector) o = sent_by_one vector o

first_by_one : (noted : Noted) (o : Outside) → ActsOf 1 o (first_signalled noted o)
first_by_one noted o = elim noted.freed as (λ freed. ActsOf 1 o (by_freed freed noted.before o)) [
  | None ↦ told_if_by_one (rises noted.before 0 o.registers) which.Commands o
  | Some x ↦ let_go_by_one (vector_in o.registers x) o
]

both_done : (first second : List Act) (o : Outside) → all_done (first ++ second) o ≡ all_done second (all_done first o)
both_done [] second o = refl
both_done (act ∷ first) second o = both_done first second (done act o)

length_both : (first second : List Act) → length (first ++ second) ≡ length first + length second
length_both [] second = omega arith
length_both (act ∷ first) second = let rest = length_both first second in omega (arith, rest)

acts_both : (first second third : Outside) → ActsOf 1 first second → ActsOf 1 second third → ActsOf 2 first third
acts_both first second third one other = record {
  acts = one.acts ++ other.acts;
  few = let both = length_both one.acts other.acts in omega (arith, both, one.few, other.few);
  all = other.all ∙ ap (all_done other.acts) one.all ∙ sym (both_done one.acts other.acts first);
}

pub two_acts : (noted : Noted) (o : Outside) → ActsOf 2 o (signalled noted o)
unfolding signalled
two_acts noted o =
    let mid = first_signalled noted o in
    let last = raised noted.before which.Faults mid in
    elim (has_messages o.registers.features) as (λ b. ActsOf 2 o (if b then last else o)) [
      | true ↦ acts_both o mid last (first_by_one noted o) (told_if_by_one (rises noted.before 1 mid.registers) which.Faults mid)
      | false ↦ no_act 2 o
    ]

-- What is told, in order.
told_in : (those : Which → Bool) (o : Outside) → told_in_order those o ≡ told_if (those which.Faults) which.Faults (told_if (those which.Commands) which.Commands o)
told_in those o =
    elim (those which.Commands) as (λ c. all_told (cond c (which.Commands ∷ cond (those which.Faults) (which.Faults ∷ []) []) (cond (those which.Faults) (which.Faults ∷ []) [])) o
    ≡ told_if (those which.Faults) which.Faults (told_if c which.Commands o)) [
      | true ↦ elim (those which.Faults) as (λ f. all_told (cond f (which.Faults ∷ []) []) (told which.Commands o) ≡ told_if f which.Faults (told which.Commands o)) [
        | true ↦ refl
        | false ↦ refl
      ]
      | false ↦ elim (those which.Faults) as (λ f. all_told (cond f (which.Faults ∷ []) []) o ≡ told_if f which.Faults o) [
        | true ↦ refl
        | false ↦ refl
      ]
    ]

-- whether cip is told: not by a change that lets a message go
abbrev tells_cip : Option ℕ → ℕ → Outside → Bool
tells_cip None before o = rises before 0 o.registers
tells_cip (Some x) before o = false

first_told : (freed : Option ℕ) (before : ℕ) (o : Outside) → by_freed freed before o ≡ told_if (tells_cip freed before o) which.Commands (let_go_first freed o)
first_told None before o = refl
first_told (Some x) before o = refl

abbrev of_two : Bool → Bool → Which → Bool
of_two commands faults which.Commands = commands
of_two commands faults which.Faults = faults

second_of_three : (a b c : Bool) → (a && b && c) ≡ true → b ≡ true
second_of_three true true c all = refl
second_of_three true false c all = absurd (cc)
second_of_three false b c all = absurd (cc)

third_of_three : (a b c : Bool) → (a && b && c) ≡ true → c ≡ true
third_of_three true true c all = all
third_of_three true false c all = absurd (cc)
third_of_three false b c all = absurd (cc)

and_not : (b : Bool) → (b && not b) ≡ false
and_not true = refl
and_not false = refl

-- a bit that rises, where none of those that are 1 falls
rises_stays : (before : ℕ) (queue : Which) (old new : Registers) → Stays old.ipsr new.ipsr → rises before (bit_of queue) old ≡ true → has_risen before new.ipsr queue ≡ true
rises_stays before queue old new stays rises =
    let now : has_bit old.ipsr (bit_of queue) ≡ true = second_of_three (not (is_wired old)) (has_bit old.ipsr (bit_of queue)) (not (has_bit before (bit_of queue))) rises in
    let clear : not (has_bit before (bit_of queue)) ≡ true = third_of_three (not (is_wired old)) (has_bit old.ipsr (bit_of queue)) (not (has_bit before (bit_of queue))) rises in
    ap (λ b. b && not (has_bit before (bit_of queue))) (stays queue now) ∙ clear

tells_cip_stays : (freed : Option ℕ) (before : ℕ) (o : Outside) (new : Registers) → Stays o.registers.ipsr new.ipsr → tells_cip freed before o ≡ true → has_risen before new.ipsr which.Commands ≡ true
tells_cip_stays None before o new stays tells = rises_stays before which.Commands o.registers new stays tells
tells_cip_stays (Some x) before o new stays tells = absurd (cc)

abbrev last_of : Noted → Outside → Outside
last_of noted o = raised noted.before which.Faults (first_signalled noted o)

signalled_last : (noted : Noted) (o : Outside) → has_messages o.registers.features ≡ true → signalled noted o ≡ last_of noted o
unfolding signalled
signalled_last noted o offered = ap (λ b. if b then last_of noted o else o) offered

by_two : (noted : Noted) (o : Outside) → last_of noted o ≡ told_in_order (of_two (tells_cip noted.freed noted.before o) (rises noted.before 1 (first_signalled noted o).registers)) (let_go_first noted.freed o)
by_two noted o =
    let f = rises noted.before 1 (first_signalled noted o).registers in
    ap (told_if f which.Faults) (first_told noted.freed noted.before o)
    ∙ sym (told_in (of_two (tells_cip noted.freed noted.before o) f) (let_go_first noted.freed o))

first_leaves : (noted : Noted) (o : Outside) → Leaves o.registers (first_signalled noted o).registers
first_leaves noted o = leaves 1 o (first_signalled noted o) (first_by_one noted o)

last_leaves : (noted : Noted) (o : Outside) → Leaves (first_signalled noted o).registers (last_of noted o).registers
last_leaves noted o =
    let mid = first_signalled noted o in
    leaves 1 mid (last_of noted o) (told_if_by_one (rises noted.before 1 mid.registers) which.Faults mid)

last_once : (noted : Noted) (o : Outside) → TellsOnce noted o (last_of noted o)
last_once noted o =
    let mid = first_signalled noted o in
    let last = last_of noted o in
    let to_mid = first_leaves noted o in
    let to_last = last_leaves noted o in
    let those = of_two (tells_cip noted.freed noted.before o) (rises noted.before 1 mid.registers) in
    record {
      those = those;
      risen = λ queue. elim queue as (λ q. those q ≡ true → has_risen noted.before last.registers.ipsr q ≡ true) [
        | which.Commands ↦ tells_cip_stays noted.freed noted.before o last.registers (λ q set. to_last.stays q (to_mid.stays q set))
        | which.Faults ↦ rises_stays noted.before which.Faults mid.registers last.registers to_last.stays
      ];
      all = by_two noted o;
    }

pub tells_once : (noted : Noted) (o : Outside) → has_messages o.registers.features ≡ true → TellsOnce noted o (signalled noted o)
tells_once noted o offered = subst (TellsOnce noted o) (sym (signalled_last noted o offered)) (last_once noted o)

-- Those that are told are all that have risen.
three : (wired now before : Bool) → wired ≡ false → (not wired && now && before) ≡ (now && before)
three wired now before none = ap (λ w. not w && now && before) none

risen_alike : (before old new : ℕ) (queue : Which) → has_bit new (bit_of queue) ≡ has_bit old (bit_of queue) → has_risen before new queue ≡ has_risen before old queue
risen_alike before old new queue same = ap (λ b. b && not (has_bit before (bit_of queue))) same

cip_is_told : (freed : Option ℕ) (before : ℕ) (o : Outside) (new : ℕ) → is_wired o.registers ≡ false → IfSome freed (λ _. o.registers.ipsr ≡ before) →
    has_bit new 0 ≡ has_bit o.registers.ipsr 0 → has_risen before new which.Commands ≡ tells_cip freed before o
cip_is_told None before o new messages still same =
    risen_alike before o.registers.ipsr new which.Commands same ∙ sym (three (is_wired o.registers) (has_bit o.registers.ipsr 0) (not (has_bit before 0)) messages)
cip_is_told (Some x) before o new messages still same =
    risen_alike before o.registers.ipsr new which.Commands same ∙ ap (λ n. has_bit n 0 && not (has_bit before 0)) still ∙ and_not (has_bit before 0)

fip_is_told : (before : ℕ) (o : Outside) → is_wired o.registers ≡ false → Stays o.registers.ipsr (raised before which.Faults o).registers.ipsr →
    has_risen before (raised before which.Faults o).registers.ipsr which.Faults ≡ rises before 1 o.registers
fip_is_told before o messages stays =
    let Goal : Bool → Type 0 = λ b. rises before 1 o.registers ≡ b → Stays o.registers.ipsr (told_if b which.Faults o).registers.ipsr →
    has_risen before (told_if b which.Faults o).registers.ipsr which.Faults ≡ b in
    let by_rise : (b : Bool) → Goal b = λ b. elim b as Goal [
      | true ↦ λ is stays. rises_stays before which.Faults o.registers (told which.Faults o).registers stays is
      | false ↦ λ is stays. sym (three (is_wired o.registers) (has_bit o.registers.ipsr 1) (not (has_bit before 1)) messages) ∙ is
    ] in
    by_rise (rises before 1 o.registers) refl stays

last_all : (noted : Noted) (o : Outside) → IsChanged noted o.registers →
    last_of noted o ≡ told_in_order (has_risen noted.before (last_of noted o).registers.ipsr) (let_go_first noted.freed o)
last_all noted o changed =
    let mid = first_signalled noted o in
    let last = last_of noted o in
    let base = let_go_first noted.freed o in
    let to_mid = first_leaves noted o in
    let to_last = last_leaves noted o in
    let wired : is_wired mid.registers ≡ false = ap (λ fctl. has_bit fctl 1) to_mid.wsi ∙ changed.messages in
    let cip : has_bit last.registers.ipsr 0 ≡ has_bit o.registers.ipsr 0 = to_last.cip (to_mid.settled changed.settled) ∙ to_mid.cip changed.settled in
    let c = cip_is_told noted.freed noted.before o last.registers.ipsr changed.messages changed.freed cip in
    let f = fip_is_told noted.before mid wired to_last.stays in
    by_two noted o ∙ told_in (of_two (tells_cip noted.freed noted.before o) (rises noted.before 1 mid.registers)) base
    ∙ ap (λ b. told_if b which.Faults (told_if (tells_cip noted.freed noted.before o) which.Commands base)) (sym f)
    ∙ ap (λ b. told_if (has_risen noted.before last.registers.ipsr which.Faults) which.Faults (told_if b which.Commands base)) (sym c)
    ∙ sym (told_in (has_risen noted.before last.registers.ipsr) base)

pub tells_all : (noted : Noted) (o : Outside) → IsChanged noted o.registers →
    signalled noted o ≡ told_in_order (has_risen noted.before (signalled noted o).registers.ipsr) (let_go_first noted.freed o)
tells_all noted o changed =
    subst (λ (left : Outside). left ≡ told_in_order (has_risen noted.before left.registers.ipsr) (let_go_first noted.freed o))
    (sym (signalled_last noted o changed.offered)) (last_all noted o changed)
