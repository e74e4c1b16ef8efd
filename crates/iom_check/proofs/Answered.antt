-- A line that is a step, or several, has an answer.
use Rattle.std.proofs.Common.{◌≡◌, ◌<◌, ◌+◌, ℕ, zero, suc, Bool, true, false, List, [], ◌∷◌, length, Option, Some, None, Result, Ok, Err, if◌then◌else◌, refl, sym, ap, subst, arith}
use Rattle.std.specs.Prelude.{◌&&◌, IfSome, is_some, nat_lt, replicate, slice_get}
use Rattle.std.proofs.lemmas.Bool.{and_parts, lt-ltb, ltb-true}
use Rattle.hex.specs.Hex as hex
use Rattle.hex.specs.Hex.{encode_lower}
use Rattle.iom_mem.specs.Memory.{Memory, before, byte, bytes_at, put}
use Rattle.iom_bits.specs.Bytes.{bytes_of_number}
use Rattle.iom_regs.specs.Busy.{is_busy_at}
use Rattle.iom_regs.specs.Table.{Registers, after_write, is_legal as is_legal_register, read}
use Rattle.iom_virtq.specs.Bus.{Read, Write}
use Rattle.iom_blk.specs.Device.{Device}
use Rattle.iom_blk.specs.Phases.{asks}
use Rattle.iom_blk.specs.Registers.{is_legal, read as device_read, with_write}
use Rattle.iom_blk.specs.declared.want.Moved.{Moved}
use Rattle.iom_blk.specs.declared.want.Moved.TheVariants as moved
use Rattle.iom_core.specs.Commands.{fetched, is_taken}
use Rattle.iom_core.specs.State.{State}
use Rattle.iom_core.specs.Reach.{Takes, TakesAt, TakesBy}
use Rattle.iom_core.specs.Table.{Asking, Handled, Stored, Written, acted, address_in, answer_by_address, answer_of, asked, asking_where, dev_read, dev_write, dev_written, device_step, fits, idle_or_done, is_aligned, is_device_access, load, moving, next, overflows, probed, put_inside, reg_read, reg_write, store, translated, value_of, value_or_bad}
use Rattle.iom_core.proofs.Reaches.{takes}
use Rattle.iom_core.specs.declared.access.Denial.{Denial}
use Rattle.iom_core.specs.declared.step.Step.{Step}
use Rattle.iom_core.specs.declared.step.Step.TheVariants as step
use Rattle.iom_core.specs.declared.step.Answer.{Answer}
use Rattle.iom_core.specs.declared.step.Answer.TheVariants as answer
use Rattle.iom_tool.specs.Console.{Console}
use Rattle.iom_tool.specs.Script.{Again, Asks, Bad, Blank, DebugLine, Does, Inquires, Named, Plain, Stores}
use Rattle.iom_tool.specs.Texts as texts
use Rattle.iom_tool.specs.Texts.{text_of}
use Rattle.iom_debug.specs.Marks.{MarksView}
use Rattle.iom_debug.specs.Output.{IsReply, debug_steps}
use Rattle.iom_debug.specs.Reasons.{LineAccountView}
use Rattle.iom_debug.specs.Taking as taking
use Rattle.iom_debug.specs.Taking.{count_text, is_done, last_answer, taken}

-- something stands there
pub record IsSaid (text : List ℕ) : Type 0 where
  pub some : nat_lt 0 (length text) ≡ true

pub said : (first : ℕ) (rest : List ℕ) → IsSaid (first ∷ rest)
said first rest = record { some = lt-ltb 0 (length (first ∷ rest)) (omega arith) }

-- if there are bytes in an answer, there is one at least
abbrev HasOne : Answer → Type 0
HasOne (answer.Bytes bytes) = 0 < length bytes.items
HasOne _ = Unit {0}

said_bytes : (bytes : List ℕ) → 0 < length bytes → IsSaid (encode_lower bytes)
unfolding hex.encode_with
said_bytes [] some = absurd (omega arith)
said_bytes (byte ∷ bytes) some = said _ _

said_answer : (given : Answer) → HasOne given → IsSaid (text_of given)
unfolding texts.text_of
said_answer (answer.Value value) one = said _ _
said_answer answer.Done one = said _ _
said_answer (answer.Bytes bytes) one = said_bytes bytes.items one
said_answer answer.Idle one = said _ _
said_answer (answer.Denied cause) one = said _ _
said_answer answer.BusError one = said _ _
said_answer answer.BadAccess one = said _ _
said_answer answer.NoDevice one = said _ _
said_answer answer.Misuse one = said _ _

-- of either of two
picked : {X : Type 0} (given : X → Answer) (b : Bool) (x y : X) → HasOne (given x) → HasOne (given y) → HasOne (given (if b then x else y))
picked given true x y first second = first
picked given false x y first second = second

value_one : (found : Option (List ℕ)) → HasOne (value_of found)
value_one (Some bytes) = tt
value_one None = tt

register_one : (value : Option ℕ) → HasOne (value_or_bad value)
register_one (Some value) = tt
register_one None = tt

address_one : (led_to : Result ℕ Denial) → HasOne (answer_by_address led_to)
address_one (Ok addr) = tt
address_one (Err denial) = tt

moved_one : (told : Moved) → HasOne (answer_of told)
moved_one moved.Idle = tt
moved_one moved.Did = tt
moved_one (moved.Denied cause) = tt
moved_one moved.Outside = tt

idle_one : (taken : Bool) → HasOne (idle_or_done taken)
idle_one true = tt
idle_one false = tt

put_one : (at : Memory) (addr : ℕ) (bytes : List ℕ) → HasOne (put_inside at addr bytes).answer
put_one at addr bytes =
    picked (λ (s : Stored). s.answer) (is_some (bytes_at at addr (length bytes))) (record { answer = answer.Done; memory = put at addr bytes })
    (record { answer = answer.BusError; memory = at }) tt tt

load_one : (at : Memory) (addr size : ℕ) → HasOne (load at addr size)
unfolding load
load_one at addr size = picked (λ (a : Answer). a) (is_aligned addr size) (value_of (bytes_at at addr size)) answer.Misuse (value_one (bytes_at at addr size)) tt

store_one : (at : Memory) (addr size value : ℕ) → HasOne (store at addr size value).answer
unfolding store
store_one at addr size value =
    let bytes = bytes_of_number size value in
    picked (λ (s : Stored). s.answer) (is_aligned addr size && fits value size) (put_inside at addr bytes) (record { answer = answer.Misuse; memory = at })
    (put_one at addr bytes) tt

write_one : (registers : Registers) (off size value : ℕ) → HasOne (reg_write registers off size value).answer
unfolding reg_write
write_one registers off size value =
    let written : Written = record { answer = answer.Done; registers = after_write registers off size value } in
    let refused : Written = record { answer = answer.BadAccess; registers = registers } in
    let legal = is_legal_register registers.features off size in
    picked (λ (w : Written). w.answer) (overflows value size) (record { answer = answer.Misuse; registers = registers }) (if legal then written else refused) tt
    (picked (λ (w : Written). w.answer) legal written refused tt tt)

device_one : (device : Device) (off size value : ℕ) → HasOne (dev_write device off size value).answer
unfolding dev_write
device_one device off size value =
    let written : Handled = record { answer = answer.Done; device = with_write device off value } in
    let refused : Handled = record { answer = answer.BadAccess; device = device } in
    let legal = is_legal off size in
    picked (λ (h : Handled). h.answer) (overflows value size) (record { answer = answer.Misuse; device = device }) (if legal then written else refused) tt
    (picked (λ (h : Handled). h.answer) legal written refused tt tt)

read_one : (own : Option (ℕ × Device)) (off size : ℕ) → HasOne (dev_read own off size)
read_one None off size = tt
read_one (Some own) off size = register_one (device_read own.1 off size)

written_one : (state : State) (dev : ℕ) (own : Option (ℕ × Device)) (off size value : ℕ) → HasOne (dev_written state dev own off size value).answer
written_one state dev None off size value = tt
written_one state dev (Some own) off size value = device_one own.1 off size value

step_one : (state : State) (dev : ℕ) (own : Option (ℕ × Device)) → HasOne (device_step state dev own).answer
step_one state dev None = tt
step_one state dev (Some own) = moved_one (moving state.machine state.messages own.0 own.1 (asks own.1)).told

translated_one : (state : State) (asking : Option Asking) → HasOne (translated state asking).answer
translated_one state None = tt
translated_one state (Some asking) = address_one (address_in state asking)

-- a read is answered as many bytes as it asks for
one_more : (first : Option ℕ) (rest : Option (List ℕ)) (count : ℕ) → IfSome rest (λ bytes. length bytes ≡ count) →
    IfSome (before first rest) (λ bytes. length bytes ≡ suc count)
one_more None rest count is = tt
one_more (Some b) None count is = tt
one_more (Some b) (Some bytes) count is = ap suc is

length_at : (at : Memory) (addr count : ℕ) → IfSome (bytes_at at addr count) (λ bytes. length bytes ≡ count)
unfolding bytes_at
length_at at addr zero = refl
length_at at addr (suc count) = one_more (byte at addr) (bytes_at at (addr + 1) count) count (length_at at (addr + 1) count)

by_address : (at : Memory) (iova count : ℕ) (bytes : List ℕ) (led_to : Result ℕ Denial) → TakesAt at (Read iova count) bytes led_to →
    length bytes ≡ count
by_address at iova count bytes (Ok addr) is = subst (λ (found : Option (List ℕ)). IfSome found (λ bytes. length bytes ≡ count)) is (length_at at addr count)
by_address at iova count bytes (Err denial) is = absurd is

by_read : (at : Memory) (iova count : ℕ) (led_to : Result ℕ Denial) (given : Answer) → 0 < count → TakesBy at (Read iova count) led_to given → HasOne given
by_read at iova count led_to (answer.Bytes bytes) some is = subst (λ n. 0 < n) (sym (by_address at iova count bytes.items led_to is)) some
by_read at iova count led_to (answer.Value value) some is = tt
by_read at iova count led_to answer.Done some is = tt
by_read at iova count led_to answer.Idle some is = tt
by_read at iova count led_to (answer.Denied cause) some is = tt
by_read at iova count led_to answer.BusError some is = tt
by_read at iova count led_to answer.BadAccess some is = tt
by_read at iova count led_to answer.NoDevice some is = tt
by_read at iova count led_to answer.Misuse some is = tt

-- and a write none
by_write : (at : Memory) (iova : ℕ) (bytes : List ℕ) (led_to : Result ℕ Denial) (given : Answer) → TakesBy at (Write iova bytes) led_to given → HasOne given
by_write at iova bytes led_to (answer.Bytes read) is = absurd is
by_write at iova bytes led_to (answer.Value value) is = tt
by_write at iova bytes led_to answer.Done is = tt
by_write at iova bytes led_to answer.Idle is = tt
by_write at iova bytes led_to (answer.Denied cause) is = tt
by_write at iova bytes led_to answer.BusError is = tt
by_write at iova bytes led_to answer.BadAccess is = tt
by_write at iova bytes led_to answer.NoDevice is = tt
by_write at iova bytes led_to answer.Misuse is = tt

-- a device's access has a byte at least
some_bytes : (did iova len : ℕ) → is_device_access did iova len ≡ true → 0 < len
some_bytes did iova len legal = ltb-true _ _ (and_parts _ _ (and_parts _ _ (and_parts _ _ legal).0).0).1

read_legal : (state : State) (did iova len : ℕ) (legal : Bool) → (legal ≡ true → 0 < len) →
    Takes state (asking_where legal did (Read iova len)) (probed state (asking_where legal did (Read iova len))).answer →
    HasOne (probed state (asking_where legal did (Read iova len))).answer
read_legal state did iova len true some is = by_read state.machine.memory iova len _ _ (some refl) is
read_legal state did iova len false some is = tt

write_legal : (state : State) (did iova : ℕ) (bytes : List ℕ) (legal : Bool) →
    Takes state (asking_where legal did (Write iova bytes)) (probed state (asking_where legal did (Write iova bytes))).answer →
    HasOne (probed state (asking_where legal did (Write iova bytes))).answer
write_legal state did iova bytes true is =
    by_write state.machine.memory iova bytes (address_in state (record { did = did; ask = Write iova bytes })) _ is
write_legal state did iova bytes false is = tt

one : (state : State) (given : Step) → HasOne (next state given).answer
unfolding next acted asked reg_read
one state (step.Load addr size) = load_one state.machine.memory addr size
one state (step.Store addr size value) = store_one state.machine.memory addr size value
one state (step.RegRead off size) = register_one (read state.machine.registers off size)
one state (step.RegWrite off size value) = write_one state.machine.registers off size value
one state step.Command = idle_one (is_taken (fetched state.machine))
one state (step.Settle register) = idle_one (is_busy_at state.machine.registers register)
one state (step.DmaRead did iova len) =
    read_legal state did iova len (is_device_access did iova len) (some_bytes did iova len) (takes state (step.DmaRead did iova len))
one state (step.DmaWrite did iova bytes) =
    write_legal state did iova bytes.items (is_device_access did iova (length bytes.items)) (takes state (step.DmaWrite did iova bytes))
one state (step.Translate did iova kind) = translated_one state (asked state (step.Translate did iova kind))
one state (step.DevRead dev off size) = read_one (slice_get state.devices dev) off size
one state (step.DevWrite dev off size value) = written_one state dev (slice_get state.devices dev) off size value
one state (step.Device dev) = step_one state dev (slice_get state.devices dev)

-- what a step is answered is said
said_step : (state : State) (given : Step) → IsSaid (text_of (next state given).answer)
said_step state given = said_answer _ (one state given)

said_last : (state : State) (first : Step) (steps : List Step) → IsSaid (text_of (last_answer state (first ∷ steps)))
said_last state first [] =
    elim (is_done (next state first).answer) as (λ b. IsSaid (text_of (if b then answer.Done else (next state first).answer))) [
      | true ↦ said_answer answer.Done tt
      | false ↦ said_step state first
    ]
said_last state first (second ∷ steps) =
    let there = (next state first).state in
    elim (is_done (next state first).answer) as (λ b. IsSaid (text_of (if b then last_answer there (second ∷ steps) else (next state first).answer))) [
      | true ↦ said_last there second steps
      | false ↦ said_step state first
    ]

said_run : (count : ℕ) (last : Answer) → IsSaid (count_text count last)
unfolding taking.count_text
said_run count last = said _ _

no_step : (first : Step) (steps : List Step) → [] ≡ first ∷ steps → ⊥
no_step first steps is = cc

-- a line that is a step has an answer
pub said_line : (marks : MarksView) (now : Console) (reasons : LineAccountView) (line : DebugLine) (answer : List ℕ) (first : Step) (steps : List Step) →
    debug_steps now.state line ≡ first ∷ steps → IsReply marks now reasons line answer → IsSaid answer
said_line marks now reasons (Plain Blank) answer first steps is reply = absurd (no_step first steps is)
said_line marks now reasons (Plain Bad) answer first steps is reply = absurd (no_step first steps is)
said_line marks now reasons (Plain (Does step)) answer first steps is reply = subst IsSaid (sym reply) (said_step now.state step)
said_line marks now reasons (Plain (Asks question)) answer first steps is reply = absurd (no_step first steps is)
said_line marks now reasons (Named step) answer first steps is reply = subst IsSaid (sym reply) (said_step now.state step)
said_line marks now reasons (Inquires inquiry) answer first steps is reply = absurd (no_step first steps is)
said_line marks now reasons (Again step most) answer first steps is reply =
    subst IsSaid (sym reply)
    (said_run (length (taken now.state (replicate most step))) (last_answer now.state (replicate most step)))
said_line marks now reasons (Stores []) answer first steps is reply = absurd (no_step first steps is)
said_line marks now reasons (Stores (one ∷ more)) answer first steps is reply = subst IsSaid (sym reply) (said_last now.state one more)
