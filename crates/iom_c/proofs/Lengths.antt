-- A device's read is answered as many bytes as it asked for.
use Rattle.std.proofs.Common.{◌≡◌, ◌+◌, ℕ, zero, suc, Bool, true, false, List, length, Option, Some, None, Result, Ok, Err, refl, sym, ap, subst}
use Rattle.std.specs.Prelude.{IfSome}
use Rattle.iom_mem.specs.Memory.{Memory, before, byte, bytes_at}
use Rattle.iom_virtq.specs.Bus.{Read}
use Rattle.iom_core.specs.State.{State}
use Rattle.iom_core.specs.Reach.{Reaches, Takes, TakesAt, TakesBy}
use Rattle.iom_core.specs.Table.{acted, address_in, asked, asking_where, is_device_access, next, probed}
use Rattle.iom_core.proofs.Interrupted.{reaches}
use Rattle.iom_core.specs.declared.access.Denial.{Denial}
use Rattle.iom_core.specs.declared.step.Step.TheVariants as step
use Rattle.iom_core.specs.declared.step.Answer.{Answer}
use Rattle.iom_core.specs.declared.step.Answer.TheVariants as answer
use Rattle.iom_c.specs.Answers.{HasLength}

one_more : (first : Option ℕ) (rest : Option (List ℕ)) (count : ℕ) → IfSome rest (λ bytes. length bytes ≡ count) →
    IfSome (before first rest) (λ bytes. length bytes ≡ suc count)
one_more None rest count is = tt
one_more (Some b) None count is = tt
one_more (Some b) (Some bytes) count is = ap suc is

length_at : (memory : Memory) (addr count : ℕ) → IfSome (bytes_at memory addr count) (λ bytes. length bytes ≡ count)
unfolding bytes_at
length_at memory addr zero = refl
length_at memory addr (suc count) = one_more (byte memory addr) (bytes_at memory (addr + 1) count) count (length_at memory (addr + 1) count)

by_address : (memory : Memory) (iova count : ℕ) (bytes : List ℕ) (led_to : Result ℕ Denial) →
    TakesAt memory (Read iova count) bytes led_to → length bytes ≡ count
by_address memory iova count bytes (Ok addr) is =
    subst (λ (found : Option (List ℕ)). IfSome found (λ bytes. length bytes ≡ count)) is (length_at memory addr count)
by_address memory iova count bytes (Err denial) is = absurd is

by_answer : (memory : Memory) (iova count : ℕ) (led_to : Result ℕ Denial) (given : Answer) →
    TakesBy memory (Read iova count) led_to given → HasLength given count
by_answer memory iova count led_to (answer.Bytes bytes) is = by_address memory iova count bytes.items led_to is
by_answer memory iova count led_to (answer.Value value) is = tt
by_answer memory iova count led_to answer.Done is = tt
by_answer memory iova count led_to answer.Idle is = tt
by_answer memory iova count led_to (answer.Denied cause) is = tt
by_answer memory iova count led_to answer.BusError is = tt
by_answer memory iova count led_to answer.BadAccess is = tt
by_answer memory iova count led_to answer.NoDevice is = tt
by_answer memory iova count led_to answer.Misuse is = tt

by_legality : (state : State) (did iova count : ℕ) (legal : Bool) (given : Answer) →
    given ≡ (probed state (asking_where legal did (Read iova count))).answer →
    Takes state (asking_where legal did (Read iova count)) given → HasLength given count
by_legality state did iova count true given is takes =
    by_answer state.machine.memory iova count (address_in state (record { did = did; ask = Read iova count })) given takes
by_legality state did iova count false given is takes = subst (λ (a : Answer). HasLength a count) (sym is) tt

read_fills : (state : State) (did iova count : ℕ) (given : Answer) (new : State) →
    given ≡ (next state (step.DmaRead did iova count)).answer → Reaches state (step.DmaRead did iova count) given new →
    HasLength given count
unfolding next acted asked
read_fills state did iova count given new is reaches =
    by_legality state did iova count (is_device_access did iova count) given is reaches.takes

pub fills : (state : State) (did iova count : ℕ) → HasLength (next state (step.DmaRead did iova count)).answer count
fills state did iova count =
    let taken = next state (step.DmaRead did iova count) in
    read_fills state did iova count taken.answer taken.state refl (reaches state (step.DmaRead did iova count))
