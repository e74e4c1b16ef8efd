-- What others write, a hart could have stored.
use Rattle.std.proofs.Common.{◌≡◌, ◌∙◌, ◌+◌, ◌-◌, ◌%◌, ◌<◌, ◌≤◌, ℕ, zero, suc, List, [], ◌∷◌, ◌++◌, length, take, drop, Some, true, false, map, refl, sym, ap, subst, arith, append_assoc, length-append}
use Rattle.std.specs.Prelude.{slice_get}
use Rattle.std.specs.Option.{option_and_then, option_map}
use Rattle.std.proofs.Math.Seq.{take-append_seam, drop-append-add}
use Rattle.iom_mem.specs.Memory.{Memory, bytes_at}
use Rattle.iom_mem.proofs.Bytes.{bytes_at_inside}
use Rattle.iom_core.specs.State.{State}
use Rattle.iom_core.specs.Access.{led}
use Rattle.iom_core.specs.Table.{acted, asked, fits, next, request_of_step, store, with_memory}
use Rattle.iom_core.specs.Reach.{may_raise}
use Rattle.iom_core.proofs.Quiet.{next_quiet}
use Rattle.iom_core.specs.Run.{answers, end_of}
use Rattle.iom_core.specs.Warrants.{IsDenied, IsUncached, moment, request_at}
use Rattle.iom_core.specs.declared.step.Step.{Step}
use Rattle.iom_core.specs.declared.step.Step.TheVariants as step
use Rattle.iom_core.specs.Others.{AreBytes, AreWritten, Happening, IsAnswered, IsWarranted, IsWritten, Took, Wrote, end_after, place_of, steps_of, stores_of}
use Rattle.iom_core.proofs.Warranted.{warranted}

-- a memory with other bytes
abbrev pub with_bytes : Memory → List ℕ → Memory
with_bytes memory bytes = record memory { bytes = bytes }

-- a store of one byte
byte_stored : (memory : Memory) (front back : List ℕ) (old byte : ℕ) → memory.bytes ≡ front ++ old ∷ back → byte < 256 →
    (store memory (memory.base + length front) 1 byte).memory ≡ with_bytes memory (front ++ byte ∷ back)
unfolding store
byte_stored memory front back old byte is small =
    let addr : ℕ = memory.base + length front in
    let aligned : addr % 1 ≡ 0 = omega arith in
    let same : byte % 256 ≡ byte = omega arith in
    let place : addr - memory.base ≡ length front = omega arith in
    let room : length front + 1 ≤ length memory.bytes =
    subst (λ (bs : List ℕ). length front + 1 ≤ length bs) (sym is) (omega (arith, length-append front (old ∷ back))) in
    let there : bytes_at memory addr 1 ≡ Some (take 1 (drop (length front) memory.bytes)) = bytes_at_inside memory addr (length front) 1 refl room in
    let before : take (length front) memory.bytes ≡ front = ap (take (length front)) is ∙ take-append_seam front (old ∷ back) in
    let behind : drop (length front + 1) memory.bytes ≡ back = ap (drop (length front + 1)) is ∙ drop-append-add front (old ∷ back) 1 in
    let fit : fits byte 1 ≡ true = grind arith in
    rw (aligned, same, there, place, before, behind, fit) refl

end_of_append : (start : State) (steps more : List Step) → end_of start (steps ++ more) ≡ end_of (end_of start steps) more
end_of_append start [] more = refl
end_of_append start (taken ∷ steps) more = end_of_append (next start taken).state steps more

-- a store raises no interrupt
store_quiet : (state : State) (addr size value : ℕ) → may_raise state (step.Store addr size value) ≡ false
unfolding may_raise asked
store_quiet state addr size value = refl

-- stores of bytes, one after the other
bytes_stored : (state : State) (front olds bytes : List ℕ) → state.machine.memory.bytes ≡ front ++ olds → length bytes ≡ length olds → AreBytes bytes →
    end_of state (stores_of (state.machine.memory.base + length front) bytes) ≡ with_memory state (with_bytes state.machine.memory (front ++ bytes))
unfolding acted
bytes_stored state front [] [] is size small = ap (λ (bs : List ℕ). with_memory state (with_bytes state.machine.memory bs)) is
bytes_stored state front (old ∷ olds) [] is size small = absurd (omega (arith, size))
bytes_stored state front [] (byte ∷ bytes) is size small = absurd (omega (arith, size))
bytes_stored state front (old ∷ olds) (byte ∷ bytes) is size small =
    let m : Memory = state.machine.memory in
    let one : Memory = with_bytes m (front ++ byte ∷ olds) in
    let stored : (store m (m.base + length front) 1 byte).memory ≡ one = byte_stored m front olds old byte is small.0 in
    let long : List ℕ = front ++ byte ∷ [] in
    let more : length bytes ≡ length olds = omega (arith, size) in
    let rest = bytes_stored (with_memory state one) long olds bytes (sym (append_assoc front (byte ∷ []) olds)) more small.1 in
    let at : m.base + length long ≡ m.base + length front + 1 = omega (arith, length-append front (byte ∷ [])) in
    ap (λ (s : State). end_of s (stores_of (m.base + length front + 1) bytes))
    (next_quiet state (step.Store (m.base + length front) 1 byte) (store_quiet state (m.base + length front) 1 byte))
    ∙ ap (λ (x : Memory). end_of (with_memory state x) (stores_of (m.base + length front + 1) bytes)) stored
    ∙ ap (λ (n : ℕ). end_of (with_memory state one) (stores_of n bytes)) (sym at)
    ∙ rest
    ∙ ap (λ (bs : List ℕ). with_memory state (with_bytes m bs)) (append_assoc front (byte ∷ []) bytes)

written : (state : State) (memory : Memory) → IsWritten state.machine.memory memory →
    end_of state (stores_of memory.base memory.bytes) ≡ with_memory state memory
written state memory w =
    let m : Memory = state.machine.memory in
    let at : memory.base ≡ m.base + 0 = omega (arith, w.base) in
    ap (λ (n : ℕ). end_of state (stores_of n memory.bytes)) at
    ∙ bytes_stored state [] m.bytes memory.bytes refl w.size w.bytes
    ∙ ap (λ (b : ℕ). with_memory state (record { base = b; bytes = memory.bytes })) (sym w.base)

-- happenings, and the steps that stand for them
pub played : (start : State) (happenings : List Happening) → AreWritten start happenings → end_after start happenings ≡ end_of start (steps_of happenings)
played start [] w = refl
played start (Took taken ∷ more) w = played (next start taken).state more w
played start (Wrote memory ∷ more) w =
    played (with_memory start memory) more w.1
    ∙ ap (λ (s : State). end_of s (steps_of more)) (sym (written start memory w.0))
    ∙ sym (end_of_append start (stores_of memory.base memory.bytes) (steps_of more))

pub steps_alone : (steps : List Step) → steps_of (map Took steps) ≡ steps
steps_alone [] = refl
steps_alone (taken ∷ steps) = ap (λ (rest : List Step). taken ∷ rest) (steps_alone steps)

written_first : (start : State) (happenings : List Happening) (n : ℕ) → AreWritten start happenings → AreWritten start (take n happenings)
written_first start happenings zero w = tt
written_first start [] (suc n) w = tt
written_first start (Took taken ∷ more) (suc n) w = written_first (next start taken).state more n w
written_first start (Wrote memory ∷ more) (suc n) w = (w.0, written_first (with_memory start memory) more n w.1)

steps_split : (happenings : List Happening) (n : ℕ) → steps_of happenings ≡ steps_of (take n happenings) ++ steps_of (drop n happenings)
steps_split happenings zero = refl
steps_split [] (suc n) = refl
steps_split (Took taken ∷ more) (suc n) = ap (λ (rest : List Step). taken ∷ rest) (steps_split more n)
steps_split (Wrote memory ∷ more) (suc n) =
    ap (λ (rest : List Step). stores_of memory.base memory.bytes ++ rest) (steps_split more n)
    ∙ sym (append_assoc (stores_of memory.base memory.bytes) (steps_of (take n more)) (steps_of (drop n more)))

same_moment : (start : State) (happenings : List Happening) (n : ℕ) → AreWritten start happenings →
    end_after start (take n happenings) ≡ moment start (steps_of happenings) (place_of happenings n)
unfolding moment
same_moment start happenings n w =
    let first : List Step = steps_of (take n happenings) in
    played start (take n happenings) (written_first start happenings n w)
    ∙ ap (end_of start) (sym (ap (take (length first)) (steps_split happenings n) ∙ take-append_seam first (steps_of (drop n happenings))))

behind : (steps more : List Step) (k : ℕ) → slice_get (steps ++ more) (length steps + k) ≡ slice_get more k
behind [] more k = let none : 0 + k ≡ k = omega arith in ap (slice_get more) none
behind (taken ∷ steps) more k =
    let one : length (taken ∷ steps) + k ≡ suc (length steps + k) = omega arith in ap (slice_get (taken ∷ (steps ++ more))) one ∙ behind steps more k

same_step : (happenings : List Happening) (n : ℕ) (taken : Step) → slice_get happenings n ≡ Some (Took taken) →
    slice_get (steps_of happenings) (place_of happenings n) ≡ Some taken
same_step [] n taken is = absurd (cc)
same_step (Took own ∷ more) zero taken is = cc
same_step (Took own ∷ more) (suc n) taken is = same_step more n taken is
same_step (Wrote memory ∷ more) zero taken is = absurd (cc)
same_step (Wrote memory ∷ more) (suc n) taken is =
    let stores : List Step = stores_of memory.base memory.bytes in
    ap (slice_get (stores ++ steps_of more)) (length-append stores (steps_of (take n more)))
    ∙ behind stores (steps_of more) (place_of more n) ∙ same_step more n taken is

answer_at : (start : State) (steps : List Step) (k : ℕ) (taken : Step) → slice_get steps k ≡ Some taken →
    slice_get (answers start steps) k ≡ Some (next (moment start steps k) taken).answer
unfolding moment
answer_at start [] k taken is = absurd (cc)
answer_at start (own ∷ steps) zero taken is = ap (option_map (λ (taken : Step). (next start taken).answer)) is
answer_at start (own ∷ steps) (suc k) taken is = answer_at (next start own).state steps k taken is

pub answered_among : (start : State) (happenings : List Happening) (n : ℕ) → AreWritten start happenings → IsAnswered start happenings n
answered_among start happenings n w taken is =
    answer_at start (steps_of happenings) (place_of happenings n) taken (same_step happenings n taken is)
    ∙ ap (λ (s : State). Some (next s taken).answer) (sym (same_moment start happenings n w))

pub warranted_among : (start : State) (happenings : List Happening) (n : ℕ) → AreWritten start happenings → IsUncached start →
    IsWarranted start happenings n
warranted_among start happenings n w none =
    let steps : List Step = steps_of happenings in
    let k : ℕ = place_of happenings n in
    let now : end_after start (take n happenings) ≡ moment start steps k = same_moment start happenings n w in
    record {
      moment = now;
      accesses = λ taken request is asks granted.
          let asked : request_at start steps k ≡ Some request =
          ap (option_and_then (request_of_step (moment start steps k))) (same_step happenings n taken is)
          ∙ ap (λ (s : State). request_of_step s taken) (sym now) ∙ asks in
          let way : (led (moment start steps k).machine request).way ≡ (led (end_after start (take n happenings)).machine request).way =
          ap (λ (s : State). (led s.machine request).way) (sym now) in
          warranted start steps none k request asked (λ denied. granted (subst IsDenied way denied));
    }
