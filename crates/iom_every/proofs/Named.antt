-- Whether some byte of a range is in pages.
use Rattle.std.proofs.Common.{◌≡◌, ◌∙◌, ◌+◌, ◌-◌, ◌*◌, ◌/◌, ◌%◌, ◌^◌, ◌<◌, ◌≤◌, ◌==◌, ◌&&◌, ◌||◌, ℕ, zero, suc, Bool, true, false, List, [], ◌∷◌, Some, Ok, Err, nat_le, refl, sym, ap, inl, inr, arith}
use Rattle.std.specs.List.{list_any, range_with_len}
use Rattle.std.proofs.Math.Nat.{mul-div_cancel}
use Rattle.std.proofs.lemmas.Bool.{and_from, and_parts, cases_lt, eq-eqb, eqb-true, le-leb, leb-true, or_cases}
use Rattle.std.proofs.lemmas.Nat.{div-add-mod', le-div, mul-le, pow_pos}
use Rattle.iom_bits.specs.declared.causes.Cause.{Cause}
use Rattle.iom_ddt.specs.declared.context.Context.{Context}
use Rattle.iom_ddt.specs.declared.context.MsiTable.{MsiTable}
use Rattle.iom_walk.specs.Verdict.{is_napot, ppn}
use Rattle.iom_every.specs.Drops.{is_leaf}
use Rattle.iom_every.specs.Entries.{Held, OfDevice, OfFirst}
use Rattle.iom_every.specs.Frames.{is_frame, is_of_table, is_reached, is_root, names_memory, ones}

-- a byte of a range that passes a test
record IsHit (test : ℕ → Bool) (addr len : ℕ) : Type 0 where
  byte : ℕ
  above : addr ≤ byte
  below : byte < addr + len
  passes : test byte ≡ true

hit : (test : ℕ → Bool) (addr len : ℕ) → list_any test (range_with_len addr len) ≡ true → IsHit test addr len
hit test addr zero is = absurd (cc)
hit test addr (suc len) is = elim (or_cases (test addr) (list_any test (range_with_len (addr + 1) len)) is) [
  | inl here ↦ record { byte = addr; above = omega arith; below = omega arith; passes = here }
  | inr later ↦
      let h : IsHit test (addr + 1) len = hit test (addr + 1) len later in record {
        byte = h.byte;
        above = omega (arith, h.above);
        below = omega (arith, h.below);
        passes = h.passes;
      }
]

or_left : (x y : Bool) → x ≡ true → (x || y) ≡ true
or_left x y is = rw (is) refl

or_right : (x y : Bool) → y ≡ true → (x || y) ≡ true
or_right true y is = refl
or_right false y is = is

among : (test : ℕ → Bool) (addr len byte : ℕ) → addr ≤ byte → byte < addr + len → test byte ≡ true → list_any test (range_with_len addr len) ≡ true
among test addr zero byte above below passes = absurd (omega (arith, above, below))
among test addr (suc len) byte above below passes = elim (cases_lt addr byte) [
  | inl less ↦ or_right (test addr) _ (among test (addr + 1) len byte (omega (arith, less)) (omega (arith, below)) passes)
  | inr late ↦ or_left (test addr) _ (ap test (omega (arith, above, late)) ∙ passes)
]

same_bool : (a b : Bool) → (a ≡ true → b ≡ true) → (b ≡ true → a ≡ true) → a ≡ b
same_bool true true f g = refl
same_bool false false f g = refl
same_bool true false f g = sym (f refl)
same_bool false true f g = g refl

less_div : (m n k : ℕ) → m ≤ n / k → m * k ≤ n
less_div m n k le =
    let first : m * k ≤ n / k * k = mul-le m k (n / k) k le (omega arith) in omega (arith, first, div-add-mod' n k)

div_mono : (m n k : ℕ) → 0 < k → m ≤ n → m / k ≤ n / k
div_mono m n k some le =
    let first : m / k * k ≤ n = omega (arith, div-add-mod' m k) in le-div (m / k) n k some first

-- A byte of the range is in the pages above which the number is this, exactly if that lies between those of the first and the last byte.
module _ (addr len number width : ℕ) where
  d : ℕ
  d = 2 ^ width

  abbrev test : ℕ → Bool
  test byte = byte / 4096 / 2 ^ width == number

  between : 0 < len → (nat_le (addr / 4096 / 2 ^ width) number && nat_le number ((addr + (len - 1)) / 4096 / 2 ^ width)) ≡ true →
      list_any test (range_with_len addr len) ≡ true
  between some is =
      let ends : (nat_le (addr / 4096 / 2 ^ width) number ≡ true) × (nat_le number ((addr + (len - 1)) / 4096 / 2 ^ width) ≡ true) = and_parts _ _ is in
      let low : addr / 4096 / 2 ^ width ≤ number = leb-true _ _ ends.0 in
      let high : number ≤ (addr + (len - 1)) / 4096 / 2 ^ width = leb-true _ _ ends.1 in
      let begins : number * 2 ^ width * 4096 ≤ addr + (len - 1) = less_div (number * 2 ^ width) (addr + (len - 1)) 4096 (less_div number ((addr + (len - 1)) / 4096) (2 ^ width) high) in
      elim (cases_lt addr (number * 2 ^ width * 4096)) [
        | inl less ↦ among test addr len (number * 2 ^ width * 4096) (omega (arith, less)) (omega (arith, begins, some))
            (eq-eqb _ _ (ap (λ (n : ℕ). n / 2 ^ width) (mul-div_cancel (number * 2 ^ width) (omega arith)) ∙ mul-div_cancel number (pow_pos width)))
        | inr late ↦
            let back : number ≤ addr / 4096 / 2 ^ width = le-div number (addr / 4096) (2 ^ width) (pow_pos width) (le-div (number * 2 ^ width) addr 4096 (omega arith) late) in
            among test addr len addr (omega arith) (omega (arith, some)) (let same : addr / 4096 / 2 ^ width ≡ number = omega (arith, low, back) in eq-eqb _ _ same)
      ]

  inside : list_any test (range_with_len addr len) ≡ true →
      (nat_le (addr / 4096 / 2 ^ width) number && nat_le number ((addr + (len - 1)) / 4096 / 2 ^ width)) ≡ true
  inside is =
      let h : IsHit test addr len = hit test addr len is in
      let at : h.byte / 4096 / 2 ^ width ≡ number = eqb-true _ _ h.passes in
      let low : addr / 4096 / 2 ^ width ≤ h.byte / 4096 / 2 ^ width = div_mono (addr / 4096) (h.byte / 4096) (2 ^ width) (pow_pos width) (div_mono addr h.byte 4096 (omega arith) h.above) in
      let high : h.byte / 4096 / 2 ^ width ≤ (addr + (len - 1)) / 4096 / 2 ^ width =
      div_mono (h.byte / 4096) ((addr + (len - 1)) / 4096) (2 ^ width) (pow_pos width) (div_mono h.byte (addr + (len - 1)) 4096 (omega arith) (omega (arith, h.below))) in
      let first : addr / 4096 / 2 ^ width ≤ number = omega (arith, low, at) in
      let last : number ≤ (addr + (len - 1)) / 4096 / 2 ^ width = omega (arith, high, at) in
      and_from _ _ (le-leb _ _ first) (le-leb _ _ last)

  pub met : 0 < len → (nat_le (addr / 4096 / 2 ^ width) number && nat_le number ((addr + (len - 1)) / 4096 / 2 ^ width)) ≡ list_any test (range_with_len addr len)
  met some = same_bool _ _ (between some) inside

exchanged : (a b c d : Bool) → ((a || b) || (c || d)) ≡ ((a || c) || (b || d))
exchanged true b c d = refl
exchanged false true true d = refl
exchanged false true false d = refl
exchanged false false c d = refl

-- no byte passes where none can
pub none_named : (bytes : List ℕ) → list_any (λ byte. false) bytes ≡ false
none_named [] = refl
none_named (byte ∷ bytes) = none_named bytes

alike : (bytes : List ℕ) (test other : ℕ → Bool) → ((byte : ℕ) → test byte ≡ other byte) → list_any test bytes ≡ list_any other bytes
alike bytes test other same = ap (λ (t : ℕ → Bool). list_any t bytes) (λ i byte. same byte i)

pub met_page : (bytes : List ℕ) (page : ℕ) → list_any (λ byte. byte / 4096 / 2 ^ 0 == page) bytes ≡ list_any (λ byte. byte / 4096 == page) bytes
met_page bytes page = alike bytes _ _ (λ byte. ap (λ n. n == page) (omega arith))

pub one_frame : (bytes : List ℕ) (held : Held) → is_napot held.word ≡ true →
    list_any (λ byte. byte / 4096 == ppn held.word - ppn held.word % 16 + held.part % 16) bytes ≡ list_any (λ byte. is_frame held (byte / 4096)) bytes
one_frame bytes held is = rw (is) (alike bytes _ _ (λ byte. ap (λ n. byte / 4096 == ppn held.word - ppn held.word % 16 + n % 16) (omega arith)))

pub all_frames : (bytes : List ℕ) (held : Held) → is_napot held.word ≡ false →
    list_any (λ byte. byte / 4096 / 2 ^ (9 * held.level) == ppn held.word / 2 ^ (9 * held.level)) bytes ≡ list_any (λ byte. is_frame held (byte / 4096)) bytes
all_frames bytes held off = rw (off) refl

pub leaf_reached : (bytes : List ℕ) (held : Held) → is_leaf held ≡ true →
    list_any (λ byte. is_frame held (byte / 4096)) bytes ≡ list_any (λ byte. is_reached held (byte / 4096)) bytes
leaf_reached bytes held is = rw (is) refl

pub table_reached : (bytes : List ℕ) (held : Held) → is_leaf held ≡ false →
    list_any (λ byte. byte / 4096 == ppn held.word) bytes ≡ list_any (λ byte. is_reached held (byte / 4096)) bytes
table_reached bytes held off = rw (off) refl

pub no_root : (bytes : List ℕ) (context : Context) → context.gmode ≡ 0 → context.mode ≡ 0 → false ≡ list_any (λ byte. is_root context (byte / 4096)) bytes
no_root bytes context second first =
    let no_second : (context.gmode == 0) ≡ true = eq-eqb context.gmode 0 second in
    let no_first : (context.mode == 0) ≡ true = eq-eqb context.mode 0 first in rw (no_second, no_first) (sym (none_named bytes))

pub no_table : (bytes : List ℕ) (msi : MsiTable) → msi.flat ≡ false → false ≡ list_any (λ byte. is_of_table msi (byte / 4096)) bytes
no_table bytes msi off = rw (off) (sym (none_named bytes))

pub of_table : (bytes : List ℕ) (msi : MsiTable) → msi.flat ≡ true →
    list_any (λ byte. byte / 4096 / 2 ^ (ones 52 msi.mask - 8) == msi.ppn / 2 ^ (ones 52 msi.mask - 8)) bytes ≡ list_any (λ byte. is_of_table msi (byte / 4096)) bytes
of_table bytes msi is = rw (is) refl

-- a byte passes one of two tests
pub either_named : (test other : ℕ → Bool) (bytes : List ℕ) → list_any (λ byte. test byte || other byte) bytes ≡ (list_any test bytes || list_any other bytes)
either_named test other [] = refl
either_named test other (byte ∷ bytes) = rw (either_named test other bytes) (exchanged (test byte) (other byte) (list_any test bytes) (list_any other bytes))

pub said_names : (addr len did : ℕ) (context : Context) →
    names_memory addr len (OfDevice did (Ok context))
    ≡ (list_any (λ byte. is_root context (byte / 4096)) (range_with_len addr len) || list_any (λ byte. is_of_table context.msi (byte / 4096)) (range_with_len addr len))
unfolding names_memory
said_names addr len did context = either_named (λ byte. is_root context (byte / 4096)) (λ byte. is_of_table context.msi (byte / 4096)) (range_with_len addr len)

pub fault_names : (addr len did : ℕ) (why : Cause) → false ≡ names_memory addr len (OfDevice did (Err why))
unfolding names_memory
fault_names addr len did why = sym (none_named (range_with_len addr len))

pub guest_names : (addr len gscid pscid : ℕ) (held : Held) → false ≡ names_memory addr len (OfFirst (Some gscid) pscid held)
unfolding names_memory
guest_names addr len gscid pscid held = sym (none_named (range_with_len addr len))
