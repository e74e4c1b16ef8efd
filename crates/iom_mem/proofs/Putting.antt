-- What a write leaves, byte by byte.
use Rattle.std.proofs.Common.{◌≡◌, ◌+◌, ◌-◌, ◌<◌, ◌≤◌, ℕ, List, ◌++◌, length, get_or, take, drop, replicate, refl, subst, ◌%◌, ◌^◌, Some, sym, ◌∙◌, ap, inl, inr, arith}
use Rattle.std.proofs.Math.Seq.{paste}
use Rattle.std.proofs.lemmas.List.Edits.{length-paste, paste_all}
use Rattle.std.proofs.lemmas.List.{length-replicate}
use Rattle.std.proofs.lemmas.Bool.{cases_lt}
use Rattle.iom_mem.specs.Memory.{Memory, byte, put, ReplacesBytes}
use Rattle.iom_mem.specs.Sizes.{IsLegal, zeroed}
use Rattle.iom_mem.proofs.Bytes.{slice_get_inside, byte_below, byte_inside, byte_past}
use Rattle.iom_mem.proofs.Pasting.{paste_below, paste_inside, paste_above}

pub pasted_replaces : (old new : Memory) (addr at : ℕ) (bytes : List ℕ) → old.base + at ≡ addr → at + length bytes ≤ length old.bytes →
    new.base ≡ old.base → new.bytes ≡ paste old.bytes at bytes (length bytes) → ReplacesBytes old addr bytes new
pasted_replaces old new addr at bytes e room base pasted =
    let n : ℕ = length bytes in
    let size : length new.bytes ≡ length old.bytes = ap length pasted ∙ length-paste old.bytes at bytes n room (omega arith) in
    let kept : (a k : ℕ) → old.base + k ≡ a → k < length old.bytes → get_or new.bytes k 0 ≡ get_or old.bytes k 0 → byte new a ≡ byte old a =
    λ a k place inside same. byte_inside new a k (omega (arith, base)) (omega (arith, size)) ∙ ap (λ b. Some b) same ∙ sym (byte_inside old a k place inside) in
    record {
      base = base;
      size = size;
      inside = λ i h.
          let back : at + i - at ≡ i = omega arith in
          byte_inside new (addr + i) (at + i) (omega (arith, base)) (omega (arith, size))
          ∙ ap (λ b. Some b) (ap (λ d. get_or d (at + i) 0) pasted ∙ paste_inside old.bytes at bytes n (at + i) room (omega arith) (omega arith) (omega arith)
          ∙ ap (λ k. get_or bytes k 0) back)
          ∙ sym (slice_get_inside bytes i h);
      below = λ a h. elim (cases_lt a old.base) as (λ _. byte new a ≡ byte old a) [
        | inl under ↦ byte_below new a (omega (arith, base)) ∙ sym (byte_below old a under)
        | inr from ↦ kept a (a - old.base) (omega arith) (omega arith)
            (ap (λ d. get_or d (a - old.base) 0) pasted ∙ paste_below old.bytes at bytes n (a - old.base) room (omega arith) (omega arith))
      ];
      above = λ a h. elim (cases_lt a (old.base + length old.bytes)) as (λ _. byte new a ≡ byte old a) [
        | inl within ↦ kept a (a - old.base) (omega arith) (omega arith)
            (ap (λ d. get_or d (a - old.base) 0) pasted ∙ paste_above old.bytes at bytes n (a - old.base) room (omega arith) (omega arith))
        | inr past ↦ byte_past new a (omega (arith, base, size)) ∙ sym (byte_past old a past)
      ];
    }

pub put_replaces : (memory : Memory) (addr at : ℕ) (bytes : List ℕ) → memory.base + at ≡ addr → at + length bytes ≤ length memory.bytes →
    ReplacesBytes memory addr bytes (put memory addr bytes)
put_replaces memory addr at bytes e room =
    let place : addr - memory.base ≡ at = omega arith in
    pasted_replaces memory (put memory addr bytes) addr at bytes e room refl
    (ap (λ p. take p memory.bytes ++ (bytes ++ drop (p + length bytes) memory.bytes)) place ∙ sym (paste_all memory.bytes at bytes (length bytes) refl))

pub zeroed_legal : (base size : ℕ) → base % 4096 ≡ 0 → 0 < size → size % 4096 ≡ 0 → size ≤ 2 ^ 26 → base + size ≤ 2 ^ 56 → IsLegal (zeroed base size)
zeroed_legal base size base_paged some size_paged size_bound end_bound =
    let own : length (replicate {A = ℕ} size 0) ≡ size = length-replicate size 0 in
    record {
      base_paged = base_paged;
      some = subst (λ n. 0 < n) (sym own) some;
      size_paged = subst (λ n. n % 4096 ≡ 0) (sym own) size_paged;
      size_bound = subst (λ n. n ≤ 2 ^ 26) (sym own) size_bound;
      end_bound = subst (λ n. base + n ≤ 2 ^ 56) (sym own) end_bound;
    }
