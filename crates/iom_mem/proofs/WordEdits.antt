-- One word replaced, and what becomes of the bytes.
use Rattle.std.proofs.Common.{◌≡◌, ◌+◌, ◌-◌, ◌*◌, ◌/◌, ◌%◌, ◌<◌, ◌≤◌, ◌⊎◌, ◌≢◌, ℕ, List, length, get_or, set, sym, ◌∙◌, ap, inl, inr, arith, length-set, get_or-set_same, get_or-set_other}
use Rattle.std.proofs.Math.Seq.{paste}
use Rattle.std.proofs.lemmas.List.{ext_get_or}
use Rattle.std.proofs.lemmas.List.Edits.{length-paste}
use Rattle.std.proofs.lemmas.Bool.{cases_lt, cases_eq}
use Rattle.iom_mem.specs.Words.{bytes_of_words}
use Rattle.iom_mem.proofs.Digits.{digit}
use Rattle.iom_mem.proofs.WordBytes.{words_hold, byte_of_words}
use Rattle.iom_mem.proofs.Pasting.{paste_below, paste_inside, paste_above}

-- `new` has `bytes` from byte `low` on, and is `old` in its other bytes
pub record ReplacesDigits (old low : ℕ) (bytes : List ℕ) (new : ℕ) : Type 0 where
  pub below : (j : ℕ) → j < low → digit new j ≡ digit old j
  pub inside : (j : ℕ) → j < length bytes → digit new (low + j) ≡ get_or bytes j 0
  pub above : (j : ℕ) → low + length bytes ≤ j → j < 8 → digit new j ≡ digit old j

byte_of_set_same : (words : List ℕ) (i word k : ℕ) → i < length words → k / 8 ≡ i → get_or (bytes_of_words (set words i word)) k 0 ≡ digit word (k % 8)
byte_of_set_same words i word k h e =
    byte_of_words (set words i word) k ∙ ap (λ p. digit (get_or (set words i word) p 0) (k % 8)) e
    ∙ ap (λ w. digit w (k % 8)) (get_or-set_same words i word 0 h)

byte_of_set_other : (words : List ℕ) (i word k : ℕ) → k / 8 ≢ i → get_or (bytes_of_words (set words i word)) k 0 ≡ get_or (bytes_of_words words) k 0
byte_of_set_other words i word k other =
    byte_of_words (set words i word) k ∙ ap (λ w. digit w (k % 8)) (get_or-set_other words i (k / 8) word 0 other) ∙ sym (byte_of_words words k)

byte_kept : (words : List ℕ) (at word : ℕ) (bytes : List ℕ) (k : ℕ) → at / 8 < length words → at % 8 + length bytes ≤ 8 →
    ReplacesDigits (get_or words (at / 8) 0) (at % 8) bytes word → (k < at) ⊎ (at + length bytes ≤ k) →
    get_or (bytes_of_words (set words (at / 8) word)) k 0 ≡ get_or (bytes_of_words words) k 0
byte_kept words at word bytes k within together new outside =
    elim (cases_eq (k / 8) (at / 8)) as (λ _. get_or (bytes_of_words (set words (at / 8) word)) k 0 ≡ get_or (bytes_of_words words) k 0) [
      | inl same ↦
          let old : digit (get_or words (at / 8) 0) (k % 8) ≡ get_or (bytes_of_words words) k 0 =
          ap (λ p. digit (get_or words p 0) (k % 8)) (sym same) ∙ sym (byte_of_words words k) in
          byte_of_set_same words (at / 8) word k within same ∙ elim outside as (λ _. digit word (k % 8) ≡ get_or (bytes_of_words words) k 0) [
            | inl before ↦ new.below (k % 8) (omega arith) ∙ old
            | inr after ↦ new.above (k % 8) (omega arith) (omega arith) ∙ old
          ]
      | inr other ↦ byte_of_set_other words (at / 8) word k other
    ]

pub word_set : (words : List ℕ) (at word : ℕ) (bytes : List ℕ) → at + length bytes ≤ 8 * length words → at / 8 < length words → at % 8 + length bytes ≤ 8 →
    ReplacesDigits (get_or words (at / 8) 0) (at % 8) bytes word →
    bytes_of_words (set words (at / 8) word) ≡ paste (bytes_of_words words) at bytes (length bytes)
word_set words at word bytes inside within together new =
    let d : List ℕ = bytes_of_words words in
    let n : ℕ = length bytes in
    let size : length d ≡ 8 * length words = words_hold words in
    let kept : length (bytes_of_words (set words (at / 8) word)) ≡ 8 * length words = words_hold (set words (at / 8) word) ∙ ap (λ k. 8 * k) (length-set words (at / 8) word) in
    let room : at + n ≤ length d = omega (arith, size) in
    let pasted : length (paste d at bytes n) ≡ length d = length-paste d at bytes n room (omega arith) in
    ext_get_or 0 (bytes_of_words (set words (at / 8) word)) (paste d at bytes n) (kept ∙ sym size ∙ sym pasted) (λ k h.
    elim (cases_lt k at) as (λ _. get_or (bytes_of_words (set words (at / 8) word)) k 0 ≡ get_or (paste d at bytes n) k 0) [
      | inl before ↦ byte_kept words at word bytes k within together new (inl before) ∙ sym (paste_below d at bytes n k room (omega arith) before)
      | inr from ↦ elim (cases_lt k (at + n)) as (λ _. get_or (bytes_of_words (set words (at / 8) word)) k 0 ≡ get_or (paste d at bytes n) k 0) [
        | inl there ↦
            let place : k / 8 ≡ at / 8 = omega arith in
            let part : k % 8 ≡ at % 8 + (k - at) = omega arith in
            byte_of_set_same words (at / 8) word k within place ∙ ap (digit word) part ∙ new.inside (k - at) (omega arith)
            ∙ sym (paste_inside d at bytes n k room (omega arith) from there)
        | inr after ↦ byte_kept words at word bytes k within together new (inr after) ∙ sym (paste_above d at bytes n k room (omega arith) after)
      ]
    ])
