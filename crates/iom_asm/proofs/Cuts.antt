-- The first line of a text.
use Rattle.std.proofs.Common.{◌≡◌, ◌≢◌, ◌==◌, ℕ, suc, ◌+◌, ◌<◌, ◌≤◌, List, [], ◌∷◌, length, take, drop, Some, None, refl, inl, inr, arith}
use Rattle.std.specs.List.{position, position_or_len}
use Rattle.std.proofs.lemmas.Bool.{cases_lt, cases_Bool, lt-ltb, le-ltb}
use Rattle.iom_asm.specs.Assembly.{lines_of}

abbrev end_in : List ℕ → ℕ
end_in text = position_or_len (λ c. c == 10) text

-- a text that has a line end, at this place
first_line : (text : List ℕ) → end_in text < length text → lines_of text ≡ take (end_in text) text ∷ lines_of (drop (suc (end_in text)) text)
unfolding lines_of
first_line [] h = absurd (omega (arith, h))
first_line (c ∷ text) h =
    elim (cases_Bool (c == 10)) as (λ _. lines_of (c ∷ text) ≡ take (end_in (c ∷ text)) (c ∷ text) ∷ lines_of (drop (suc (end_in (c ∷ text))) (c ∷ text))) [
      | inl ends ↦ rw ends refl
      | inr goes ↦ let more : suc (1 + end_in text) ≤ suc (length text) = rw goes at h in
          let step : 1 + end_in text ≡ suc (end_in text) = omega arith in rw (goes, step, first_line text (omega (arith, more))) refl
    ]

-- a text that has none
only_line : (c : ℕ) (text : List ℕ) → length (c ∷ text) ≤ end_in (c ∷ text) → lines_of (c ∷ text) ≡ (c ∷ text) ∷ []
unfolding lines_of
only_line c [] h =
    elim (cases_Bool (c == 10)) as (λ _. lines_of (c ∷ []) ≡ (c ∷ []) ∷ []) [
      | inl ends ↦ absurd (let far : 1 ≤ 0 = rw ends at h in omega (arith, far))
      | inr goes ↦ rw goes refl
    ]
only_line c (d ∷ text) h =
    elim (cases_Bool (c == 10)) as (λ _. lines_of (c ∷ d ∷ text) ≡ (c ∷ d ∷ text) ∷ []) [
      | inl ends ↦ absurd (let far : length (c ∷ d ∷ text) ≤ 0 = rw ends at h in omega (arith, far))
      | inr goes ↦ let more : length (c ∷ d ∷ text) ≤ 1 + end_in (d ∷ text) = rw goes at h in rw (goes, only_line d text (omega (arith, more))) refl
    ]

suc_cut : (text : List ℕ) (at : ℕ) → position (λ c. c == 10) text ≡ Some at → lines_of text ≡ take at text ∷ lines_of (drop (suc at) text)
suc_cut text at is =
    elim (cases_lt (end_in text) (length text)) as (λ _. lines_of text ≡ take at text ∷ lines_of (drop (suc at) text)) [
      | inl lt ↦ let here : end_in text ≡ at = (let e : Some (end_in text) ≡ Some at = rw (lt-ltb _ _ lt) at is in cc) in rw (← here) (first_line text lt)
      | inr le ↦ absurd (let e : None ≡ Some at = rw (le-ltb _ _ le) at is in cc)
    ]

pub cut_at : (text : List ℕ) (at : ℕ) → position (λ c. c == 10) text ≡ Some at → lines_of text ≡ take at text ∷ lines_of (drop (at + 1) text)
cut_at text at is = let next : at + 1 ≡ suc at = omega arith in rw next (suc_cut text at is)

pub cut_none : (text : List ℕ) → text ≢ [] → position (λ c. c == 10) text ≡ None → lines_of text ≡ text ∷ []
cut_none [] some is = absurd (some refl)
cut_none (c ∷ text) some is =
    elim (cases_lt (end_in (c ∷ text)) (length (c ∷ text))) as (λ _. lines_of (c ∷ text) ≡ (c ∷ text) ∷ []) [
      | inl lt ↦ absurd (let e : Some (end_in (c ∷ text)) ≡ None = rw (lt-ltb _ _ lt) at is in cc)
      | inr le ↦ only_line c text le
    ]
