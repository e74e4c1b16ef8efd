-- The blanks at the end of a text.
use Rattle.std.proofs.Common.{◌≡◌, ◌++◌, ◌&&◌, ◌∙◌, ◌-◌, ◌<◌, ◌≤◌, ℕ, zero, suc, List, [], ◌∷◌, Bool, true, false, length, take, get_or, refl, ap, sym, arith}
use Rattle.std.proofs.Math.Seq.{take-suc}
use Rattle.std.specs.List.{list_all}
use Rattle.std.proofs.Math.Bool.{and-true}
use Rattle.iom_text.specs.Words.{is_blank}
use Rattle.iom_debug.specs.Comments.{before_blanks}

and_false : (b : Bool) → (b && false) ≡ false
and_false true = refl
and_false false = refl

regrouped : (b all last rest : Bool) → rest ≡ (all && last) → (b && rest) ≡ ((b && all) && last)
regrouped true all last rest is = is
regrouped false all last rest is = refl

all_before : (text : List ℕ) (c : ℕ) → list_all is_blank (text ++ c ∷ []) ≡ (list_all is_blank text && is_blank c)
all_before [] c = and-true (is_blank c)
all_before (d ∷ text) c = regrouped (is_blank d) (list_all is_blank text) (is_blank c) _ (all_before text c)

-- a last blank is left out
pub blank_last : (text : List ℕ) (c : ℕ) → is_blank c ≡ true → before_blanks (text ++ c ∷ []) ≡ before_blanks text
blank_last [] c blank = rw blank refl
blank_last (d ∷ text) c blank =
    let all : list_all is_blank (text ++ c ∷ []) ≡ list_all is_blank text =
    all_before text c ∙ rw blank (and-true (list_all is_blank text)) in
    rw (all, blank_last text c blank) refl

-- a text that ends otherwise stays whole
pub other_last : (text : List ℕ) (c : ℕ) → is_blank c ≡ false → before_blanks (text ++ c ∷ []) ≡ text ++ c ∷ []
other_last [] c other = rw other refl
other_last (d ∷ text) c other =
    let all : (is_blank d && list_all is_blank (text ++ c ∷ [])) ≡ false =
    ap (λ b. is_blank d && b) (all_before text c ∙ rw other (and_false (list_all is_blank text))) ∙ and_false (is_blank d) in
    rw (all, other_last text c other) refl

pub one_less : (text : List ℕ) (n : ℕ) → 0 < n → n ≤ length text → is_blank (get_or text (n - 1) 0) ≡ true →
    before_blanks (take (n - 1) text) ≡ before_blanks (take n text)
one_less text zero some within blank = absurd (omega (arith, some))
one_less text (suc n) some within blank =
    let less : suc n - 1 ≡ n = omega arith in
    let last : take (suc n) text ≡ take n text ++ get_or text n 0 ∷ [] = take-suc text n 0 (omega arith) in
    rw (less, last) (sym (blank_last (take n text) (get_or text n 0) (rw less at blank)))

pub cut_at : (text : List ℕ) (n : ℕ) → 0 < n → n ≤ length text → is_blank (get_or text (n - 1) 0) ≡ false →
    before_blanks (take n text) ≡ take n text
cut_at text zero some within other = absurd (omega (arith, some))
cut_at text (suc n) some within other =
    let less : suc n - 1 ≡ n = omega arith in
    let last : take (suc n) text ≡ take n text ++ get_or text n 0 ∷ [] = take-suc text n 0 (omega arith) in
    rw last (other_last (take n text) (get_or text n 0) (rw less at other))
