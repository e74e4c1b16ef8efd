-- Where a search for a byte ends.
use Rattle.std.proofs.Common.{◌≡◌, ◌==◌, ℕ, List, Bool, true, false, Option, Some, None, cond, length, get_or, nat_lt, ◌∙◌, sym, ap, refl, arith}
use Rattle.std.specs.List.{position, position_or_len}
use Rattle.std.proofs.lemmas.List.Sums.{position_or_len_is}
use Rattle.memchr.specs.Find.{IsFirstByte, is_byte}

fails : (test : Bool) → ¬ (test ≡ true) → test ≡ false
fails true never = absurd (never refl)
fails false never = refl

pub first_is : (byte : ℕ) (text : List ℕ) (found : Option ℕ) → IsFirstByte (is_byte byte) text found → found ≡ position (λ c. c == byte) text
first_is byte text None nowhere =
    let all : position_or_len (λ c. c == byte) text ≡ length text =
    position_or_len_is (λ c. c == byte) text (length text) 0 (omega arith)
    (λ k below. fails (get_or text k 0 == byte) (nowhere k (omega arith) below)) (λ below. absurd (omega (arith, below))) in
    let past : nat_lt (position_or_len (λ c. c == byte) text) (length text) ≡ false = grind arith in
    sym (ap (λ b. cond b (Some (position_or_len (λ c. c == byte) text)) None) past)
first_is byte text (Some at) is =
    let first : position_or_len (λ c. c == byte) text ≡ at =
    position_or_len_is (λ c. c == byte) text at 0 (omega (arith, is.0.high))
    (λ k below. fails (get_or text k 0 == byte) (is.0.before k (omega arith) below)) (λ below. is.1) in
    let inside : nat_lt (position_or_len (λ c. c == byte) text) (length text) ≡ true = grind (arith, is.0.high) in
    sym (ap (λ b. cond b (Some (position_or_len (λ c. c == byte) text)) None) inside ∙ ap Some first)
