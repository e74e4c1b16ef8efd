-- The front of a word.
use Rattle.std.proofs.Common.{◌≡◌, ◌≤◌, min, inl, inr, arith, ℕ, List, length, take, sym, ◌∙◌, ap}
use Rattle.std.proofs.lemmas.Bool.{cases_lt}
use Rattle.std.proofs.lemmas.List.{take_all, length-take}

pub cut_to : (most count : ℕ) (word : List ℕ) → count ≡ min (length word) most → take count word ≡ take most word
cut_to most count word is =
    elim (cases_lt most (length word)) as (λ _. take count word ≡ take most word) [
      | inl less ↦
          let exact : count ≡ most = omega arith in
          ap (λ n. take n word) exact
      | inr short ↦ take_all count word (omega arith) ∙ sym (take_all most word short)
    ]

pub cut_short : (most count : ℕ) (word : List ℕ) → count ≡ min (length word) most → length (take count word) ≤ most
cut_short most count word is = omega (arith, length-take count word)
