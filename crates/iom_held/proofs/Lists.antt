-- Lists of things that are of something, of which none is there twice.
use Rattle.std.proofs.Common.{◌≡◌, ◌∙◌, ◌++◌, List, [], ◌∷◌, map, refl, sym, ap, subst, inl, inr}
use Rattle.iom_choices.specs.Systems.{IsAmong}
use Rattle.iom_choices.proofs.Lists.{among_either}
use Rattle.iom_held.specs.Kept.{HasNoneTwice}

pub among_of : {N X : Type 0} (of : N → X) (xs : List N) (n : N) → IsAmong xs n → IsAmong (map of xs) (of n)
among_of of [] n h = absurd h
among_of of (m ∷ xs) n (inl same) = inl (ap of same)
among_of of (m ∷ xs) n (inr h) = inr (among_of of xs n h)

-- the thing that is of x
pub record IsFrom {N X : Type 0} (of : N → X) (xs : List N) (x : X) : Type 0 where
  pub thing : N
  pub among : IsAmong xs thing
  pub is : of thing ≡ x

pub from_among : {N X : Type 0} (of : N → X) (xs : List N) (x : X) → IsAmong (map of xs) x → IsFrom of xs x
from_among of [] x h = absurd h
from_among of (n ∷ xs) x (inl same) = record { thing = n; among = inl refl; is = same }
from_among {N} {X} of (n ∷ xs) x (inr h) =
    let k : IsFrom of xs x = from_among of xs x h in record { thing = k.thing; among = inr k.among; is = k.is }

-- two things of the same are one
pub one_of : {N X : Type 0} (of : N → X) (xs : List N) (m n : N) → HasNoneTwice (map of xs) → IsAmong xs m → IsAmong xs n → of m ≡ of n → m ≡ n
one_of of [] m n once h k is = absurd h
one_of of (x ∷ xs) m n once (inl a) (inl b) is = sym a ∙ b
one_of {N} {X} of (x ∷ xs) m n once (inl a) (inr k) is =
    absurd (once.0 (subst (IsAmong (map of xs)) (sym is ∙ sym (ap of a)) (among_of of xs n k)))
one_of {N} {X} of (x ∷ xs) m n once (inr h) (inl b) is =
    absurd (once.0 (subst (IsAmong (map of xs)) (is ∙ sym (ap of b)) (among_of of xs m h)))
one_of of (x ∷ xs) m n once (inr h) (inr k) is = one_of of xs m n once.1 h k is

-- one more at the end, that wasn't there
pub once_more : {X : Type 0} (xs : List X) (x : X) → HasNoneTwice xs → (IsAmong xs x → ⊥) → HasNoneTwice (xs ++ x ∷ [])
once_more [] x once new = (λ h. h, tt)
once_more (y ∷ xs) x once new = (
  λ h. elim (among_either xs (x ∷ []) y h) [
    | inl old ↦ once.0 old
    | inr last ↦ elim last [
      | inl same ↦ new (inl (sym same))
      | inr none ↦ none
    ]
  ],
  once_more xs x once.1 (λ h. new (inr h)),
)

-- things that are of the same
pub among_both : {N X : Type 0} (of : N → X) (xs ys : List N) → ((n : N) → IsAmong xs n → IsAmong ys n) → (x : X) → IsAmong (map of xs) x → IsAmong (map of ys) x
among_both {N} {X} of xs ys both x h =
    let f : IsFrom of xs x = from_among of xs x h in subst (IsAmong (map of ys)) f.is (among_of of ys f.thing (both f.thing f.among))
