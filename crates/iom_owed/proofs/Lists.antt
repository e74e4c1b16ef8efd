-- Lists of things.
use Rattle.std.proofs.Common.{◌≡◌, ◌∙◌, ◌<◌, ◌≤◌, ◌+◌, ◌++◌, take, ap, refl, ℕ, zero, suc, List, [], ◌∷◌, get_or, length, ◌↔◌, arith, sym, inl, inr}
use Rattle.std.specs.Prelude.{flat_map}
use Rattle.std.proofs.lemmas.Grind.{flat_map-append}
use Rattle.std.proofs.lemmas.List.{append-nil, take_all, take_more}
use Rattle.iom_choices.specs.Systems.{IsAmong}
use Rattle.iom_ways.specs.Ways.{AreAdded}

-- an element that is read is among them
pub among_read : {X : Type 0} (xs : List X) (i : ℕ) (x d : X) → i < length xs → x ≡ get_or xs i d → IsAmong xs x
among_read [] i x d inside is = absurd (omega arith)
among_read (y ∷ xs) zero x d inside is = inl (sym is)
among_read (y ∷ xs) (suc i) x d inside is = inr (among_read xs i x d (omega arith) is)

-- what is added to nothing is all
pub added_to_none : {X : Type 0} (news after : List X) → AreAdded news [] after → (x : X) → IsAmong after x ↔ IsAmong news x
added_to_none news after added x = (
  λ h. elim ((added x).0 h) [
    | inl none ↦ absurd none
    | inr new ↦ new
  ],
  λ h. (added x).1 (inr h),
)

-- a list of one
pub one_alone : {X : Type 0} (xs : List X) → length xs ≡ 1 → (x y : X) → IsAmong xs x → IsAmong xs y → x ≡ y
one_alone [] is x y h k = absurd h
one_alone (z ∷ []) is x y (inl a) (inl b) = sym a ∙ b
one_alone (z ∷ []) is x y (inr a) k = absurd a
one_alone (z ∷ []) is x y (inl a) (inr b) = absurd b
one_alone (z ∷ w ∷ xs) is x y h k = absurd (omega arith)

-- what the first of some lists have
pub flat_take_more : {X Y : Type 0} (f : X → List Y) (xs : List X) (i : ℕ) (x : X) → i < length xs → x ≡ get_or xs i x →
    flat_map f (take i xs) ++ f x ≡ flat_map f (take (i + 1) xs)
flat_take_more {X} f xs i x inside is =
    sym (ap (flat_map f) (take_more xs i x inside) ∙ flat_map-append f (take i xs) (get_or xs i x ∷ [])
    ∙ ap (λ (y : X). flat_map f (take i xs) ++ (f y ++ [])) (sym is) ∙ simp append-nil)

pub flat_take_all : {X Y : Type 0} (f : X → List Y) (xs : List X) (i : ℕ) → length xs ≤ i → flat_map f (take i xs) ≡ flat_map f xs
flat_take_all f xs i past = ap (flat_map f) (take_all i xs past)

-- the one item of a list
pub one_item : {X : Type 0} (xs : List X) (d : X) → length xs ≡ 1 → xs ≡ get_or xs 0 d ∷ []
one_item [] d is = absurd (omega arith)
one_item (x ∷ []) d is = refl
one_item (x ∷ y ∷ xs) d is = absurd (omega arith)
