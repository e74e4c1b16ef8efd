-- Whether one of a list passes a test.
use Rattle.std.proofs.Common.{◌≡◌, ◌∙◌, ◌++◌, ◌||◌, ◌+◌, ◌<◌, ◌≤◌, ℕ, Bool, true, false, List, [], ◌∷◌, drop, length, map, if◌then◌else◌, refl, sym, ap, inl, inr}
use Rattle.std.proofs.lemmas.List.{drop_all, drop_more}
use Rattle.std.specs.List.{list_any}
use Rattle.std.specs.Prelude.{filter, get_or}
use Rattle.iom_choices.specs.Systems.{IsAmong}
use Rattle.iom_choices.specs.Traces.{is_any}
use Rattle.iom_ways.specs.Ways.{AreAdded}

or_assoc : (a b c : Bool) → ((a || b) || c) ≡ (a || (b || c))
or_assoc true b c = refl
or_assoc false b c = refl

pub or_false : (b : Bool) → (b || false) ≡ b
or_false true = refl
or_false false = refl

pub any_next : {X : Type 0} (f : X → Bool) (all : List X) (i : ℕ) (x : X) (before mid whole : Bool) → i < length all → x ≡ get_or all i x → mid ≡ (before || f x) →
    (before || list_any f (drop i all)) ≡ whole → (mid || list_any f (drop (i + 1) all)) ≡ whole
any_next {X} f all i x before mid whole inside is made invariant =
    let rest : List X = drop (i + 1) all in
    let this : drop i all ≡ x ∷ rest = drop_more all i x inside ∙ ap (λ (y : X). y ∷ rest) (sym is) in
    ap (λ (b : Bool). b || list_any f rest) made ∙ or_assoc before (f x) (list_any f rest) ∙ ap (λ (xs : List X). before || list_any f xs) (sym this) ∙ invariant

pub any_end : {X : Type 0} (f : X → Bool) (all : List X) (i : ℕ) (before whole : Bool) → length all ≤ i → (before || list_any f (drop i all)) ≡ whole → before ≡ whole
any_end {X} f all i before whole end invariant = sym (or_false before) ∙ ap (λ (xs : List X). before || list_any f xs) (sym (drop_all i all end)) ∙ invariant

pub any_push : {X : Type 0} (f : X → Bool) (xs : List X) (x : X) → list_any f (xs ++ x ∷ []) ≡ (list_any f xs || f x)
any_push f [] x = or_false (f x)
any_push f (y ∷ xs) x = ap (λ (b : Bool). f y || b) (any_push f xs x) ∙ sym (or_assoc (f y) (list_any f xs) (f x))

-- one that is there already adds nothing
pub absorbed : (a b : Bool) → (b ≡ true → a ≡ true) → a ≡ (a || b)
absorbed true b h = refl
absorbed false true h = h refl
absorbed false false h = refl

pub any_among : {X : Type 0} (f : X → Bool) (xs : List X) (x : X) → IsAmong xs x → f x ≡ true → list_any f xs ≡ true
any_among f [] x h is = absurd h
any_among {X} f (y ∷ xs) x (inl same) is = rw (ap f same ∙ is) refl
any_among f (y ∷ xs) x (inr h) is =
    let Goal : Bool → Type 0 = λ b. (b || list_any f xs) ≡ true in
    let by_first : (b : Bool) → Goal b = λ b. elim b as Goal [ true ↦ refl | false ↦ any_among f xs x h is ] in by_first (f y)

pub any_alike : {X : Type 0} (f g : X → Bool) (xs : List X) → ((x : X) → IsAmong xs x → f x ≡ g x) → list_any f xs ≡ list_any g xs
any_alike f g [] each = refl
any_alike f g (x ∷ xs) each = λ n. each x (inl refl) n || any_alike f g xs (λ y h. each y (inr h)) n

pub any_filtered : {X : Type 0} (f : X → Bool) (xs : List X) → is_any (filter f xs) ≡ list_any f xs
any_filtered f [] = refl
any_filtered {X} f (x ∷ xs) =
    let Goal : Bool → Type 0 = λ b. is_any (if b then x ∷ filter f xs else filter f xs) ≡ (b || list_any f xs) in
    let by_test : (b : Bool) → Goal b = λ b. elim b as Goal [ true ↦ refl | false ↦ any_filtered f xs ] in by_test (f x)

pub any_mapped : {X Y : Type 0} (f : X → Y) (xs : List X) → is_any (map f xs) ≡ is_any xs
any_mapped f [] = refl
any_mapped f (x ∷ xs) = refl

pub any_append : {X : Type 0} (xs ys : List X) → is_any (xs ++ ys) ≡ (is_any xs || is_any ys)
any_append [] ys = refl
any_append (x ∷ xs) ys = refl

-- the same list in another order, or with some twice
pub any_same : {X : Type 0} (f : X → Bool) (xs ys : List X) → ((x : X) → IsAmong xs x → IsAmong ys x) → list_any f xs ≡ true → list_any f ys ≡ true
any_same f [] ys sub is = absurd (cc)
any_same {X} f (x ∷ xs) ys sub is =
    let Goal : Bool → Type 0 = λ b. f x ≡ b → (b || list_any f xs) ≡ true → list_any f ys ≡ true in
    let by_first : (b : Bool) → Goal b = λ b. elim b as Goal [
      | true ↦ λ here is. any_among f ys x (sub x (inl refl)) here
      | false ↦ λ here is. any_same f xs ys (λ y h. sub y (inr h)) is
    ] in by_first (f x) refl is

pub same_truth : (a b : Bool) → (a ≡ true → b ≡ true) → (b ≡ true → a ≡ true) → a ≡ b
same_truth true b h k = sym (h refl)
same_truth false true h k = k refl
same_truth false false h k = refl

pub added_any : {X : Type 0} (f : X → Bool) (news after : List X) → AreAdded news [] after → list_any f after ≡ list_any f news
added_any {X} f news after added =
    same_truth (list_any f after) (list_any f news)
    (any_same f after news (λ x h. elim ((added x).0 h) [ inl none ↦ absurd none | inr new ↦ new ]))
    (any_same f news after (λ x h. (added x).1 (inr h)))
