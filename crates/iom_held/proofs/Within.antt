-- A shelf among others, of which the list of all is made: what is among them, and one that is renewed.
use Rattle.std.proofs.Common.{◌≡◌, ◌⊎◌, ◌++◌, ℕ, zero, suc, List, [], ◌∷◌, map, Some, arith, refl, sym, subst, inl, inr}
use Rattle.std.specs.Prelude.{flat_map, slice_get, slice_set}
use Rattle.std.proofs.lemmas.List.{map-append}
use Rattle.iom_choices.specs.Systems.{IsAmong}
use Rattle.iom_choices.proofs.Lists.{among-left, among-right, among_either}
use Rattle.iom_held.specs.Kept.{HasNoneTwice, Renews}
use Rattle.iom_held.proofs.Lists.{among_of}
use Rattle.iom_held.proofs.Places.{some_is}

-- none twice in two lists together
once_left : {X : Type 0} (xs ys : List X) → HasNoneTwice (xs ++ ys) → HasNoneTwice xs
once_left [] ys once = tt
once_left (x ∷ xs) ys once = (λ h. once.0 (among-left xs ys x h), once_left xs ys once.1)

once_right : {X : Type 0} (xs ys : List X) → HasNoneTwice (xs ++ ys) → HasNoneTwice ys
once_right [] ys once = once
once_right (x ∷ xs) ys once = once_right xs ys once.1

once_apart : {X : Type 0} (xs ys : List X) → HasNoneTwice (xs ++ ys) → (x : X) → IsAmong xs x → IsAmong ys x → ⊥
once_apart [] ys once x h k = absurd h
once_apart {X} (y ∷ xs) ys once x (inl same) k = once.0 (among-right xs ys y (subst (λ (z : X). IsAmong ys z) (sym same) k))
once_apart (y ∷ xs) ys once x (inr h) k = once_apart xs ys once.1 x h k

once_both : {X : Type 0} (xs ys : List X) → HasNoneTwice xs → HasNoneTwice ys → ((x : X) → IsAmong xs x → IsAmong ys x → ⊥) → HasNoneTwice (xs ++ ys)
once_both [] ys a b apart = b
once_both (x ∷ xs) ys a b apart = (
  λ h. elim (among_either xs ys x h) [
    | inl here ↦ a.0 here
    | inr there ↦ apart x (inl refl) there
  ],
  once_both xs ys a.1 b (λ y h k. apart y (inr h) k),
)

module _ {N X : Type 0} (of : N → X) where
  either_of : (xs ys : List N) (x : X) → IsAmong (map of (xs ++ ys)) x → IsAmong (map of xs) x ⊎ IsAmong (map of ys) x
  either_of xs ys x h = among_either (map of xs) (map of ys) x (subst (λ (zs : List X). IsAmong zs x) (map-append of xs ys) h)

  left_of : (xs ys : List N) (x : X) → IsAmong (map of xs) x → IsAmong (map of (xs ++ ys)) x
  left_of xs ys x h = subst (λ (zs : List X). IsAmong zs x) (sym (map-append of xs ys)) (among-left (map of xs) (map of ys) x h)

  right_of : (xs ys : List N) (x : X) → IsAmong (map of ys) x → IsAmong (map of (xs ++ ys)) x
  right_of xs ys x h = subst (λ (zs : List X). IsAmong zs x) (sym (map-append of xs ys)) (among-right (map of xs) (map of ys) x h)

  split_once : (xs ys : List N) → HasNoneTwice (map of (xs ++ ys)) → HasNoneTwice (map of xs ++ map of ys)
  split_once xs ys once = subst HasNoneTwice (map-append of xs ys) once

  joined_once : (xs ys : List N) → HasNoneTwice (map of xs ++ map of ys) → HasNoneTwice (map of (xs ++ ys))
  joined_once xs ys once = subst HasNoneTwice (sym (map-append of xs ys)) once

  -- a thing among others isn't of the same as the new one, if none of them is
  not_same : (new n : N) (others : List N) → (IsAmong (map of others) (of new) → ⊥) → IsAmong others n → IsAmong (map of (new ∷ [])) (of n) → ⊥
  not_same new n others other h (inl same) = other (subst (IsAmong (map of others)) (sym same) (among_of of others n h))
  not_same new n others other h (inr none) = none

  only : (new : N) (x : X) → IsAmong (map of (new ∷ [])) x → of new ≡ x
  only new x (inl same) = same
  only new x (inr none) = absurd none

  renews_left : (new : N) (b c d : List N) → Renews of (new ∷ []) b c → (IsAmong (map of d) (of new) → ⊥) → Renews of (new ∷ []) (b ++ d) (c ++ d)
  renews_left new b c d p other = record {
    all = λ x h. elim (either_of c d x h) [
      | inl here ↦ elim (p.all x here) [
        | inl old ↦ inl (left_of b d x old)
        | inr k ↦ inr k
      ]
      | inr there ↦ inl (right_of b d x there)
    ];
    kept = λ x h. elim h [
      | inl old ↦ elim (either_of b d x old) [
        | inl here ↦ left_of c d x (p.kept x (inl here))
        | inr there ↦ right_of c d x there
      ]
      | inr k ↦ left_of c d x (p.kept x (inr k))
    ];
    each = λ once n h. elim (among_either c d n h) [
      | inl here ↦ elim (p.each (once_left (map of b) (map of d) (split_once b d once)) n here) [
        | inl k ↦ inl k
        | inr k ↦ inr (among-left b d n k.0, k.1)
      ]
      | inr there ↦ inr (among-right b d n there, λ k. not_same new n d other there k)
    ];
    once = λ once. joined_once c d (once_both (map of c) (map of d) (p.once (once_left (map of b) (map of d) (split_once b d once)))
        (once_right (map of b) (map of d) (split_once b d once))
        (λ x h k. elim (p.all x h) [
          | inl old ↦ once_apart (map of b) (map of d) (split_once b d once) x old k
          | inr a ↦ other (subst (IsAmong (map of d)) (sym (only new x a)) k)
        ]));
  }

  renews_right : (new : N) (a b c : List N) → Renews of (new ∷ []) b c → (IsAmong (map of a) (of new) → ⊥) → Renews of (new ∷ []) (a ++ b) (a ++ c)
  renews_right new a b c p other = record {
    all = λ x h. elim (either_of a c x h) [
      | inl there ↦ inl (left_of a b x there)
      | inr here ↦ elim (p.all x here) [
        | inl old ↦ inl (right_of a b x old)
        | inr k ↦ inr k
      ]
    ];
    kept = λ x h. elim h [
      | inl old ↦ elim (either_of a b x old) [
        | inl there ↦ left_of a c x there
        | inr here ↦ right_of a c x (p.kept x (inl here))
      ]
      | inr k ↦ right_of a c x (p.kept x (inr k))
    ];
    each = λ once n h. elim (among_either a c n h) [
      | inl there ↦ inr (among-left a b n there, λ k. not_same new n a other there k)
      | inr here ↦ elim (p.each (once_right (map of a) (map of b) (split_once a b once)) n here) [
        | inl k ↦ inl k
        | inr k ↦ inr (among-right a b n k.0, k.1)
      ]
    ];
    once = λ once. joined_once a c (once_both (map of a) (map of c) (once_left (map of a) (map of b) (split_once a b once))
        (p.once (once_right (map of a) (map of b) (split_once a b once)))
        (λ x h k. elim (p.all x k) [
          | inl old ↦ once_apart (map of a) (map of b) (split_once a b once) x h old
          | inr d ↦ other (subst (IsAmong (map of a)) (sym (only new x d)) h)
        ]));
  }

zero_not : (k : ℕ) → suc k ≡ 0 → ⊥
zero_not k is = omega (arith, is)

one_less : {k i : ℕ} → suc k ≡ suc i → k ≡ i
one_less is = omega (arith, is)

module _ {V N : Type 0} (items : V → List N) where
  pub among_shelf : (shelves : List V) (i : ℕ) (shelf : V) (n : N) → slice_get shelves i ≡ Some shelf → IsAmong (items shelf) n → IsAmong (flat_map items shelves) n
  among_shelf [] i shelf n is h = absurd (cc)
  among_shelf (own ∷ shelves) zero shelf n is h = among-left (items own) (flat_map items shelves) n (subst (λ (v : V). IsAmong (items v) n) (sym (some_is is)) h)
  among_shelf (own ∷ shelves) (suc i) shelf n is h = among-right (items own) (flat_map items shelves) n (among_shelf shelves i shelf n is h)

  -- the shelf of one of them
  pub record IsOn (shelves : List V) (n : N) : Type 0 where
    pub place : ℕ
    pub shelf : V
    pub is : slice_get shelves place ≡ Some shelf
    pub among : IsAmong (items shelf) n

  pub on_shelf : (shelves : List V) (n : N) → IsAmong (flat_map items shelves) n → IsOn shelves n
  on_shelf [] n h = absurd h
  on_shelf (own ∷ shelves) n h = elim (among_either (items own) (flat_map items shelves) n h) [
    | inl here ↦ record { place = 0; shelf = own; is = refl; among = here }
    | inr there ↦ let k : IsOn shelves n = on_shelf shelves n there in record { place = suc k.place; shelf = k.shelf; is = k.is; among = k.among }
  ]

  module _ {X : Type 0} (of : N → X) where
    not_below : (shelves : List V) (x : X) → ((k : ℕ) (other : V) → slice_get shelves k ≡ Some other → IsAmong (map of (items other)) x → ⊥) →
        IsAmong (map of (flat_map items shelves)) x → ⊥
    not_below [] x none h = h
    not_below (own ∷ shelves) x none h = elim (either_of of (items own) (flat_map items shelves) x h) [
      | inl here ↦ none 0 own refl here
      | inr there ↦ not_below shelves x (λ k other is h. none (suc k) other is h) there
    ]

    pub renews_shelf : (new : N) (shelves : List V) (i : ℕ) (shelf after : V) → slice_get shelves i ≡ Some shelf →
        ((k : ℕ) (other : V) → slice_get shelves k ≡ Some other → IsAmong (map of (items other)) (of new) → k ≡ i) →
        Renews of (new ∷ []) (items shelf) (items after) → Renews of (new ∷ []) (flat_map items shelves) (flat_map items (slice_set shelves i after))
    renews_shelf new [] i shelf after is alone p = absurd (cc)
    renews_shelf new (own ∷ shelves) zero shelf after is alone p =
        renews_left of new (items own) (items after) (flat_map items shelves)
        (subst (λ (v : V). Renews of (new ∷ []) (items v) (items after)) (sym (some_is is)) p)
        (not_below shelves (of new) (λ k other is h. absurd (zero_not k (alone (suc k) other is h))))
    renews_shelf new (own ∷ shelves) (suc i) shelf after is alone p =
        renews_right of new (items own) (flat_map items shelves) (flat_map items (slice_set shelves i after))
        (renews_shelf new shelves i shelf after is (λ k other is h. one_less (alone (suc k) other is h)) p)
        (λ h. absurd (zero_not i (sym (alone 0 own refl h))))
