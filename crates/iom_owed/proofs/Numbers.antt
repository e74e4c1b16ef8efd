-- Requests that are put in under a number.
use Rattle.std.proofs.Common.{◌≡◌, ◌∙◌, ℕ, Bool, true, false, List, [], ◌∷◌, Some, if◌then◌else◌, refl, sym, ap, subst, inl, inr}
use Rattle.iom_held.specs.Kept.{Renews}
use Rattle.iom_held.proofs.Places.{renews_at, renews_end}
use Rattle.indexmap.specs.IndexMap.{insert_entry}
use Rattle.iom_owed.specs.Holdings.{request_of}
use Rattle.iom_owed.specs.Keys.{made_at, made_in, request_at}
use Rattle.iom_owed.specs.declared.noting.Made.{Made}
use Rattle.iom_owed.specs.declared.noting.RequestKey.{RequestKey}

-- behind one of another
renews_behind : {N X : Type 0} (of : N → X) (new n : N) (xs ys : List N) → (of n ≡ of new → ⊥) → Renews of (new ∷ []) xs ys → Renews of (new ∷ []) (n ∷ xs) (n ∷ ys)
renews_behind {N} {X} of new n xs ys other p = record {
  all = λ x h. elim h [
    | inl here ↦ inl (inl here)
    | inr later ↦ elim (p.all x later) [
      | inl old ↦ inl (inr old)
      | inr one ↦ inr one
    ]
  ];
  kept = λ x h. elim h [
    | inl old ↦ elim old [
      | inl here ↦ inl here
      | inr later ↦ inr (p.kept x (inl later))
    ]
    | inr one ↦ inr (p.kept x (inr one))
  ];
  each = λ once m h. elim h [
    | inl here ↦ inr (
      inl here,
      λ k. elim k [
        | inl same ↦ other (ap of here ∙ sym same)
        | inr none ↦ none
      ],
    )
    | inr later ↦ elim (p.each once.1 m later) [
      | inl one ↦ inl one
      | inr k ↦ inr (inr k.0, k.1)
    ]
  ];
  once = λ once. (
    λ h. elim (p.all (of n) h) [
      | inl old ↦ once.0 old
      | inr one ↦ elim one [
        | inl same ↦ other (sym same)
        | inr none ↦ none
      ]
    ],
    p.once once.1,
  );
}

module _ (eq : RequestKey → RequestKey → Bool) (same : (x y : RequestKey) → eq x y ≡ true → x ≡ y) (all : (x y : RequestKey) → request_at x ≡ request_at y → eq x y ≡ true) where
  pub renews_inserted : (entries : List (RequestKey × ℕ)) (key : RequestKey) (number : ℕ) →
      Renews request_of (made_at (key, number) ∷ []) (made_in entries) (made_in (insert_entry eq entries key number))
  renews_inserted [] key number = renews_end request_of (made_at (key, number)) [] (λ none. none)
  renews_inserted (entry ∷ entries) key number =
      let new : Made = made_at (key, number) in
      let Goal : Bool → Type 0 = λ b. eq key entry.0 ≡ b → Renews request_of (new ∷ []) (made_at entry ∷ made_in entries)
      (made_in (if b then (entry.0, number) ∷ entries else entry ∷ insert_entry eq entries key number)) in
      let by_test : (b : Bool) → Goal b = λ b. elim b as Goal [
        | true ↦ λ is.
            let here : key ≡ entry.0 = same key entry.0 is in
            let put : Renews request_of (new ∷ []) (made_at entry ∷ made_in entries) (new ∷ made_in entries) =
            renews_at request_of new (made_at entry ∷ made_in entries) 0 (ap (λ (key : RequestKey). Some (request_at key)) (sym here)) in
            subst (λ (key : RequestKey). Renews request_of (new ∷ []) (made_at entry ∷ made_in entries) (made_at (key, number) ∷ made_in entries)) here put
        | false ↦ λ is. renews_behind request_of new (made_at entry) (made_in entries) (made_in (insert_entry eq entries key number))
            (λ k. let both : eq key entry.0 ≡ true = all key entry.0 (sym k) in absurd (cc)) (renews_inserted entries key number)
      ] in by_test (eq key entry.0) refl
