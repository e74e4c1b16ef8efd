-- What is found stands in a live place with just the key looked for, and where nothing is found none has it.
use Rattle.std.proofs.Common.{◌≡◌, ◌<◌, ℕ, zero, suc, List, [], ◌∷◌, length, slice_index_or, Contains, Bool, true, false, Option, Some, None, if◌then◌else◌, refl, sym, ◌∙◌, ap, arith}
use Rattle.iom_ddt.specs.declared.context.Context.{Context}
use Rattle.iom_nested.specs.declared.translation.Hit.{Hit}
use Rattle.iom_cache.specs.declared.key.Key.{Key}
use Rattle.iom_cache.specs.Keys.{same_key, same_did}
use Rattle.iom_cache.specs.Places.{find, IsHeld}
use Rattle.iom_cache.proofs.Same.{same_key_exact, same_key_itself, same_did_exact, same_did_itself}

later : {X : Type 0} → (first x : X) (xs : List X) → Contains xs x → Contains (first ∷ xs) x
later first x xs h = let low = h.1 in (suc h.0, omega arith, h.2)

module _ {K V : Type 0} (same : K → K → Bool) (exact : (a b : K) → same a b ≡ true → a ≡ b) (itself : (a : K) → same a a ≡ true) where
  found_contained : (key : K) (value : V) (places : List (Option (K × V))) → find (same key) places ≡ Some value → Contains places (Some (key, value))
  found_contained key value [] e = absurd (cc)
  found_contained key value (None ∷ places) e = later None (Some (key, value)) places (found_contained key value places e)
  found_contained key value (Some entry ∷ places) e =
      let Goal : Bool → Type 0 = λ b. same key entry.0 ≡ b → (if b then Some entry.1 else find (same key) places) ≡ Some value →
      Contains (Some entry ∷ places) (Some (key, value)) in
      let by_test : (b : Bool) → Goal b = λ b. elim b as Goal [
        | true ↦ λ is here.
            let own : entry.0 ≡ key = sym (exact key entry.0 is) in
            let held : entry.1 ≡ value = cc in
            let both : entry ≡ (key, value) = λ i. (own i, held i) in
            (0, omega arith, ap Some both)
        | false ↦ λ is here. later (Some entry) (Some (key, value)) places (found_contained key value places here)
      ] in by_test (same key entry.0) refl e

  found_first : (key : K) (value : V) (entry : K × V) (places : List (Option (K × V))) → entry ≡ (key, value) →
      find (same key) (Some entry ∷ places) ≡ Some (entry.1)
  found_first key value entry places is =
      let own : entry.0 ≡ key = ap (λ (e : K × V). e.0) is in
      let test : same key entry.0 ≡ true = ap (same key) own ∙ itself key in
      ap (λ (b : Bool). if b then Some entry.1 else find (same key) places) test

  none_at : (key : K) (value : V) (places : List (Option (K × V))) → find (same key) places ≡ None →
      (i : ℕ) → i < length places → slice_index_or places i (Some (key, value)) ≡ Some (key, value) → ⊥
  none_at key value [] e i low here = omega arith
  none_at key value (None ∷ places) e zero low here = absurd (cc)
  none_at key value (None ∷ places) e (suc i) low here = none_at key value places e i (omega arith) here
  none_at key value (Some entry ∷ places) e zero low here =
      let is : entry ≡ (key, value) = cc in
      let found = found_first key value entry places is in absurd (cc)
  none_at key value (Some entry ∷ places) e (suc i) low here =
      let Goal : Bool → Type 0 = λ b. (if b then Some entry.1 else find (same key) places) ≡ None → ⊥ in
      let by_test : (b : Bool) → Goal b = λ b. elim b as Goal [
        | true ↦ λ e. absurd (cc)
        | false ↦ λ e. none_at key value places e i (omega arith) here
      ] in by_test (same key entry.0) e

  held : (key : K) (o : Option V) (places : List (Option (K × V))) → find (same key) places ≡ o → IsHeld key o places
  held key None places e = λ value there. none_at key value places e there.0 there.1 there.2
  held key (Some value) places e = found_contained key value places e

pub key_held : (key : Key) (o : Option Hit) (pages : List (Option (Key × Hit))) → o ≡ find (same_key key) pages → IsHeld key o pages
key_held key o pages e = held same_key same_key_exact same_key_itself key o pages (sym e)

pub did_held : (did : ℕ) (o : Option Context) (contexts : List (Option (ℕ × Context))) → o ≡ find (same_did did) contexts → IsHeld did o contexts
did_held did o contexts e = held same_did same_did_exact same_did_itself did o contexts (sym e)
