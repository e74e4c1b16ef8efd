-- Which step what is used at step n comes from.
use Rattle.std.proofs.Common.{◌≡◌, ◌<◌, ◌≤◌, ◌∙◌, ℕ, List, [], ◌∷◌, Bool, true, false, Option, Some, None, Result, Ok, Err, if◌then◌else◌, refl, sym, ap, subst, inl, inr, arith}
use Rattle.std.specs.Prelude.{IfSome}
use Rattle.std.proofs.lemmas.Bool.{cases_lt}
use Rattle.iom_cache.specs.Places.{find, look}
use Rattle.iom_cache.specs.Origins.{fills, drops_at, IsLast, found_stamp}
use Rattle.iom_cache.proofs.Stamped.{Stamped}
use Rattle.iom_cache.proofs.Since.{Since}

-- there is one last number
pub IsLast-unique : (test : ℕ → Bool) (n a b : ℕ) → IsLast test n a → IsLast test n b → a ≡ b
IsLast-unique test n a b one other = elim (cases_lt a b) [
  | inl lt ↦ let none : test b ≡ false = one.none_later b lt other.within in let some : test b ≡ true = other.passes in absurd (cc)
  | inr ge ↦ elim (cases_lt b a) [
    | inl lt ↦ let none : test a ≡ false = other.none_later a lt one.within in let some : test a ≡ true = one.passes in absurd (cc)
    | inr le ↦ omega arith
  ]
]

-- what a look-up fills was not found
pub look-unused : {K V E : Type 0} → (same : K → K → Bool) (key : K) (places : List (Option (K × V))) (told : Result V E) →
    IfSome ((look key (find (same key) places) told).filled) (λ entry. find (same entry.0) places ≡ None)
look-unused {K} {V} {E} same key places told =
    let Goal : Option V → Type 0 = λ o. find (same key) places ≡ o → IfSome ((look key o told).filled) (λ entry. find (same entry.0) places ≡ None) in
    let by_found : (o : Option V) → Goal o = λ o. elim o as Goal [
      | Some held ↦ λ is. tt
      | None ↦ λ is. elim told as (λ told. IfSome ((look {K = K} {V = V} {E = E} key None told).filled) (λ entry. find (same entry.0) places ≡ None)) [
        | Ok value ↦ is
        | Err why ↦ tt
      ]
    ] in by_found (find (same key) places) refl

-- nothing is found: the stamp is the number of the step that looks
pub found_none : {K V : Type 0} → (test : K → Bool) (ps : List (Option (K × V))) (ss : List ℕ) (n : ℕ) → find test ps ≡ None → found_stamp test ps ss n ≡ n
found_none test [] ss n e = refl
found_none test (p ∷ ps) [] n e = refl
found_none test (None ∷ ps) (s ∷ ss) n e = found_none test ps ss n e
found_none {K} {V} test (Some p ∷ ps) (s ∷ ss) n e =
    let Goal : Bool → Type 0 = λ b. (if b then Some p.1 else find test ps) ≡ None → (if b then s else found_stamp test ps ss n) ≡ n in
    let by_test : (b : Bool) → Goal b = λ b. elim b as Goal [
      | true ↦ λ here. absurd (cc)
      | false ↦ λ here. found_none test ps ss n here
    ] in by_test (test p.0) e

-- something is found: it stands in a live place, whose stamp is the one found
pub found_some : {K V : Type 0} → (test : K → Bool) (P : K × V → ℕ → Type 0) (ps : List (Option (K × V))) (ss : List ℕ) (n : ℕ) (value : V) →
    Stamped P ps ss → find test ps ≡ Some value → (key : K) × (test key ≡ true) × P (key, value) (found_stamp test ps ss n)
found_some test P [] ss n value h e = absurd (cc)
found_some test P (p ∷ ps) [] n value h e = absurd h
found_some test P (None ∷ ps) (s ∷ ss) n value h e = found_some test P ps ss n value h e
found_some {K} {V} test P (Some p ∷ ps) (s ∷ ss) n value h e =
    let Goal : Bool → Type 0 = λ b. test p.0 ≡ b → (if b then Some p.1 else find test ps) ≡ Some value →
    (key : K) × (test key ≡ true) × P (key, value) (if b then s else found_stamp test ps ss n) in
    let by_test : (b : Bool) → Goal b = λ b. elim b as Goal [
      | true ↦ λ is here. let same : p.1 ≡ value = cc in (p.0, is, subst (λ (v : V). P (p.0, v) s) same h.0)
      | false ↦ λ is here. found_some test P ps ss n value h.1 here
    ] in by_test (test p.0) refl e

module _ {C K V : Type 0} (same : K → K → Bool) (drops : C → K → V → Bool) (filled : ℕ → Option (K × V)) (executed : ℕ → Option C) where
  -- the key's origin at step n is step k, which filled this value, and no command has dropped it since
  pub record Origin (n : ℕ) (key : K) (value : V) (k : ℕ) : Type 0 where
    pub last : IsLast (λ j. fills same key (filled j)) n k
    pub source : filled k ≡ Some (key, value)
    pub kept : (j : ℕ) → k ≤ j → j < n → drops_at drops (executed j) key value ≡ false

  filled_origin : (n : ℕ) (key : K) (value : V) → filled n ≡ Some (key, value) → same key key ≡ true → Origin n key value n
  filled_origin n key value source itself = record {
    last = record {
      within = omega arith;
      passes = ap (fills same key) source ∙ itself;
      none_later = λ j low high. absurd (omega arith);
    };
    source = source;
    kept = λ j low high. absurd (omega arith);
  }

  found_origin : (n c : ℕ) (key : K) (value : V) → filled n ≡ None → Since same drops filled executed n (key, value) c → same key key ≡ true → Origin n key value c
  found_origin n c key value none h itself = record {
    last = record {
      within = let before = h.before in omega arith;
      passes = ap (fills same key) (h.source) ∙ itself;
      none_later = λ j low high. elim (cases_lt j n) [
        | inl lt ↦ h.latest j low lt
        | inr ge ↦ let is : n ≡ j = omega arith in subst (λ (j : ℕ). fills same key (filled j) ≡ false) is (ap (fills same key) none)
      ];
    };
    source = h.source;
    kept = h.kept;
  }

  -- what a look-up at step n uses has an origin, found or filled
  pub origin_of : {E : Type 0} → ((a b : K) → same a b ≡ true → a ≡ b) → ((a : K) → same a a ≡ true) →
      (n : ℕ) (key : K) (value : V) (ps : List (Option (K × V))) (ss : List ℕ) (told : Result V E) →
      (look key (find (same key) ps) told).filled ≡ filled n → (look key (find (same key) ps) told).used ≡ Ok value →
      Stamped (Since same drops filled executed n) ps ss → Origin n key value (found_stamp (same key) ps ss n)
  origin_of {E} exact itself n key value ps ss told fill used h =
      let Goal : Option V → Type 0 = λ o. find (same key) ps ≡ o → (look key o told).filled ≡ filled n → (look key o told).used ≡ Ok value →
      Origin n key value (found_stamp (same key) ps ss n) in
      let by_found : (o : Option V) → Goal o = λ o. elim o as Goal [
        | None ↦ λ is.
            let Told : Result V E → Type 0 = λ told. (look {K = K} {V = V} {E = E} key None told).filled ≡ filled n → (look {K = K} {V = V} {E = E} key None told).used ≡ Ok value →
            Origin n key value (found_stamp (same key) ps ss n) in
            elim told as Told [
              | Ok v ↦ λ fill used.
                  let one : v ≡ value = cc in
                  let source : filled n ≡ Some (key, value) = sym fill ∙ ap (λ (v : V). Some (key, v)) one in
                  subst (λ (c : ℕ). Origin n key value c) (sym (found_none (same key) ps ss n is)) (filled_origin n key value source (itself key))
              | Err why ↦ λ fill used. absurd (cc)
            ]
        | Some v ↦ λ is fill used.
            let one : v ≡ value = cc in
            let f = found_some (same key) (Since same drops filled executed n) ps ss n value h (is ∙ ap (λ (v : V). Some v) one) in
            let own : f.0 ≡ key = sym (exact key f.0 f.1) in
            found_origin n (found_stamp (same key) ps ss n) key value (sym fill)
            (subst (λ (k : K). Since same drops filled executed n (k, value) (found_stamp (same key) ps ss n)) own f.2) (itself key)
      ] in by_found (find (same key) ps) refl fill used
