-- What stands beside a live place.
use Rattle.std.proofs.Common.{◌≡◌, ◌∙◌, ◌<◌, ◌≤◌, ℕ, zero, suc, List, [], ◌∷◌, get_or, replicate, take, Bool, true, false, Option, Some, None, if◌then◌else◌, refl, ap, subst, arith}
use Rattle.iom_cache.specs.Origins.{stamped_by}
use Rattle.iom_cache.specs.Places.{find, place_of}
use Rattle.iom_cache.proofs.Stamped.{Stamped}
use Rattle.iom_account.specs.Beside.{beside, noted_at}

-- something is found: it stands in a live place, and something is said of it and of what stands beside it
pub beside_found : {K V : Type 0} → (test : K → Bool) (P : K × V → ℕ → Type 0) (ps : List (Option (K × V))) (ss : List ℕ) (n : ℕ) (value : V) →
    Stamped P ps ss → find test ps ≡ Some value → (key : K) × (test key ≡ true) × P (key, value) (beside test ps ss n)
beside_found test P [] ss n value h e = absurd (cc)
beside_found test P (p ∷ ps) [] n value h e = absurd h
beside_found test P (None ∷ ps) (s ∷ ss) n value h e = beside_found test P ps ss n value h e
beside_found {K} {V} test P (Some p ∷ ps) (s ∷ ss) n value h e =
    let Goal : Bool → Type 0 = λ b. test p.0 ≡ b → (if b then Some p.1 else find test ps) ≡ Some value →
    (key : K) × (test key ≡ true) × P (key, value) (get_or (s ∷ ss) (if b then 0 else suc (place_of test ps)) n) in
    let by_test : (b : Bool) → Goal b = λ b. elim b as Goal [
      | true ↦ λ is here. let same : p.1 ≡ value = cc in (p.0, is, subst (λ (v : V). P (p.0, v) s) same h.0)
      | false ↦ λ is here. beside_found test P ps ss n value h.1 here
    ] in by_test (test p.0) refl e

-- equal fills that note equal numbers leave equal notes
pub noted_at-same : {X : Type 0} → (room : ℕ) (filled other : ℕ → Option X) (note told : ℕ → ℕ) (first : List ℕ) (k : ℕ) →
    ((j : ℕ) → j < k → filled j ≡ other j) → ((j : ℕ) → j < k → note j ≡ told j) →
    noted_at room filled note first k ≡ noted_at room other told first k
noted_at-same room filled other note told first zero fills notes = refl
noted_at-same {X} room filled other note told first (suc k) fills notes =
    let below = noted_at-same room filled other note told first k (λ j low. fills j (omega arith)) (λ j low. notes j (omega arith)) in
    ap (λ (ss : List ℕ). stamped_by room (note k) (filled k) ss) below
    ∙ ap (λ (f : Option X). stamped_by room (note k) f (noted_at room other told first k)) (fills k (omega arith))
    ∙ ap (λ (s : ℕ). stamped_by room s (other k) (noted_at room other told first k)) (notes k (omega arith))

-- the first of many zeros
pub zeros_first : (count room : ℕ) → count ≤ room → take count (replicate {A = ℕ} room 0) ≡ replicate {A = ℕ} count 0
zeros_first zero room within = refl
zeros_first (suc count) zero within = absurd (omega arith)
zeros_first (suc count) (suc room) within = ap (λ (xs : List ℕ). 0 ∷ xs) (zeros_first count room (omega arith))
