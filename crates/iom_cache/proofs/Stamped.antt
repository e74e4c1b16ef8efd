-- Places beside their stamps, and what is said of each live place and its stamp.
use Rattle.std.proofs.Common.{◌≡◌, ◌==◌, ◌++◌, ℕ, suc, List, [], ◌∷◌, length, drop, map, Bool, true, false, Option, Some, None, if◌then◌else◌, refl, ap, subst}
use Rattle.iom_cache.specs.Places.{find, made_room, dropped_by, NoneLive}
use Rattle.iom_cache.specs.Origins.{first_stamps}

-- as many stamps as places, and P of each live place's entry and its stamp
abbrev pub Stamped : {K V : Type 0} → (K × V → ℕ → Type 0) → List (Option (K × V)) → List ℕ → Type 0
Stamped P [] [] = Unit {0}
Stamped P [] (s ∷ ss) = ⊥
Stamped P (p ∷ ps) [] = ⊥
Stamped P (None ∷ ps) (s ∷ ss) = Stamped P ps ss
Stamped P (Some p ∷ ps) (s ∷ ss) = P p s × Stamped P ps ss

pub Stamped-start : {K V : Type 0} → (P : K × V → ℕ → Type 0) (ps : List (Option (K × V))) → NoneLive ps → Stamped P ps (first_stamps ps)
Stamped-start P [] none = tt
Stamped-start P (None ∷ ps) none = Stamped-start P ps none
Stamped-start P (Some p ∷ ps) none = absurd none

pub Stamped-length : {K V : Type 0} → (P : K × V → ℕ → Type 0) (ps : List (Option (K × V))) (ss : List ℕ) → Stamped P ps ss → length ps ≡ length ss
Stamped-length P [] [] h = refl
Stamped-length P [] (s ∷ ss) h = absurd h
Stamped-length P (p ∷ ps) [] h = absurd h
Stamped-length P (None ∷ ps) (s ∷ ss) h = ap suc (Stamped-length P ps ss h)
Stamped-length P (Some p ∷ ps) (s ∷ ss) h = ap suc (Stamped-length P ps ss h.1)

pub Stamped-weaker : {K V : Type 0} → (P Q : K × V → ℕ → Type 0) → ((p : K × V) (s : ℕ) → P p s → Q p s) →
    (ps : List (Option (K × V))) (ss : List ℕ) → Stamped P ps ss → Stamped Q ps ss
Stamped-weaker P Q f [] [] h = tt
Stamped-weaker P Q f [] (s ∷ ss) h = absurd h
Stamped-weaker P Q f (p ∷ ps) [] h = absurd h
Stamped-weaker P Q f (None ∷ ps) (s ∷ ss) h = Stamped-weaker P Q f ps ss h
Stamped-weaker P Q f (Some p ∷ ps) (s ∷ ss) h = (f p s h.0, Stamped-weaker P Q f ps ss h.1)

-- if no live place has the key, it is enough that P gives Q for other keys
pub Stamped-absent : {K V : Type 0} → (test : K → Bool) (P Q : K × V → ℕ → Type 0) → ((p : K × V) (s : ℕ) → test p.0 ≡ false → P p s → Q p s) →
    (ps : List (Option (K × V))) (ss : List ℕ) → find test ps ≡ None → Stamped P ps ss → Stamped Q ps ss
Stamped-absent test P Q f [] [] e h = tt
Stamped-absent test P Q f [] (s ∷ ss) e h = absurd h
Stamped-absent test P Q f (p ∷ ps) [] e h = absurd h
Stamped-absent test P Q f (None ∷ ps) (s ∷ ss) e h = Stamped-absent test P Q f ps ss e h
Stamped-absent {K} {V} test P Q f (Some p ∷ ps) (s ∷ ss) e h =
    let Goal : Bool → Type 0 = λ b. test p.0 ≡ b → (if b then Some p.1 else find test ps) ≡ None → Q p s × Stamped Q ps ss in
    let by_test : (b : Bool) → Goal b = λ b. elim b as Goal [
      | true ↦ λ is here. absurd (cc)
      | false ↦ λ is here. (f p s is h.0, Stamped-absent test P Q f ps ss here h.1)
    ] in by_test (test p.0) refl e

pub Stamped-push : {K V : Type 0} → (P : K × V → ℕ → Type 0) (ps : List (Option (K × V))) (ss : List ℕ) (p : K × V) (s : ℕ) →
    Stamped P ps ss → P p s → Stamped P (ps ++ Some p ∷ []) (ss ++ s ∷ [])
Stamped-push P [] [] p s h last = (last, tt)
Stamped-push P [] (t ∷ ss) p s h last = absurd h
Stamped-push P (q ∷ ps) [] p s h last = absurd h
Stamped-push P (None ∷ ps) (t ∷ ss) p s h last = Stamped-push P ps ss p s h last
Stamped-push P (Some q ∷ ps) (t ∷ ss) p s h last = (h.0, Stamped-push P ps ss p s h.1 last)

pub Stamped-rest : {K V : Type 0} → (P : K × V → ℕ → Type 0) (ps : List (Option (K × V))) (ss : List ℕ) → Stamped P ps ss → Stamped P (drop 1 ps) (drop 1 ss)
Stamped-rest P [] [] h = tt
Stamped-rest P [] (s ∷ ss) h = absurd h
Stamped-rest P (p ∷ ps) [] h = absurd h
Stamped-rest P (None ∷ ps) (s ∷ ss) h = h
Stamped-rest P (Some p ∷ ps) (s ∷ ss) h = h.1

pub Stamped-room : {K V : Type 0} → (P : K × V → ℕ → Type 0) (room : ℕ) (ps : List (Option (K × V))) (ss : List ℕ) → Stamped P ps ss →
    Stamped P (made_room room ps) (made_room room ss)
Stamped-room P room ps ss h =
    let full : (b : Bool) → Stamped P (if b then drop 1 ps else ps) (if b then drop 1 ss else ss)
    = λ b. elim b as (λ b. Stamped P (if b then drop 1 ps else ps) (if b then drop 1 ss else ss)) [
      | true ↦ Stamped-rest P ps ss h
      | false ↦ h
    ] in
    subst (λ (n : ℕ). Stamped P (made_room room ps) (if n == room then drop 1 ss else ss)) (Stamped-length P ps ss h) (full (length ps == room))

pub Stamped-dropped : {K V : Type 0} → (drops : K → V → Bool) (P Q : K × V → ℕ → Type 0) → ((p : K × V) (s : ℕ) → drops p.0 p.1 ≡ false → P p s → Q p s) →
    (ps : List (Option (K × V))) (ss : List ℕ) → Stamped P ps ss → Stamped Q (map (dropped_by drops) ps) ss
Stamped-dropped drops P Q f [] [] h = tt
Stamped-dropped drops P Q f [] (s ∷ ss) h = absurd h
Stamped-dropped drops P Q f (p ∷ ps) [] h = absurd h
Stamped-dropped drops P Q f (None ∷ ps) (s ∷ ss) h = Stamped-dropped drops P Q f ps ss h
Stamped-dropped {K} {V} drops P Q f (Some p ∷ ps) (s ∷ ss) h =
    let Goal : Bool → Type 0 = λ b. drops p.0 p.1 ≡ b → Stamped Q ((if b then None else Some p) ∷ map (dropped_by drops) ps) (s ∷ ss) in
    let by_test : (b : Bool) → Goal b = λ b. elim b as Goal [
      | true ↦ λ is. Stamped-dropped drops P Q f ps ss h.1
      | false ↦ λ is. (f p s is h.0, Stamped-dropped drops P Q f ps ss h.1)
    ] in by_test (drops p.0 p.1) refl
