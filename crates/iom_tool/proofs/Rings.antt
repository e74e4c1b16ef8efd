-- A list that is kept in a ring of 33 places.
use Rattle.std.proofs.Common.{◌≡◌, ◌+◌, ◌-◌, ◌<◌, ◌≤◌, ◌==◌, ◌||◌, ◌++◌, ℕ, zero, suc, List, [], ◌∷◌, Bool, true, false, None, length, take, drop, sym, ◌∙◌, ap, refl, inl, inr, arith, append_assoc, append-nil, length-append, length-drop, if◌then◌else◌}
use Rattle.std.specs.Prelude.{slice_get, slice_set}
use Rattle.std.proofs.lemmas.Bool.{cases_lt, eqb-true, eqb-false}
use Rattle.std.proofs.lemmas.Option.{slice_get_past}
use Rattle.std.proofs.lemmas.List.{take_all, drop_all, drop-drop, drop-append-le, length-take}
use Rattle.circular_buffer.specs.Buffer.{keep_last}
use Rattle.iom_tool.specs.Ring.{kept_around}

module _ {A : Type 0} where
  pub length_set : (xs : List A) (n : ℕ) (x : A) → length (slice_set xs n x) ≡ length xs
  length_set [] n x = refl
  length_set (y ∷ ys) zero x = refl
  length_set (y ∷ ys) (suc n) x = ap suc (length_set ys n x)

  take_set : (xs : List A) (n : ℕ) (x : A) → take n (slice_set xs n x) ≡ take n xs
  take_set [] n x = refl
  take_set (y ∷ ys) zero x = refl
  take_set (y ∷ ys) (suc n) x = ap (λ l. y ∷ l) (take_set ys n x)

  drop_set : (xs : List A) (n k : ℕ) (x : A) → n < k → drop k (slice_set xs n x) ≡ drop k xs
  drop_set [] n k x more = refl
  drop_set (y ∷ ys) n zero x more = absurd (omega arith)
  drop_set (y ∷ ys) zero (suc k) x more = refl
  drop_set (y ∷ ys) (suc n) (suc k) x more = drop_set ys n k x (omega arith)

  take_more : (xs : List A) (n k : ℕ) (x : A) → n < length xs → k ≡ suc n → take k (slice_set xs n x) ≡ take n xs ++ x ∷ []
  take_more [] n k x inside next = absurd (omega arith)
  take_more (y ∷ ys) n zero x inside next = absurd (omega arith)
  take_more (y ∷ ys) zero (suc k) x inside next = ap (λ j. x ∷ take j ys) (let none : k ≡ 0 = omega arith in none)
  take_more (y ∷ ys) (suc n) (suc k) x inside next = ap (λ l. y ∷ l) (take_more ys n k x (omega arith) (omega arith))

  -- what stands at the spare place is none of the list
  pub kept_same : (full : Bool) (spare : ℕ) (places : List A) (x : A) →
      kept_around full spare (slice_set places spare x) ≡ kept_around full spare places
  kept_same false spare places x = take_set places spare x
  kept_same true spare places x = rw (take_set places spare x, drop_set places spare (spare + 1) x (omega arith)) refl

  last_32 : (xs ys : List A) → length ys ≡ 33 → drop 1 ys ≡ xs → xs ≡ keep_last 32 ys
  last_32 xs ys long is = sym (ap (λ n. drop (n - 32) ys) long ∙ is)

  few_32 : (ys : List A) → length ys ≤ 32 → ys ≡ keep_last 32 ys
  few_32 ys few = let none : length ys - 32 ≡ 0 = omega arith in sym (ap (λ n. drop n ys) none)

  whole_32 : (places : List A) (x : A) → length places ≡ 33 →
      drop 1 (slice_set places 32 x) ++ [] ≡ keep_last 32 (take 32 places ++ x ∷ [])
  whole_32 places x long =
      let all : slice_set places 32 x ≡ take 32 places ++ x ∷ [] =
      sym (take_all 33 (slice_set places 32 x) (omega (arith, length_set places 32 x))) ∙ take_more places 32 33 x (omega arith) (omega arith) in
      append-nil (drop 1 (slice_set places 32 x))
      ∙ last_32 (drop 1 (slice_set places 32 x)) (take 32 places ++ x ∷ [])
      (omega (arith, length-append (take 32 places) (x ∷ []), length-take 32 places)) (ap (drop 1) (sym all))

  -- the spare place becomes the newest, and the next one spare
  at_end : (full : Bool) (places : List A) (x : A) → length places ≡ 33 →
      kept_around true 0 (slice_set places 32 x) ≡ keep_last 32 (kept_around full 32 places ++ x ∷ [])
  at_end false places x long = whole_32 places x long
  at_end true places x long =
      whole_32 places x long ∙ ap (λ l. keep_last 32 ((l ++ take 32 places) ++ x ∷ [])) (sym (drop_all 33 places (omega arith)))

  ended : (full : Bool) (spare next : ℕ) (places : List A) (x : A) → length places ≡ 33 → spare ≡ 32 → next ≡ 0 →
      kept_around true next (slice_set places spare x) ≡ keep_last 32 (kept_around full spare places ++ x ∷ [])
  ended full spare next places x long at start =
      ap (λ k. kept_around true k (slice_set places spare x)) start ∙ ap (λ k. kept_around true 0 (slice_set places k x)) at
      ∙ at_end full places x long ∙ ap (λ k. keep_last 32 (kept_around full k places ++ x ∷ [])) (sym at)

  within : (full : Bool) (spare : ℕ) (places : List A) (x : A) → length places ≡ 33 → spare < 32 →
      kept_around full (spare + 1) (slice_set places spare x) ≡ keep_last 32 (kept_around full spare places ++ x ∷ [])
  within false spare places x long less =
      take_more places spare (spare + 1) x (omega arith) (omega arith)
      ∙ few_32 (take spare places ++ x ∷ []) (omega (arith, length-append (take spare places) (x ∷ []), length-take spare places))
  within true spare places x long less =
      let older = drop (spare + 1) places in
      let newer = take spare places in
      let count : length older ≡ 33 - (spare + 1) = length-drop (spare + 1) places ∙ ap (λ n. n - (spare + 1)) long in
      let front : drop (spare + 1 + 1) (slice_set places spare x) ≡ drop 1 older =
      drop_set places spare (spare + 1 + 1) x (omega arith) ∙ sym (drop-drop 1 (spare + 1) places) in
      let back : take (spare + 1) (slice_set places spare x) ≡ newer ++ x ∷ [] =
      take_more places spare (spare + 1) x (omega arith) (omega arith) in
      rw (front, back) (last_32 (drop 1 older ++ (newer ++ x ∷ [])) ((older ++ newer) ++ x ∷ [])
      (omega (arith, count, length-append (older ++ newer) (x ∷ []), length-append older newer, length-take spare places))
      (ap (drop 1) (append_assoc older newer (x ∷ [])) ∙ drop-append-le 1 older (newer ++ x ∷ []) (omega (arith, count))))

  pub moved : (is_end full : Bool) (spare next : ℕ) (places : List A) (x : A) → length places ≡ 33 → spare < 33 →
      is_end ≡ (spare == 32) → next ≡ (if is_end then 0 else spare + 1) →
      kept_around (full || is_end) next (slice_set places spare x) ≡ keep_last 32 (kept_around full spare places ++ x ∷ [])
  moved true true spare next places x long inside is is_next = ended true spare next places x long (eqb-true spare 32 (sym is)) is_next
  moved true false spare next places x long inside is is_next = ended false spare next places x long (eqb-true spare 32 (sym is)) is_next
  moved false true spare next places x long inside is is_next =
      let other : ¬ (spare ≡ 32) = eqb-false spare 32 (sym is) in
      ap (λ k. kept_around true k (slice_set places spare x)) is_next ∙ within true spare places x long (omega (arith, other))
  moved false false spare next places x long inside is is_next =
      let other : ¬ (spare ≡ 32) = eqb-false spare 32 (sym is) in
      ap (λ k. kept_around false k (slice_set places spare x)) is_next ∙ within false spare places x long (omega (arith, other))

  -- an item at its place of the ring
  at_front : (xs ys : List A) (i : ℕ) → i < length xs → slice_get (xs ++ ys) i ≡ slice_get xs i
  at_front [] ys i inside = absurd (omega arith)
  at_front (x ∷ xs) ys zero inside = refl
  at_front (x ∷ xs) ys (suc i) inside = at_front xs ys i (omega arith)

  at_back : (xs ys : List A) (i : ℕ) → slice_get (xs ++ ys) (length xs + i) ≡ slice_get ys i
  at_back [] ys i = let is : length {A = A} [] + i ≡ i = omega arith in ap (slice_get ys) is
  at_back (x ∷ xs) ys i =
      let is : length (x ∷ xs) + i ≡ suc (length xs + i) = omega arith in
      ap (slice_get (x ∷ (xs ++ ys))) is ∙ at_back xs ys i

  of_front : (xs : List A) (n i : ℕ) → i < n → slice_get (take n xs) i ≡ slice_get xs i
  of_front xs zero i less = absurd (omega arith)
  of_front [] (suc n) i less = refl
  of_front (x ∷ xs) (suc n) zero less = refl
  of_front (x ∷ xs) (suc n) (suc i) less = of_front xs n i (omega arith)

  of_rest : (xs : List A) (n i : ℕ) → slice_get (drop n xs) i ≡ slice_get xs (n + i)
  of_rest xs zero i = let is : i ≡ zero + i = omega arith in ap (slice_get xs) is
  of_rest [] (suc n) i = refl
  of_rest (x ∷ xs) (suc n) i =
      let is : suc (n + i) ≡ suc n + i = omega arith in
      of_rest xs n i ∙ ap (slice_get (x ∷ xs)) is

  pub none_before : (spare i : ℕ) (places : List A) → spare ≤ i → slice_get (kept_around false spare places) i ≡ None
  none_before spare i places past = slice_get_past (take spare places) i (omega (arith, length-take spare places))

  pub some_before : (spare i : ℕ) (places : List A) → i < spare → slice_get (kept_around false spare places) i ≡ slice_get places i
  some_before spare i places less = of_front places spare i less

  pub none_around : (spare i : ℕ) (places : List A) → length places ≡ 33 → spare < 33 → 32 ≤ i → slice_get (kept_around true spare places) i ≡ None
  none_around spare i places long inside past =
      slice_get_past (drop (spare + 1) places ++ take spare places) i
      (omega (arith, length-append (drop (spare + 1) places) (take spare places), length-drop (spare + 1) places, length-take spare places))

  pub some_around : (spare i at : ℕ) (places : List A) → length places ≡ 33 → spare < 33 → i < 32 →
      (spare + 1 + i < 33 → at ≡ spare + 1 + i) → (33 ≤ spare + 1 + i → at + 33 ≡ spare + 1 + i) →
      slice_get (kept_around true spare places) i ≡ slice_get places at
  some_around spare i at places long inside few below above =
      elim (cases_lt (spare + 1 + i) 33) as (λ _. slice_get (kept_around true spare places) i ≡ slice_get places at) [
        | inl less ↦
            at_front (drop (spare + 1) places) (take spare places) i (omega (arith, length-drop (spare + 1) places))
            ∙ of_rest places (spare + 1) i ∙ ap (slice_get places) (sym (below less))
        | inr past ↦
            let behind : i ≡ length (drop (spare + 1) places) + at = omega (arith, length-drop (spare + 1) places, above past) in
            ap (slice_get (kept_around true spare places)) behind
            ∙ at_back (drop (spare + 1) places) (take spare places) at ∙ of_front places spare at (omega (arith, above past))
      ]
