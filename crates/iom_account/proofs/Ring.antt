-- A ring: the items behind the newer ones, and then those.
use Rattle.std.proofs.Common.{◌≡◌, ◌∙◌, ◌++◌, ◌+◌, ◌-◌, ◌<◌, ◌≤◌, ◌==◌, ℕ, zero, suc, true, false, Bool, List, [], ◌∷◌, length, take, drop, set, if◌then◌else◌, append_assoc, append-nil, drop_of_length-le, length-append, length-drop, refl, sym, ap, arith}
use Rattle.std.specs.Prelude.{slice_get}
use Rattle.std.specs.List.{insert}
use Rattle.std.proofs.lemmas.List.{drop-append-le, drop-drop, drop_at, length-take-le, set_split, take_at, take_all}
use Rattle.std.proofs.lemmas.Bool.{eqb-true, eqb-false}
use Rattle.circular_buffer.specs.Buffer.{keep_last, last_item}
use Rattle.iom_account.proofs.Telling.{kept_in_full, kept_in_room}

-- an item of a list that is cut, or of two
at_left : {X : Type 0} (xs ys : List X) (i : ℕ) → i < length xs → slice_get (xs ++ ys) i ≡ slice_get xs i
at_left [] ys i low = absurd (omega (arith, low))
at_left (x ∷ xs) ys zero low = refl
at_left (x ∷ xs) ys (suc i) low = at_left xs ys i (omega (arith, low))

at_right : {X : Type 0} (xs ys : List X) (i : ℕ) → slice_get (xs ++ ys) (length xs + i) ≡ slice_get ys i
at_right [] ys i = let none : 0 + i ≡ i = omega arith in ap (slice_get ys) none
at_right (x ∷ xs) ys i =
    let further : length (x ∷ xs) + i ≡ suc (length xs + i) = omega arith in
    ap (slice_get (x ∷ xs ++ ys)) further ∙ at_right xs ys i

at_drop : {X : Type 0} (xs : List X) (k i : ℕ) → slice_get (drop k xs) i ≡ slice_get xs (k + i)
at_drop xs zero i = let none : i ≡ 0 + i = omega arith in ap (slice_get xs) none
at_drop [] (suc k) i = refl
at_drop (x ∷ xs) (suc k) i =
    let further : suc (k + i) ≡ suc k + i = omega arith in at_drop xs k i ∙ ap (slice_get (x ∷ xs)) further

at_take : {X : Type 0} (xs : List X) (k i : ℕ) → i < k → slice_get (take k xs) i ≡ slice_get xs i
at_take xs zero i low = absurd (omega (arith, low))
at_take [] (suc k) i low = refl
at_take (x ∷ xs) (suc k) zero low = refl
at_take (x ∷ xs) (suc k) (suc i) low = at_take xs k i (omega (arith, low))

pub turned_front : {X : Type 0} (xs : List X) (k i : ℕ) → i < length xs - k →
    slice_get xs (k + i) ≡ slice_get (drop k xs ++ take k xs) i
turned_front xs k i low =
    let long : length (drop k xs) ≡ length xs - k = length-drop k xs in
    sym (at_left (drop k xs) (take k xs) i (omega (arith, low, long)) ∙ at_drop xs k i)

pub turned_back : {X : Type 0} (xs : List X) (k i : ℕ) → length xs - k ≤ i →
    slice_get (take k xs) (i - (length xs - k)) ≡ slice_get (drop k xs ++ take k xs) i
turned_back xs k i high =
    let long : length (drop k xs) ≡ length xs - k = length-drop k xs in
    let is : length (drop k xs) + (i - (length xs - k)) ≡ i = omega (arith, high, long) in
    sym (at_right (drop k xs) (take k xs) (i - (length xs - k))) ∙ ap (slice_get (drop k xs ++ take k xs)) is

turned_length : {X : Type 0} (xs : List X) (k : ℕ) → k ≤ length xs → length (drop k xs ++ take k xs) ≡ length xs
turned_length xs k within =
    let sum = length-append (drop k xs) (take k xs) in
    let one = length-drop k xs in
    let other = length-take-le k xs within in omega (arith, sum, one, other, within)

pub turned_last : {X : Type 0} (xs : List X) (k : ℕ) → 0 < k → k ≤ length xs →
    slice_get xs (k - 1) ≡ last_item (drop k xs ++ take k xs)
turned_last xs k some within =
    let long = turned_length xs k within in
    let back = turned_back xs k (length xs - 1) (omega (arith, some, within)) in
    let is : length xs - 1 - (length xs - k) ≡ k - 1 = omega (arith, some, within) in
    sym (at_take xs k (k - 1) (omega (arith, some)))
    ∙ ap (slice_get (take k xs)) (sym is) ∙ back
    ∙ ap (λ (n : ℕ). slice_get (drop k xs ++ take k xs) (n - 1)) (sym long)

pub turned_whole : {X : Type 0} (xs : List X) (k : ℕ) → k ≡ 0 → xs ≡ drop k xs ++ take k xs
turned_whole xs k none = rw none (sym (append-nil xs))

-- one more between the newer ones and the others
seam : {X : Type 0} (front back : List X) (x : X) (k : ℕ) → length front ≡ k →
    drop (k + 1) (front ++ x ∷ back) ++ take (k + 1) (front ++ x ∷ back) ≡ back ++ (front ++ x ∷ [])
seam front back x k long =
    let whole : (front ++ x ∷ []) ++ back ≡ front ++ x ∷ back = append_assoc front (x ∷ []) back in
    let more : length (front ++ x ∷ []) ≡ k + 1 = omega (arith, length-append front (x ∷ []), long) in
    let behind : drop (k + 1) (front ++ x ∷ back) ≡ back = ap (drop (k + 1)) (sym whole) ∙ drop_at (front ++ x ∷ []) back (k + 1) more in
    let before : take (k + 1) (front ++ x ∷ back) ≡ front ++ x ∷ [] = ap (take (k + 1)) (sym whole) ∙ take_at (front ++ x ∷ []) back (k + 1) more in
    rw (behind, before) refl

-- where there is room
pub grown : {X : Type 0} (xs : List X) (x : X) (k : ℕ) → k ≤ length xs → length xs < 32 →
    drop (k + 1) (insert xs k x) ++ take (k + 1) (insert xs k x) ≡ keep_last 32 ((drop k xs ++ take k xs) ++ x ∷ [])
grown xs x k within room =
    let long = turned_length xs k within in
    seam (take k xs) (drop k xs) x k (length-take-le k xs within)
    ∙ sym (append_assoc (drop k xs) (take k xs) (x ∷ []))
    ∙ kept_in_room 32 (drop k xs ++ take k xs) x (omega (arith, long, room))

-- where there is none
turned_at : {X : Type 0} (xs : List X) (x : X) (k : ℕ) → length xs ≡ 32 → k < 32 →
    drop (k + 1) (set xs k x) ++ take (k + 1) (set xs k x) ≡ keep_last 32 ((drop k xs ++ take k xs) ++ x ∷ [])
turned_at xs x k full low =
    let long = turned_length xs k (omega (arith, full, low)) in
    let some : 1 ≤ length (drop k xs) = omega (arith, length-drop k xs, full, low) in
    let one : suc k ≡ k + 1 = omega arith in
    let further : drop (suc k) xs ≡ drop 1 (drop k xs) = ap (λ (n : ℕ). drop n xs) one ∙ sym (drop-drop 1 k xs) in
    let split : set xs k x ≡ take k xs ++ x ∷ drop (suc k) xs = set_split xs k x (omega (arith, full, low)) in
    ap (λ (ys : List _). drop (k + 1) ys ++ take (k + 1) ys) split
    ∙ seam (take k xs) (drop (suc k) xs) x k (length-take-le k xs (omega (arith, full, low)))
    ∙ ap (λ (ys : List _). ys ++ (take k xs ++ x ∷ [])) further
    ∙ sym (append_assoc (drop 1 (drop k xs)) (take k xs) (x ∷ []))
    ∙ ap (λ (ys : List _). ys ++ x ∷ []) (sym (drop-append-le 1 (drop k xs) (take k xs) some))
    ∙ kept_in_full 32 (drop k xs ++ take k xs) x (omega arith) (omega (arith, long, full))

all_turned : {X : Type 0} (xs : List X) (k : ℕ) → k ≡ length xs → drop k xs ++ take k xs ≡ drop 0 xs ++ take 0 xs
all_turned xs k all =
    let none : drop k xs ≡ [] = drop_of_length-le xs (omega (arith, all)) in
    let whole : take k xs ≡ xs = take_all k xs (omega (arith, all)) in
    rw (none, whole) (sym (append-nil xs))

by_place : {X : Type 0} (xs : List X) (x : X) (k place : ℕ) (b : Bool) → (k == 32) ≡ b → length xs ≡ 32 → k ≤ 32 →
    place ≡ (if b then 0 else k) →
    drop (place + 1) (set xs place x) ++ take (place + 1) (set xs place x) ≡ keep_last 32 ((drop k xs ++ take k xs) ++ x ∷ [])
by_place xs x k place true at full within is =
    let all : k ≡ 32 = eqb-true k 32 at in
    ap (λ (p : ℕ). drop (p + 1) (set xs p x) ++ take (p + 1) (set xs p x)) is
    ∙ turned_at xs x 0 full (omega arith)
    ∙ ap (λ (ys : List _). keep_last 32 (ys ++ x ∷ [])) (sym (all_turned xs k (all ∙ sym full)))
by_place xs x k place false at full within is =
    let other = eqb-false k 32 at in
    ap (λ (p : ℕ). drop (p + 1) (set xs p x) ++ take (p + 1) (set xs p x)) is
    ∙ turned_at xs x k full (omega (arith, within, other))

pub turned_on : {X : Type 0} (xs : List X) (x : X) (k place : ℕ) → length xs ≡ 32 → k ≤ 32 → place ≡ (if k == 32 then 0 else k) →
    drop (place + 1) (set xs place x) ++ take (place + 1) (set xs place x) ≡ keep_last 32 ((drop k xs ++ take k xs) ++ x ∷ [])
turned_on xs x k place full within is = by_place xs x k place (k == 32) refl full within is
