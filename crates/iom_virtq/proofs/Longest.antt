-- The longest run, by its length and by what it is.
use Rattle.std.proofs.Common.{◌≡◌, ◌+◌, ◌<◌, ◌≤◌, ℕ, Bool, true, false, IsTrue, min, List, [], ◌∷◌, length, take, drop, get_or, refl, sym, ◌∙◌, ap, inl, inr, arith, length-drop}
use Rattle.std.specs.List.{prefix_len}
use Rattle.std.proofs.lemmas.List.{get_or-take, length-take}
use Rattle.std.proofs.lemmas.List.Sums.{prefix_len-le-length, prefix_len_passes, prefix_len_stops}
use Rattle.std.proofs.lemmas.Bool.{cases_lt}
use Rattle.iom_virtq.specs.Chains.{Item, is_together, run_length, address_of, IsPiece, IsRun}

-- two bytes that are together with the same one
pub both_together : (first a b : Item) → is_together first a ≡ true → is_together first b ≡ true → IsTrue (is_together a b)
both_together first a b one other = grind arith

with_itself : (first : Item) → is_together first first ≡ true
with_itself first = grind arith

-- each byte before the end of the run passes the test
passes : (p : Item → Bool) (items : List Item) (room count i : ℕ) (none : Item) → count ≡ prefix_len p (take room items) →
    i < count → p (get_or items i none) ≡ true
passes p items room count i none long before =
    let most : count ≤ min room (length items) = omega (arith, long, prefix_len-le-length p (take room items), length-take room items) in
    sym (ap p (get_or-take room items i none (omega arith))) ∙ prefix_len_passes p (take room items) i none (omega (arith, long))

-- and the one behind it does not
stops : (p : Item → Bool) (items : List Item) (room count : ℕ) (none : Item) → count ≡ prefix_len p (take room items) →
    count < room → count < length items → p (get_or items count none) ≡ false
stops p items room count none long below within =
    let more : prefix_len p (take room items) < length (take room items) = omega (arith, long, length-take room items) in
    sym (ap p (get_or-take room items count none below)) ∙ ap (λ n. p (get_or (take room items) n none)) long
    ∙ prefix_len_stops p (take room items) none more

run_is : (first : Item) (items : List Item) (room count : ℕ) → count ≡ prefix_len (is_together first) (take room items) →
    IsRun (take count items)
run_is first items room count long = λ i j none at_i at_j.
    let most : length (take count items) ≤ count = omega (arith, length-take count items) in
    ap (λ a. is_together a (get_or (take count items) j none)) (get_or-take count items i none (omega arith))
    ∙ ap (is_together (get_or items i none)) (get_or-take count items j none (omega arith))
    ∙ both_together first (get_or items i none) (get_or items j none)
    (passes (is_together first) items room count i none long (omega arith))
    (passes (is_together first) items room count j none long (omega arith))

no_longer : (first : Item) (others : List Item) (room count n : ℕ) →
    count ≡ prefix_len (is_together first) (take room (first ∷ others)) → n ≤ room → n ≤ length (first ∷ others) →
    IsRun (take n (first ∷ others)) → n ≤ count
no_longer first others room count n long few within run = elim (cases_lt count n) as (λ _. n ≤ count) [
  | inl more ↦
      let size : length (take n (first ∷ others)) ≡ n = omega (arith, length-take n (first ∷ others)) in
      let joined : is_together (get_or (take n (first ∷ others)) 0 first) (get_or (take n (first ∷ others)) count first) ≡ true =
      run 0 count first (omega arith) (omega arith) in
      let there : is_together first (get_or (first ∷ others) count first) ≡ true =
      sym (ap (λ a. is_together a (get_or (first ∷ others) count first)) (get_or-take n (first ∷ others) 0 first (omega arith)))
      ∙ sym (ap (is_together (get_or (take n (first ∷ others)) 0 first)) (get_or-take n (first ∷ others) count first more)) ∙ joined in
      let not_there : is_together first (get_or (first ∷ others) count first) ≡ false =
      stops (is_together first) (first ∷ others) room count first long (omega arith) (omega arith) in
      absurd (cc (there, not_there))
  | inr least ↦ least
]

whole : (items : List Item) (address count : ℕ) → 0 < length items → address ≡ address_of items → count ≡ run_length items →
    IsPiece items address count
whole [] address count some here long = absurd (omega (arith, some))
whole (first ∷ others) address count some here long =
    let one : run_length (first ∷ others) ≡ 1 + prefix_len (is_together first) (take 63 others) = rw (with_itself first) refl in
    let most : count ≤ min 64 (length (first ∷ others)) =
    omega (arith, long, prefix_len-le-length (is_together first) (take 64 (first ∷ others)), length-take 64 (first ∷ others)) in
    record {
      first = here;
      some = omega (arith, long, one);
      few = omega arith;
      within = omega arith;
      run = run_is first (first ∷ others) 64 count long;
      longest = λ n few_bytes enough run. no_longer first others 64 count n long few_bytes enough run;
    }

pub piece_is : (bytes : List Item) (position address count : ℕ) → position < length bytes →
    address ≡ address_of (drop position bytes) → count ≡ run_length (drop position bytes) →
    IsPiece (drop position bytes) address count
piece_is bytes position address count within here long =
    whole (drop position bytes) address count (omega (arith, length-drop position bytes)) here long
