-- The counts over some accesses and one more.
use Rattle.std.proofs.Common.{◌≡◌, ◌∙◌, ◌++◌, ◌+◌, ◌-◌, ◌==◌, ℕ, suc, None, Bool, true, false, List, [], ◌∷◌, length, map, take, if◌then◌else◌, append-nil, refl, sym, ap, length-append, arith}
use Rattle.std.specs.Prelude.{cond, slice_get}
use Rattle.std.specs.List.{count_by, dedup, dedup_from, filter}
use Rattle.std.proofs.Math.Seq.{take-append_seam, take-length}
use Rattle.std.proofs.lemmas.List.{map-append}
use Rattle.std.proofs.lemmas.List.Elements.{filter-append}
use Rattle.std.proofs.lemmas.List.Sums.{sum_by_push}
use Rattle.circular_buffer.specs.Buffer.{last_item}
use Rattle.iom_debug.specs.Summary.{Counts, and_one, causes, counted, counts_of, denied_with, is_denied_for, is_granted, is_it, line_if, lines_where, up_to_64_bits, with_line, with_outcome, with_own_lines}
use Rattle.iom_debug.specs.declared.summary.AccessOutcome.{AccessOutcome}

one_more : (b : Bool) (n : ℕ) → up_to_64_bits (n + cond b 1 0) ≡ and_one b (up_to_64_bits n)
one_more true n = omega arith
one_more false n = ap up_to_64_bits (omega arith)

counted_more : (is : AccessOutcome → Bool) (told : List AccessOutcome) (o : AccessOutcome) → counted is (told ++ o ∷ []) ≡ and_one (is o) (counted is told)
counted_more is told o =
    ap up_to_64_bits (sum_by_push (λ x. cond (is x) 1 0) told o) ∙ one_more (is o) (count_by is told)

many_more : (told : List AccessOutcome) (o : AccessOutcome) → up_to_64_bits (length (told ++ o ∷ [])) ≡ and_one true (up_to_64_bits (length told))
many_more told o = ap up_to_64_bits (length-append told (o ∷ [])) ∙ one_more true (length told)

denied_more : (cs : List ℕ) (told : List AccessOutcome) (o : AccessOutcome) →
    map (λ cause. (cause, counted (is_denied_for cause) (told ++ o ∷ []))) cs
    ≡ map (denied_with o) (map (λ cause. (cause, counted (is_denied_for cause) told)) cs)
denied_more [] told o = refl
denied_more (c ∷ cs) told o =
    rw (counted_more (is_denied_for c) told o, denied_more cs told o) refl

-- an access that was granted leaves what is beside a cause
kept_entry : (o : AccessOutcome) (entry : ℕ × ℕ) → o.denied ≡ None → denied_with o entry ≡ entry
kept_entry o entry is = ap (λ denied. (entry.0, and_one (is_it entry.0 denied) entry.1)) is

pub none_denied : (o : AccessOutcome) (counts : List (ℕ × ℕ)) → o.denied ≡ None → counts ≡ map (denied_with o) counts
none_denied o [] is = refl
none_denied o (entry ∷ counts) is =
    ap (λ (l : List (ℕ × ℕ)). entry ∷ l) (none_denied o counts is)
    ∙ ap (λ (e : ℕ × ℕ). e ∷ map (denied_with o) counts) (sym (kept_entry o entry is))

-- the last of a list is that of its rest
last_of_rest : (k y : ℕ) (ys : List ℕ) → last_item (k ∷ y ∷ ys) ≡ last_item (y ∷ ys)
last_of_rest k y ys =
    let long : length (k ∷ y ∷ ys) - 1 ≡ suc (length (y ∷ ys) - 1) = omega arith in
    ap (slice_get (k ∷ y ∷ ys)) long

behind : (k n : ℕ) (b : Bool) (lines : List ℕ) → k ∷ (if b then lines else lines ++ n ∷ []) ≡ (if b then k ∷ lines else (k ∷ lines) ++ n ∷ [])
behind k n true lines = refl
behind k n false lines = refl

with_line_behind : (k n y : ℕ) (ys : List ℕ) → k ∷ with_line (y ∷ ys) n ≡ with_line (k ∷ y ∷ ys) n
with_line_behind k n y ys =
    behind k n (is_it n (last_item (y ∷ ys))) (y ∷ ys)
    ∙ ap (λ last. if is_it n last then k ∷ y ∷ ys else (k ∷ y ∷ ys) ++ n ∷ []) (sym (last_of_rest k y ys))

abbrev same : ℕ → ℕ → Bool
same n m = n == m

-- what is left of numbers begins somewhere
begins_by : (k x : ℕ) (xs : List ℕ) (b : Bool) → (y : ℕ) × (ys : List ℕ) × (dedup_from same k xs ≡ y ∷ ys) →
    (y : ℕ) × (ys : List ℕ) × (cond b (dedup_from same k xs) (k ∷ dedup_from same x xs) ≡ y ∷ ys)
begins_by k x xs true rest = rest
begins_by k x xs false rest = (k, dedup_from same x xs, refl)

begins : (k : ℕ) (xs : List ℕ) → (y : ℕ) × (ys : List ℕ) × (dedup_from same k xs ≡ y ∷ ys)
begins k [] = (k, [], refl)
begins k (x ∷ xs) = begins_by k x xs (same x k) (begins k xs)

kept_behind : (k n x : ℕ) (xs : List ℕ) → k ∷ with_line (dedup_from same x xs) n ≡ with_line (k ∷ dedup_from same x xs) n
kept_behind k n x xs =
    let at = begins x xs in
    ap (λ (l : List ℕ). k ∷ with_line l n) at.2 ∙ with_line_behind k n at.0 at.1 ∙ ap (λ (l : List ℕ). with_line (k ∷ l) n) (sym at.2)

one_number : (k n : ℕ) (b : Bool) → cond b (k ∷ []) (k ∷ n ∷ []) ≡ (if b then k ∷ [] else (k ∷ []) ++ n ∷ [])
one_number k n true = refl
one_number k n false = refl

one_behind : (k n x : ℕ) (xs : List ℕ) (b : Bool) → dedup_from same k (xs ++ n ∷ []) ≡ with_line (dedup_from same k xs) n →
    dedup_from same x (xs ++ n ∷ []) ≡ with_line (dedup_from same x xs) n →
    cond b (dedup_from same k (xs ++ n ∷ [])) (k ∷ dedup_from same x (xs ++ n ∷ []))
    ≡ with_line (cond b (dedup_from same k xs) (k ∷ dedup_from same x xs)) n
one_behind k n x xs true here there = here
one_behind k n x xs false here there = ap (λ (l : List ℕ). k ∷ l) there ∙ kept_behind k n x xs

dedup_from_more : (k n : ℕ) (xs : List ℕ) → dedup_from same k (xs ++ n ∷ []) ≡ with_line (dedup_from same k xs) n
dedup_from_more k n [] = one_number k n (same n k)
dedup_from_more k n (x ∷ xs) = one_behind k n x xs (same x k) (dedup_from_more k n xs) (dedup_from_more x n xs)

dedup_more : (n : ℕ) (xs : List ℕ) → dedup same (xs ++ n ∷ []) ≡ with_line (dedup same xs) n
dedup_more n [] = refl
dedup_more n (x ∷ xs) = dedup_from_more x n xs

line_by : (earlier : List ℕ) (o : AccessOutcome) (b : Bool) → dedup same (earlier ++ map (λ x. x.number) (cond b (o ∷ []) []))
    ≡ (if b then with_line (dedup same earlier) o.number else dedup same earlier)
line_by earlier o true = dedup_more o.number earlier
line_by earlier o false = ap (dedup same) (append-nil earlier)

lines_more : (is : AccessOutcome → Bool) (told : List AccessOutcome) (o : AccessOutcome) →
    lines_where is (told ++ o ∷ []) ≡ line_if (is o) (lines_where is told) o.number
lines_more is told o =
    ap (λ (l : List AccessOutcome). dedup same (map (λ x. x.number) l)) (filter-append is told (o ∷ []))
    ∙ ap (dedup same) (map-append (λ x. x.number) (filter is told) (filter is (o ∷ [])))
    ∙ line_by (map (λ x. x.number) (filter is told)) o (is o)

-- the lines before one more
front_by : (lines : List ℕ) (n : ℕ) (b : Bool) → take (length lines) (if b then lines else lines ++ n ∷ []) ≡ lines
front_by lines n true = take-length lines
front_by lines n false = take-append_seam lines (n ∷ [])

pub first_ones : (is : Bool) (lines : List ℕ) (n : ℕ) → take (length lines) (line_if is lines n) ≡ lines
first_ones true lines n = front_by lines n (is_it n (last_item lines))
first_ones false lines n = take-length lines

-- one access more
summed : (told : List AccessOutcome) (o : AccessOutcome) → with_outcome (counts_of told) o ≡ counts_of (told ++ o ∷ [])
summed told o = rw (
  many_more told o,
  counted_more is_granted told o,
  denied_more causes told o,
  counted_more (λ x. x.is_cached) told o,
  counted_more (λ x. x.is_stale) told o,
  lines_more (λ x. x.is_stale) told o,
  counted_more (λ x. x.is_unsettled) told o,
  lines_more (λ x. x.is_unsettled) told o,
) refl

-- the same in two steps
pub summed_by : (old mid new : Counts) (o : AccessOutcome) → mid ≡ with_own_lines old o →
    new ≡ record (with_outcome mid o) { stale_lines = mid.stale_lines; unsettled_lines = mid.unsettled_lines } →
    (told : List AccessOutcome) → old ≡ counts_of told → new ≡ counts_of (told ++ o ∷ [])
summed_by old mid new o mid_is new_is told is =
    new_is
    ∙ ap (λ (m : Counts). record (with_outcome m o) { stale_lines = m.stale_lines; unsettled_lines = m.unsettled_lines }) mid_is
    ∙ ap (λ (c : Counts). with_outcome c o) is ∙ summed told o
