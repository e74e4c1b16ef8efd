-- The lines of a text that grows.
use Rattle.std.proofs.Common.{◌≡◌, ◌==◌, ◌||◌, ◌+◌, zero, suc, ◌-◌, ◌^◌, ◌<◌, ◌≤◌, ◌++◌, ℕ, List, [], ◌∷◌, Bool, true, false, not, cond, nat_lt, Some, None, length, take, drop, get_or, ◌∙◌, sym, ap, subst, refl, arith, append_assoc, append-nil, length-append, length-drop, inl, inr}
use Rattle.std.specs.List.{slice_split, onto_first, list_any, position, position_or_len, prefix_len}
use Rattle.std.proofs.lemmas.List.{take_more, take_rest, take-append-drop, length-take}
use Rattle.std.proofs.Math.Seq.{take-add}
use Rattle.std.proofs.lemmas.Bool.{eqb-true, cases_lt, or_parts}
use Rattle.std.proofs.lemmas.List.Folds.{list_any-append}
use Rattle.std.proofs.lemmas.List.Quantifiers.{position-Some}
use Rattle.std.proofs.lemmas.List.Splits.{slice_split-cons_yes, slice_split-cons_no}
use Rattle.iom_reader.specs.Lines.{all_but_last, last_of, ended_in, open_in, ended_lines, open_line}

-- a byte at the end of the last part
abbrev grown : ℕ → List ℕ → List (List ℕ) → List (List ℕ)
grown byte first [] = (first ++ byte ∷ []) ∷ []
grown byte first (second ∷ rest) = first ∷ grown byte second rest

last_of-grown : (byte : ℕ) (before first : List ℕ) (rest : List (List ℕ)) →
    last_of before (grown byte first rest) ≡ last_of first rest ++ byte ∷ []
last_of-grown byte before first [] = refl
last_of-grown byte before first (second ∷ rest) = last_of-grown byte first second rest

all_but_last-grown : (byte : ℕ) (before first : List ℕ) (rest : List (List ℕ)) →
    all_but_last before (grown byte first rest) ≡ all_but_last before (first ∷ rest)
all_but_last-grown byte before first [] = refl
all_but_last-grown byte before first (second ∷ rest) = ap (λ l. before ∷ l) (all_but_last-grown byte first second rest)

open_in-grown : (byte : ℕ) (first : List ℕ) (rest : List (List ℕ)) → open_in (grown byte first rest) ≡ last_of first rest ++ byte ∷ []
open_in-grown byte first [] = refl
open_in-grown byte first (second ∷ rest) = last_of-grown byte first second rest

ended_in-grown : (byte : ℕ) (first : List ℕ) (rest : List (List ℕ)) → ended_in (grown byte first rest) ≡ all_but_last first rest
ended_in-grown byte first [] = refl
ended_in-grown byte first (second ∷ rest) = all_but_last-grown byte first second rest

onto_first-grown : (c byte : ℕ) (first : List ℕ) (rest : List (List ℕ)) → onto_first c (grown byte first rest) ≡ grown byte (c ∷ first) rest
onto_first-grown c byte first [] = refl
onto_first-grown c byte first (second ∷ rest) = refl

-- a further part that is empty
last_of-ended : (before : List ℕ) (rest : List (List ℕ)) → last_of before (rest ++ [] ∷ []) ≡ []
last_of-ended before [] = refl
last_of-ended before (first ∷ rest) = last_of-ended first rest

all_but_last-ended : (before : List ℕ) (rest : List (List ℕ)) →
    all_but_last before (rest ++ [] ∷ []) ≡ all_but_last before rest ++ last_of before rest ∷ []
all_but_last-ended before [] = refl
all_but_last-ended before (first ∷ rest) = ap (λ l. before ∷ l) (all_but_last-ended first rest)

-- the parts of a text, and of the text with one byte more
record Grows (text : List ℕ) (byte : ℕ) : Type 0 where
  first : List ℕ
  rest : List (List ℕ)
  before : slice_split (λ c. c == 10) text ≡ first ∷ rest
  after : slice_split (λ c. c == 10) (text ++ byte ∷ []) ≡ grown byte first rest

grows : (byte : ℕ) (text : List ℕ) → (byte == 10) ≡ false → Grows text byte
grows byte [] other = record { first = []; rest = []; before = refl; after = slice_split-cons_no (λ c. c == 10) byte [] other }
grows byte (c ∷ text) other =
    let more : Grows text byte = grows byte text other in
    let is : (b : Bool) → (c == 10) ≡ b → Grows (c ∷ text) byte = λ b. elim b as (λ v. (c == 10) ≡ v → Grows (c ∷ text) byte) [
      | true ↦ λ yes. record {
        first = [];
        rest = more.first ∷ more.rest;
        before = slice_split-cons_yes (λ c. c == 10) c text yes ∙ ap (λ l. [] ∷ l) more.before;
        after = slice_split-cons_yes (λ c. c == 10) c (text ++ byte ∷ []) yes ∙ ap (λ l. [] ∷ l) more.after;
      }
      | false ↦ λ inner. record {
        first = c ∷ more.first;
        rest = more.rest;
        before = slice_split-cons_no (λ c. c == 10) c text inner ∙ ap (onto_first c) more.before;
        after = slice_split-cons_no (λ c. c == 10) c (text ++ byte ∷ []) inner ∙ ap (onto_first c) more.after ∙ onto_first-grown c byte more.first more.rest;
      }
    ] in
    is (c == 10) refl

record EndsPart (text : List ℕ) (byte : ℕ) : Type 0 where
  first : List ℕ
  rest : List (List ℕ)
  before : slice_split (λ c. c == 10) text ≡ first ∷ rest
  after : slice_split (λ c. c == 10) (text ++ byte ∷ []) ≡ first ∷ (rest ++ [] ∷ [])

ends_part : (byte : ℕ) (text : List ℕ) → (byte == 10) ≡ true → EndsPart text byte
ends_part byte [] end = record { first = []; rest = []; before = refl; after = slice_split-cons_yes (λ c. c == 10) byte [] end }
ends_part byte (c ∷ text) end =
    let more : EndsPart text byte = ends_part byte text end in
    let is : (b : Bool) → (c == 10) ≡ b → EndsPart (c ∷ text) byte = λ b. elim b as (λ v. (c == 10) ≡ v → EndsPart (c ∷ text) byte) [
      | true ↦ λ yes. record {
        first = [];
        rest = more.first ∷ more.rest;
        before = slice_split-cons_yes (λ c. c == 10) c text yes ∙ ap (λ l. [] ∷ l) more.before;
        after = slice_split-cons_yes (λ c. c == 10) c (text ++ byte ∷ []) yes ∙ ap (λ l. [] ∷ l) more.after;
      }
      | false ↦ λ other. record {
        first = c ∷ more.first;
        rest = more.rest;
        before = slice_split-cons_no (λ c. c == 10) c text other ∙ ap (onto_first c) more.before;
        after = slice_split-cons_no (λ c. c == 10) c (text ++ byte ∷ []) other ∙ ap (onto_first c) more.after;
      }
    ] in
    is (c == 10) refl

-- another byte than a line end: the open line grows
pub ended_lines-grown : (byte : ℕ) (text : List ℕ) → (byte == 10) ≡ false → ended_lines (text ++ byte ∷ []) ≡ ended_lines text
ended_lines-grown byte text other =
    let g : Grows text byte = grows byte text other in
    ap ended_in g.after ∙ ended_in-grown byte g.first g.rest ∙ sym (ap ended_in g.before)

pub open_line-grown : (byte : ℕ) (text : List ℕ) → (byte == 10) ≡ false → open_line (text ++ byte ∷ []) ≡ open_line text ++ byte ∷ []
open_line-grown byte text other =
    let g : Grows text byte = grows byte text other in
    ap open_in g.after ∙ open_in-grown byte g.first g.rest ∙ sym (ap (λ l. open_in l ++ byte ∷ []) g.before)

-- a line end: the open line has its end
pub ended_lines-ended : (byte : ℕ) (text : List ℕ) → (byte == 10) ≡ true →
    ended_lines (text ++ byte ∷ []) ≡ ended_lines text ++ open_line text ∷ []
ended_lines-ended byte text end =
    let g : EndsPart text byte = ends_part byte text end in
    ap ended_in g.after ∙ all_but_last-ended g.first g.rest ∙ sym (ap (λ l. ended_in l ++ open_in l ∷ []) g.before)

pub open_line-ended : (byte : ℕ) (text : List ℕ) → (byte == 10) ≡ true → open_line (text ++ byte ∷ []) ≡ []
open_line-ended byte text end =
    let g : EndsPart text byte = ends_part byte text end in
    ap open_in g.after ∙ last_of-ended g.first g.rest

-- a part without a line end
pub ended_lines-part : (part text : List ℕ) → list_any (λ c. c == 10) part ≡ false → ended_lines (text ++ part) ≡ ended_lines text
ended_lines-part [] text none = ap ended_lines (append-nil text)
ended_lines-part (byte ∷ part) text none =
    let both : ((byte == 10) ≡ false) × (list_any (λ c. c == 10) part ≡ false) = or_parts (byte == 10) (list_any (λ c. c == 10) part) none in
    ap ended_lines (sym (append_assoc text (byte ∷ []) part)) ∙ ended_lines-part part (text ++ byte ∷ []) both.1
    ∙ ended_lines-grown byte text both.0

pub open_line-part : (part text : List ℕ) → list_any (λ c. c == 10) part ≡ false → open_line (text ++ part) ≡ open_line text ++ part
open_line-part [] text none = ap open_line (append-nil text) ∙ sym (append-nil (open_line text))
open_line-part (byte ∷ part) text none =
    let both : ((byte == 10) ≡ false) × (list_any (λ c. c == 10) part ≡ false) = or_parts (byte == 10) (list_any (λ c. c == 10) part) none in
    ap open_line (sym (append_assoc text (byte ∷ []) part)) ∙ open_line-part part (text ++ byte ∷ []) both.1
    ∙ ap (λ l. l ++ part) (open_line-grown byte text both.0) ∙ append_assoc (open_line text) (byte ∷ []) part

pub ended_lines-line : (part text : List ℕ) → list_any (λ c. c == 10) part ≡ false →
    ended_lines (text ++ (part ++ 10 ∷ [])) ≡ ended_lines text ++ (open_line text ++ part) ∷ []
ended_lines-line part text none =
    ap ended_lines (sym (append_assoc text part (10 ∷ []))) ∙ ended_lines-ended 10 (text ++ part) refl
    ∙ ap (λ l. l ++ open_line (text ++ part) ∷ []) (ended_lines-part part text none)
    ∙ ap (λ l. ended_lines text ++ l ∷ []) (open_line-part part text none)

pub open_line-line : (part text : List ℕ) → open_line (text ++ (part ++ 10 ∷ [])) ≡ []
open_line-line part text = ap open_line (sym (append_assoc text part (10 ∷ []))) ∙ open_line-ended 10 (text ++ part) refl

-- no part of a text has a line end, so the open line has none
abbrev pub HaveNoEnd : List (List ℕ) → Type 0
HaveNoEnd [] = Unit {0}
HaveNoEnd (part ∷ parts) = (list_any (λ c. c == 10) part ≡ false) × HaveNoEnd parts

onto_first-none : (c : ℕ) (parts : List (List ℕ)) → (c == 10) ≡ false → HaveNoEnd parts → HaveNoEnd (onto_first c parts)
onto_first-none c [] other none = (rw other refl, tt)
onto_first-none c (part ∷ parts) other none = (rw (other, none.0) refl, none.1)

pub parts_none : (text : List ℕ) → HaveNoEnd (slice_split (λ c. c == 10) text)
parts_none [] = (refl, tt)
parts_none (c ∷ text) =
    let is : (b : Bool) → (c == 10) ≡ b → HaveNoEnd (slice_split (λ c. c == 10) (c ∷ text)) =
    λ b. elim b as (λ v. (c == 10) ≡ v → HaveNoEnd (slice_split (λ c. c == 10) (c ∷ text))) [
      | true ↦ λ yes. subst HaveNoEnd (sym (slice_split-cons_yes (λ c. c == 10) c text yes)) (refl, parts_none text)
      | false ↦ λ other. subst HaveNoEnd (sym (slice_split-cons_no (λ c. c == 10) c text other)) (onto_first-none c _ other (parts_none text))
    ] in
    is (c == 10) refl

last_none : (first : List ℕ) (rest : List (List ℕ)) → list_any (λ c. c == 10) first ≡ false → HaveNoEnd rest →
    list_any (λ c. c == 10) (last_of first rest) ≡ false
last_none first [] none all = none
last_none first (second ∷ rest) none all = last_none second rest all.0 all.1

pub open_none : (parts : List (List ℕ)) → HaveNoEnd parts → list_any (λ c. c == 10) (open_in parts) ≡ false
open_none [] none = refl
open_none (first ∷ rest) none = last_none first rest none.0 none.1

no_end-take : (n : ℕ) (text : List ℕ) → list_any (λ c. c == 10) text ≡ false → list_any (λ c. c == 10) (take n text) ≡ false
no_end-take n text none =
    (or_parts (list_any (λ c. c == 10) (take n text)) (list_any (λ c. c == 10) (drop n text))
    (sym (list_any-append (λ c. c == 10) (take n text) (drop n text)) ∙ ap (list_any (λ c. c == 10)) (take-append-drop n text) ∙ none)).0

-- neither has what is kept of it
pub open_line-kept : (kept text : List ℕ) → kept ≡ take 513 (open_line text) → list_any (λ c. c == 10) kept ≡ false
open_line-kept kept text keeps = rw keeps (no_end-take 513 (open_line text) (open_none (slice_split (λ c. c == 10) text) (parts_none text)))

-- nor with a part behind it
pub line-kept : (kept text part : List ℕ) → kept ≡ take 513 (open_line text ++ part) → list_any (λ c. c == 10) part ≡ false →
    list_any (λ c. c == 10) kept ≡ false
line-kept kept text part keeps none =
    rw keeps (no_end-take 513 (open_line text ++ part)
    (list_any-append (λ c. c == 10) (open_line text) part
    ∙ rw (open_none (slice_split (λ c. c == 10) text) (parts_none text), none) refl))

-- where the first line end stands
none_before : (text : List ℕ) (at : ℕ) → ((k : ℕ) → k < at → (get_or text k 0 == 10) ≡ false) → at < length text →
    list_any (λ c. c == 10) (take at text) ≡ false
none_before text zero before inside = refl
none_before [] (suc at) before inside = refl
none_before (byte ∷ text) (suc at) before inside =
    let first : (byte == 10) ≡ false = before 0 (omega arith) in
    let rest : list_any (λ c. c == 10) (take at text) ≡ false = none_before text at (λ k below. before (suc k) (omega arith)) (omega arith) in
    rw (first, rest) refl

never_by : (byte : ℕ) (text : List ℕ) (is : Bool) → (byte == 10) ≡ is →
    (length text ≤ prefix_len (λ c. not (c == 10)) text → list_any (λ c. c == 10) text ≡ false) →
    suc (length text) ≤ cond (not is) (1 + prefix_len (λ c. not (c == 10)) text) 0 → is || list_any (λ c. c == 10) text ≡ false
never_by byte text true e rest all = absurd (omega arith)
never_by byte text false e rest all = rest (omega arith)

never : (text : List ℕ) → length text ≤ prefix_len (λ c. not (c == 10)) text → list_any (λ c. c == 10) text ≡ false
never [] all = refl
never (byte ∷ text) all = never_by byte text (byte == 10) refl (never text) all

pub none_at : (text : List ℕ) → position (λ c. c == 10) text ≡ None → list_any (λ c. c == 10) text ≡ false
none_at text is =
    elim (cases_lt (position_or_len (λ c. c == 10) text) (length text)) as (λ _. list_any (λ c. c == 10) text ≡ false) [
      | inl less ↦
          let found : nat_lt (position_or_len (λ c. c == 10) text) (length text) ≡ true = grind arith in
          absurd (cc (ap (λ b. cond b (Some (position_or_len (λ c. c == 10) text)) None) found, is))
      | inr past ↦ never text past
    ]

pub record EndsAt (text : List ℕ) (at : ℕ) : Type 0 where
  pub inside : at < length text
  pub before : list_any (λ c. c == 10) (take at text) ≡ false
  pub front : take (at + 1) text ≡ take at text ++ 10 ∷ []

pub ends_at : (text : List ℕ) (at : ℕ) → position (λ c. c == 10) text ≡ Some at → EndsAt text at
ends_at text at is =
    let all : (at < length text) × ((get_or text at 0 == 10) ≡ true) × ((k : ℕ) → k < at → (get_or text k 0 == 10) ≡ false) =
    position-Some (λ c. c == 10) text at 0 is in
    record {
      inside = all.0;
      before = none_before text at all.2 all.0;
      front = take_more text at 0 all.0 ∙ ap (λ c. take at text ++ c ∷ []) (eqb-true (get_or text at 0) 10 all.1);
    }

-- the line that ends at `at` behind the first `from` bytes of a piece
pub record Cut (piece : List ℕ) (from at : ℕ) : Type 0 where
  pub none : list_any (λ c. c == 10) (take (from + at - from) (drop from piece)) ≡ false
  pub front : take (from + (at + 1)) piece ≡ take from piece ++ (take (from + at - from) (drop from piece) ++ 10 ∷ [])
  pub whole : piece ≡ take from piece ++ ((take (from + at - from) (drop from piece) ++ 10 ∷ []) ++ drop (from + (at + 1)) piece)
  pub inside : from + (at + 1) ≤ length piece
  pub fits : from + length (take (from + at - from) (drop from piece)) < length piece

pub cut_at : (piece : List ℕ) (from at : ℕ) → from ≤ length piece → position (λ c. c == 10) (drop from piece) ≡ Some at → Cut piece from at
cut_at piece from at within found =
    let ends : EndsAt (drop from piece) at = ends_at (drop from piece) at found in
    let inside : from + (at + 1) ≤ length piece = omega (arith, ends.inside, length-drop from piece) in
    let exact : from + at - from ≡ at = omega arith in
    let same : take at (drop from piece) ≡ take (from + at - from) (drop from piece) = ap (λ n. take n (drop from piece)) (sym exact) in
    let front : take (from + (at + 1)) piece ≡ take from piece ++ (take (from + at - from) (drop from piece) ++ 10 ∷ []) =
    take-add from (at + 1) piece ∙ ap (λ l. take from piece ++ l) ends.front ∙ ap (λ l. take from piece ++ (l ++ 10 ∷ [])) same in
    record {
      none = subst (λ l. list_any (λ c. c == 10) l ≡ false) same ends.before;
      front = front;
      whole = sym (take-append-drop (from + (at + 1)) piece) ∙ ap (λ l. l ++ drop (from + (at + 1)) piece) front
          ∙ append_assoc (take from piece) (take (from + at - from) (drop from piece) ++ 10 ∷ []) (drop (from + (at + 1)) piece);
      inside = inside;
      fits = omega (arith, inside, ap length same, length-take at (drop from piece));
    }

-- the same as a loop over the lines finds it
pub cut_found : (piece : List ℕ) (from at : ℕ) → from ≤ length piece →
    Some at ≡ position (λ c. c == 10) (take (length piece - from) (drop from piece)) → Cut piece from at
cut_found piece from at within found = cut_at piece from at within (rw take_rest at (sym found))

pub cut_some : (piece : List ℕ) (from at : ℕ) → Cut piece from at → 0 < length (drop from piece)
cut_some piece from at cut = omega (arith, cut.inside, length-drop from piece)

pub cut_room : (text piece : List ℕ) (from at : ℕ) → Cut piece from at → length text + length piece ≤ 2 ^ 26 →
    length (text ++ take from piece) + length (take (from + at - from) (drop from piece)) < 2 ^ 26
cut_room text piece from at cut short = omega (arith, length-append text (take from piece), length-take from piece, cut.fits)
