-- What a feeder keeps true.
use Rattle.std.proofs.Common.{◌≡◌, ◌==◌, ◌+◌, ◌-◌, ◌^◌, ◌<◌, ◌≤◌, ◌⊎◌, ◌++◌, ℕ, List, [], ◌∷◌, length, take, drop, true, false, Option, Result, Ok, Err, IfErr, OnOk, OnErr, IsOk, ◌↔◌, min, sym, ◌∙◌, ap, subst, refl, inl, inr, lit<, lit≤, arith, append_assoc, append-nil, length-append, length-drop}
use Rattle.std.specs.List.{list_any}
use Rattle.std.specs.Io.KnownBytes.{Appends, Keeps}
use Rattle.std.proofs.KnownBytes.{Appends-trans}
use Rattle.std.proofs.lemmas.Bool.{cases_lt, eqb-true}
use Rattle.std.proofs.lemmas.List.{take_all, take_rest, take-append-drop, take-append-le, length-take, nil_from_length}
use Rattle.std.proofs.Math.Seq.{take-append-add}
use Rattle.iom_reader.specs.Lines.{ended_lines, open_line, last_line, lines_of}
use Rattle.iom_reader.specs.Answering.{Progress, progress, Answering, IsAnswering, AnswersNext}
use Rattle.iom_reader.specs.Running.{IsWithinLimits, WritesFront, Fed, IsAtLimit, EndsInPiece, FailsInPiece, LinesDone, AfterPiece, AfterLines, AfterEnd}
use Rattle.iom_reader.specs.declared.fault.RunFault.{RunFault}
use Rattle.iom_reader.specs.declared.fault.RunFault.TheVariants as fault
use Rattle.iom_reader.proofs.Splits.{ended_lines-part, open_line-part, ended_lines-line, open_line-line}

-- some front of a text stands written, and `rest` is left of it
pub record Wrote (old new : Option (List ℕ)) (text rest : List ℕ) : Type 0 where
  pub front : List ℕ
  pub whole : front ++ rest ≡ text
  pub written : Appends old new front

pub wrote_more : (a b c : Option (List ℕ)) (text rest : List ℕ) (count : ℕ) → Wrote a b text rest → Appends b c (take count rest) →
    Wrote a c text (take (length rest - count) (drop count rest))
wrote_more a b c text rest count h more = record {
  front = h.front ++ take count rest;
  whole =
      ap (λ l. (h.front ++ take count rest) ++ l) (take_rest rest count)
      ∙ append_assoc h.front (take count rest) (drop count rest)
      ∙ ap (λ l. h.front ++ l) (take-append-drop count rest) ∙ h.whole;
  written = Appends-trans a b c h.front (take count rest) h.written more;
}

pub front_more : (a b c : Option (List ℕ)) (text : List ℕ) (count : ℕ) (result : Result (Unit {0}) RunFault) → Appends a b (take count text) →
    OnErr result (WritesFront b c (take (length text - count) (drop count text))) → OnErr result (WritesFront a c text)
front_more a b c text count (Ok done) first more = tt
front_more a b c text count (Err f) first more = record {
  front = take count text ++ more.front;
  rest = more.rest;
  whole =
      append_assoc (take count text) more.front more.rest
      ∙ ap (λ l. take count text ++ l) (more.whole ∙ take_rest text count) ∙ take-append-drop count text;
  missing = more.missing;
  written = Appends-trans a b c (take count text) more.front first more.written;
}

pub begins : (how : Answering) → IsAnswering how → (p : Progress how.State) → Fed how p p [] 0 0 []
begins how law p = record {
  answered = law.none p;
  keeps = refl;
  counts_lines = refl;
  counts_bytes = refl;
  within = record { bytes = lit≤ tt; lines = lit≤ tt };
}

-- what is said of a line is said of it as a whole, or of its first 513 bytes
abbrev pub Says : List ℕ → List ℕ → Type 0
Says said line = (said ≡ line) ⊎ (said ≡ take 513 line)

pub one_more : (how : Answering) → IsAnswering how → (start now new : Progress how.State) (lines : List (List ℕ)) (said line : List ℕ) →
    Says said line → how.whole start now lines → AnswersNext how said now new (Ok tt) → how.whole start new (lines ++ line ∷ [])
one_more how law start now new lines said line (inl is) h next =
    subst (λ l. how.whole start new (lines ++ l ∷ [])) is (next start lines h)
one_more how law start now new lines said line (inr is) h next =
    law.cut start new lines line (subst (λ l. how.whole start new (lines ++ l ∷ [])) is (next start lines h))

pub one_fails : (how : Answering) → IsAnswering how → (start now new : Progress how.State) (lines : List (List ℕ)) (said line : List ℕ) (f : RunFault) →
    Says said line → how.whole start now lines → AnswersNext how said now new (Err f) → how.half start new (lines ++ line ∷ [])
one_fails how law start now new lines said line f (inl is) h next =
    subst (λ l. how.half start new (lines ++ l ∷ [])) is (next start lines h)
one_fails how law start now new lines said line f (inr is) h next =
    law.half_cut start new lines line (subst (λ l. how.half start new (lines ++ l ∷ [])) is (next start lines h))

last_line-le : (line : List ℕ) → length (last_line line) ≤ 1
last_line-le [] = lit≤ tt
last_line-le (byte ∷ line) = lit≤ tt

-- what is kept of a line that grows
take-append-take : (room : ℕ) (line part : List ℕ) → take room (take room line ++ part) ≡ take room (line ++ part)
take-append-take room line part =
    elim (cases_lt room (length line)) as (λ _. take room (take room line ++ part) ≡ take room (line ++ part)) [
      | inl less ↦
          let long : room ≤ length (take room line) = omega (arith, length-take room line) in
          take-append-le room (take room line) part long ∙ take_all room (take room line) (omega (arith, length-take room line))
          ∙ sym (take-append-le room line part (omega arith))
      | inr short ↦ ap (λ l. take room (l ++ part)) (take_all room line short)
    ]

pub kept_grows : (kept line part more : List ℕ) → kept ≡ take 513 line → more ≡ take 513 (kept ++ part) → more ≡ take 513 (line ++ part)
kept_grows kept line part more keeps is = is ∙ ap (λ k. take 513 (k ++ part)) keeps ∙ take-append-take 513 line part

some_kept : (kept part : List ℕ) (room count : ℕ) → room + length kept ≡ 513 → count ≡ min (length part) room →
    kept ++ take count part ≡ take 513 (kept ++ part)
some_kept kept part room count space is =
    let all : 513 ≡ length kept + room = omega arith in
    let front : take 513 (kept ++ part) ≡ kept ++ take room part = ap (λ n. take n (kept ++ part)) all ∙ take-append-add kept part room in
    elim (cases_lt room (length part)) as (λ _. kept ++ take count part ≡ take 513 (kept ++ part)) [
      | inl less ↦
          let exact : count ≡ room = omega arith in
          ap (λ n. kept ++ take n part) exact ∙ sym front
      | inr short ↦
          let exact : count ≡ length part = omega arith in
          ap (λ l. kept ++ l) (ap (λ n. take n part) exact ∙ take_all (length part) part (omega arith) ∙ sym (take_all room part short)) ∙ sym front
    ]

-- what is kept where a vector of 513 places takes what fits
pub kept_part : (kept part now : List ℕ) (room count : ℕ) {E : Type 0} (result : Result (Unit {0}) E) → room + length kept ≡ 513 →
    count ≡ min (length part) room → (IsOk result ↔ (length kept + length (take count part) ≤ 513)) →
    OnOk result (now ≡ kept ++ take count part) → now ≡ take 513 (kept ++ part)
kept_part kept part now room count (Ok done) space is variant wrote =
    wrote ∙ some_kept kept part room count space is
kept_part kept part now room count (Err e) space is variant wrote =
    let fits : length kept + length (take count part) ≤ 513 = omega (arith, length-take count part) in
    absurd (cc (variant.1 fits))

pub none_kept : (kept : List ℕ) → true ≡ (length kept == 0) → (length kept ≡ 0) × (kept ≡ [])
none_kept kept is =
    let zero : length kept ≡ 0 = eqb-true (length kept) 0 (sym is) in
    (zero, nil_from_length kept zero)

-- where nothing is kept the line is not begun
pub unbegun : (kept line : List ℕ) → kept ≡ take 513 line → length kept ≡ 0 → line ≡ []
unbegun kept line keeps none = nil_from_length line (omega (arith, ap length keeps, length-take 513 line))

part_within : (how : Answering) (start now : Progress how.State) (kept : List ℕ) (lines : ℕ) (text part : List ℕ) → Fed how start now kept lines (length text) text →
    list_any (λ c. c == 10) part ≡ false → (0 < length part → lines < 2 ^ 20) → length (lines_of (text ++ part)) ≤ 2 ^ 20
part_within how start now kept lines text [] h none few = subst (λ t. length (lines_of t) ≤ 2 ^ 20) (sym (append-nil text)) h.within.lines
part_within how start now kept lines text (byte ∷ part) h none few =
    omega (
      arith,
      few (omega arith),
      length-append (ended_lines (text ++ byte ∷ part)) (last_line (open_line (text ++ byte ∷ part))),
      last_line-le (open_line (text ++ byte ∷ part)),
      ap length (ended_lines-part (byte ∷ part) text none),
      h.counts_lines,
    )

-- a part that ends no line
pub part_kept : (how : Answering) (start now : Progress how.State) (kept more : List ℕ) (lines : ℕ) (text part : List ℕ) → Fed how start now kept lines (length text) text →
    list_any (λ c. c == 10) part ≡ false → length text + length part ≤ 2 ^ 26 → (0 < length part → lines < 2 ^ 20) →
    more ≡ take 513 (kept ++ part) → Fed how start now more lines (length (text ++ part)) (text ++ part)
part_kept how start now kept more lines text part h none short few is =
    let ended : ended_lines (text ++ part) ≡ ended_lines text = ended_lines-part part text none in
    let grown : open_line (text ++ part) ≡ open_line text ++ part = open_line-part part text none in
    record {
      answered = subst (how.whole start now) (sym ended) h.answered;
      keeps = kept_grows kept (open_line text) part more h.keeps is ∙ ap (take 513) (sym grown);
      counts_lines = h.counts_lines ∙ ap length (sym ended);
      counts_bytes = refl;
      within = record {
        bytes = omega (arith, length-append text part);
        lines = part_within how start now kept lines text part h none few;
      };
    }

-- a line that has its end
line_within : (how : Answering) (start now : Progress how.State) (kept : List ℕ) (lines : ℕ) (text part : List ℕ) → Fed how start now kept lines (length text) text →
    list_any (λ c. c == 10) part ≡ false → length text + length part < 2 ^ 26 → lines < 2 ^ 20 → IsWithinLimits (text ++ (part ++ 10 ∷ []))
line_within how start now kept lines text part h none short few =
    let ended : ended_lines (text ++ (part ++ 10 ∷ [])) ≡ ended_lines text ++ (open_line text ++ part) ∷ [] = ended_lines-line part text none in
    let all : lines_of (text ++ (part ++ 10 ∷ [])) ≡ ended_lines (text ++ (part ++ 10 ∷ [])) =
    ap (λ l. ended_lines (text ++ (part ++ 10 ∷ [])) ++ last_line l) (open_line-line part text)
    ∙ append-nil (ended_lines (text ++ (part ++ 10 ∷ []))) in
    record {
      bytes = omega (arith, length-append text (part ++ 10 ∷ []), length-append part (10 ∷ []));
      lines = omega (arith, ap length all, ap length ended, length-append (ended_lines text) ((open_line text ++ part) ∷ []), h.counts_lines);
    }

pub line_ends : (how : Answering) → IsAnswering how → (start now new : Progress how.State) (kept said : List ℕ) (lines : ℕ) (text part : List ℕ) →
    Fed how start now kept lines (length text) text → list_any (λ c. c == 10) part ≡ false → length text + length part < 2 ^ 26 → lines < 2 ^ 20 →
    Says said (open_line text ++ part) → AnswersNext how said now new (Ok tt) →
    Fed how start new [] (lines + 1) (length (text ++ (part ++ 10 ∷ []))) (text ++ (part ++ 10 ∷ []))
line_ends how law start now new kept said lines text part h none short few says next =
    let line : List ℕ = open_line text ++ part in
    let more : how.whole start new (ended_lines text ++ line ∷ []) =
    one_more how law start now new (ended_lines text) said line says h.answered next in
    let ended : ended_lines (text ++ (part ++ 10 ∷ [])) ≡ ended_lines text ++ line ∷ [] = ended_lines-line part text none in
    record {
      answered = subst (how.whole start new) (sym ended) more;
      keeps = ap (take 513) (sym (open_line-line part text));
      counts_lines = omega (arith, ap length ended, length-append (ended_lines text) (line ∷ []), h.counts_lines);
      counts_bytes = refl;
      within = line_within how start now kept lines text part h none short few;
    }

-- its answer may fail to be written
pub line_fails : (how : Answering) → IsAnswering how → (start now new : Progress how.State) (kept said : List ℕ) (lines : ℕ) (text part : List ℕ) (f : RunFault) →
    Fed how start now kept lines (length text) text → list_any (λ c. c == 10) part ≡ false → length text + length part < 2 ^ 26 → lines < 2 ^ 20 →
    Says said (open_line text ++ part) → AnswersNext how said now new (Err f) → FailsInPiece how start new text (part ++ 10 ∷ [])
line_fails how law start now new kept said lines text part f h none short few says next =
    let line : List ℕ = open_line text ++ part in
    let half : how.half start new (ended_lines text ++ line ∷ []) =
    one_fails how law start now new (ended_lines text) said line f says h.answered next in
    record {
      taken = part ++ 10 ∷ [];
      left = [];
      split = sym (append-nil (part ++ 10 ∷ []));
      within = line_within how start now kept lines text part h none short few;
      answered = subst (how.half start new) (sym (ended_lines-line part text none)) half;
    }

-- a byte too much
pub too_many : (how : Answering) (start now : Progress how.State) (kept : List ℕ) (lines bytes : ℕ) (text piece : List ℕ) → Fed how start now kept lines bytes text →
    0 < length piece → IsAtLimit text → EndsInPiece how start now text piece
too_many how start now kept lines bytes text [] h some limit = absurd (omega arith)
too_many how start now kept lines bytes text (byte ∷ piece) h some limit =
    let same : text ++ [] ≡ text = append-nil text in
    record {
      taken = [];
      byte = byte;
      left = piece;
      split = refl;
      within = subst IsWithinLimits (sym same) h.within;
      limit = subst IsAtLimit (sym same) limit;
      answered = subst (λ t. how.whole start now (ended_lines t)) (sym same) h.answered;
    }

pub all_lines : (how : Answering) (start now : Progress how.State) (kept : List ℕ) (lines bytes : ℕ) (text : List ℕ) → Fed how start now kept lines bytes text → 2 ^ 20 ≤ lines →
    IsAtLimit text
all_lines how start now kept lines bytes text h many =
    inr (omega (arith, h.counts_lines, h.within.lines, length-append (ended_lines text) (last_line (open_line text))))

-- the end of the input
begun_line : (kept line : List ℕ) → kept ≡ take 513 line → false ≡ (length kept == 0) → last_line line ≡ line ∷ []
begun_line [] line keeps some = absurd (cc some)
begun_line (first ∷ kept) [] keeps some = absurd (cc keeps)
begun_line (first ∷ kept) (byte ∷ line) keeps some = refl

-- a last line is what is kept, where that has a byte
pub end_fails : (how : Answering) → IsAnswering how → (start now new : Progress how.State) (kept : List ℕ) (lines bytes : ℕ) (text : List ℕ) (f : RunFault) →
    Fed how start now kept lines bytes text → false ≡ (length kept == 0) → AnswersNext how kept now new (Err f) → how.half start new (lines_of text)
end_fails how law start now new kept lines bytes text f h some next =
    subst (λ l. how.half start new (ended_lines text ++ l)) (sym (begun_line kept (open_line text) h.keeps some))
    (one_fails how law start now new (ended_lines text) kept (open_line text) f (inr h.keeps) h.answered next)

pub end_answered : (how : Answering) → IsAnswering how → (start now new : Progress how.State) (kept : List ℕ) (lines bytes : ℕ) (text : List ℕ) →
    Fed how start now kept lines bytes text → false ≡ (length kept == 0) → AnswersNext how kept now new (Ok tt) → how.whole start new (lines_of text)
end_answered how law start now new kept lines bytes text h some next =
    subst (λ l. how.whole start new (ended_lines text ++ l)) (sym (begun_line kept (open_line text) h.keeps some))
    (one_more how law start now new (ended_lines text) kept (open_line text) (inr h.keeps) h.answered next)

no_line : (kept line : List ℕ) → kept ≡ take 513 line → kept ≡ [] → last_line line ≡ []
no_line kept [] keeps none = refl
no_line kept (byte ∷ line) keeps none = absurd (cc (keeps, none))

pub end_is_last : (how : Answering) (start now : Progress how.State) (kept : List ℕ) (lines bytes : ℕ) (text : List ℕ) → Fed how start now kept lines bytes text →
    kept ≡ [] → how.whole start now (lines_of text)
end_is_last how start now kept lines bytes text h none =
    subst (λ l. how.whole start now (ended_lines text ++ l)) (sym (no_line kept (open_line text) h.keeps none))
    (subst (how.whole start now) (sym (append-nil (ended_lines text))) h.answered)

pub flushed : (how : Answering) → IsAnswering how → (start now : Progress how.State) (text : List ℕ) (written : Option (List ℕ)) (result : Result (Unit {0}) RunFault) →
    how.whole start now (lines_of text) → Keeps now.written written → IfErr result (λ f. f ≡ fault.Write) →
    AfterEnd how start (progress written now.console) text result
flushed how law start now text written (Ok done) h kept is = law.flushed start now written (lines_of text) h kept
flushed how law start now text written (Err fault.Read) h kept is = absurd (cc is)
flushed how law start now text written (Err fault.Write) h kept is = inr (law.flushed start now written (lines_of text) h kept)
flushed how law start now text written (Err fault.TooLong) h kept is = absurd (cc is)

-- the answer to a line is written, or some front of it
pub line_answered : (how : Answering) → IsAnswering how → (start now new : Progress how.State) (kept said after : List ℕ) (lines : ℕ) (text part : List ℕ)
    (result : Result (Unit {0}) RunFault) →
    Fed how start now kept lines (length text) text → list_any (λ c. c == 10) part ≡ false → length text + length part < 2 ^ 26 → lines < 2 ^ 20 →
    Says said (open_line text ++ part) → AnswersNext how said now new result → IfErr result (λ f. f ≡ fault.Write) → after ≡ [] →
    AfterPiece how start new after (lines + 1) (length (text ++ (part ++ 10 ∷ []))) text (part ++ 10 ∷ []) result
line_answered how law start now new kept said after lines text part (Ok done) h none short few says next is empty =
    rw empty (line_ends how law start now new kept said lines text part h none short few says next)
line_answered how law start now new kept said after lines text part (Err fault.Read) h none short few says next is empty = absurd (cc is)
line_answered how law start now new kept said after lines text part (Err fault.Write) h none short few says next is empty =
    line_fails how law start now new kept said lines text part fault.Write h none short few says next
line_answered how law start now new kept said after lines text part (Err fault.TooLong) h none short few says next is empty = absurd (cc is)

-- a fault in a part of a piece that stands after `before`
fails_within : (how : Answering) (start now : Progress how.State) (text text' piece before middle left : List ℕ) → text' ≡ text ++ before → piece ≡ before ++ (middle ++ left) →
    FailsInPiece how start now text' middle → FailsInPiece how start now text piece
fails_within how start now text text' piece before middle left more split h =
    let same : text' ++ h.taken ≡ text ++ (before ++ h.taken) = ap (λ t. t ++ h.taken) more ∙ append_assoc text before h.taken in
    record {
      taken = before ++ h.taken;
      left = h.left ++ left;
      split = split ∙ ap (λ l. before ++ (l ++ left)) h.split ∙ ap (λ l. before ++ l) (append_assoc h.taken h.left left)
          ∙ sym (append_assoc before h.taken (h.left ++ left));
      within = subst IsWithinLimits same h.within;
      answered = subst (λ t. how.half start now (ended_lines t)) same h.answered;
    }

pub ends_within : (how : Answering) (start now : Progress how.State) (text text' piece before middle left : List ℕ) → text' ≡ text ++ before → piece ≡ before ++ (middle ++ left) →
    EndsInPiece how start now text' middle → EndsInPiece how start now text piece
ends_within how start now text text' piece before middle left more split h =
    let same : text' ++ h.taken ≡ text ++ (before ++ h.taken) = ap (λ t. t ++ h.taken) more ∙ append_assoc text before h.taken in
    record {
      taken = before ++ h.taken;
      byte = h.byte;
      left = h.left ++ left;
      split = split ∙ ap (λ l. before ++ (l ++ left)) h.split ∙ ap (λ l. before ++ l) (append_assoc h.taken (h.byte ∷ h.left) left)
          ∙ sym (append_assoc before h.taken (h.byte ∷ (h.left ++ left)));
      within = subst IsWithinLimits same h.within;
      limit = subst IsAtLimit same h.limit;
      answered = subst (λ t. how.whole start now (ended_lines t)) same h.answered;
    }

pub fault_of_line : (how : Answering) (start now : Progress how.State) (kept kept' : List ℕ) (lines lines' bytes : ℕ) (text piece before middle left : List ℕ) (f : RunFault) →
    piece ≡ before ++ (middle ++ left) → AfterPiece how start now kept lines bytes (text ++ before) middle (Err f) →
    AfterLines how start now kept' lines' text piece (Err f)
fault_of_line how start now kept kept' lines lines' bytes text piece before middle left fault.Read split h = h
fault_of_line how start now kept kept' lines lines' bytes text piece before middle left fault.Write split h =
    fails_within how start now text (text ++ before) piece before middle left refl split h
fault_of_line how start now kept kept' lines lines' bytes text piece before middle left fault.TooLong split h =
    ends_within how start now text (text ++ before) piece before middle left refl split h

pub fault_of_lines : (how : Answering) (start now : Progress how.State) (kept kept' : List ℕ) (lines lines' bytes : ℕ) (text piece front left : List ℕ) (f : RunFault) →
    piece ≡ front ++ left → AfterLines how start now kept lines text front (Err f) → AfterPiece how start now kept' lines' bytes text piece (Err f)
fault_of_lines how start now kept kept' lines lines' bytes text piece front left fault.Read split h = h
fault_of_lines how start now kept kept' lines lines' bytes text piece front left fault.Write split h =
    fails_within how start now text text piece [] front left (sym (append-nil text)) split h
fault_of_lines how start now kept kept' lines lines' bytes text piece front left fault.TooLong split h =
    ends_within how start now text text piece [] front left (sym (append-nil text)) split h

-- a further line is done
pub more_done : (how : Answering) (start now : Progress how.State) (kept : List ℕ) (lines : ℕ) (text before middle front : List ℕ) → front ≡ before ++ middle →
    Fed how start now kept lines (length ((text ++ before) ++ middle)) ((text ++ before) ++ middle) →
    Fed how start now kept lines (length (text ++ front)) (text ++ front)
more_done how start now kept lines text before middle front split h =
    let same : (text ++ before) ++ middle ≡ text ++ front = append_assoc text before middle ∙ ap (λ l. text ++ l) (sym split) in
    subst (λ t. Fed how start now kept lines (length t) t) same h

-- the bytes counted are those of the text
pub counted : (how : Answering) (start now : Progress how.State) (kept : List ℕ) (lines bytes : ℕ) (text : List ℕ) → Fed how start now kept lines bytes text →
    Fed how start now kept lines (length text) text
counted how start now kept lines bytes text h = record {
  answered = h.answered;
  keeps = h.keeps;
  counts_lines = h.counts_lines;
  counts_bytes = refl;
  within = h.within;
}

pub counted_as : (how : Answering) (start now : Progress how.State) (kept : List ℕ) (lines bytes : ℕ) (text : List ℕ) → bytes ≡ length text →
    Fed how start now kept lines (length text) text → Fed how start now kept lines bytes text
counted_as how start now kept lines bytes text is h = record {
  answered = h.answered;
  keeps = h.keeps;
  counts_lines = h.counts_lines;
  counts_bytes = is;
  within = h.within;
}

pub all_kept : (how : Answering) (start now : Progress how.State) (kept : List ℕ) (lines bytes : ℕ) (text front piece : List ℕ) → front ≡ piece → bytes ≡ length (text ++ piece) →
    Fed how start now kept lines (length (text ++ front)) (text ++ front) → Fed how start now kept lines bytes (text ++ piece)
all_kept how start now kept lines bytes text front piece same is h =
    counted_as how start now kept lines bytes (text ++ piece) is (subst (λ t. Fed how start now kept lines (length (text ++ t)) (text ++ t)) same h)

-- the front of a piece that the bytes left allow, and what stands behind its lines
pub rest_kept : (how : Answering) (start now : Progress how.State) (kept more : List ℕ) (lines : ℕ) (text front : List ℕ) (count : ℕ) → LinesDone how start now kept lines text front count →
    length text + length front ≤ 2 ^ 26 → (count < length front → lines < 2 ^ 20) → more ≡ take 513 (kept ++ drop count front) →
    Fed how start now more lines (length (text ++ front)) (text ++ front)
rest_kept how start now kept more lines text front count h short few is =
    let parts : take count front ++ drop count front ≡ front = take-append-drop count front in
    let room : length (text ++ take count front) + length (drop count front) ≤ 2 ^ 26 =
    omega (arith, length-append text (take count front), length-append (take count front) (drop count front), ap length parts) in
    let some : 0 < length (drop count front) → lines < 2 ^ 20 = λ there. few (omega (arith, length-drop count front)) in
    more_done how start now more lines text (take count front) (drop count front) front (sym parts)
    (part_kept how start now kept more lines (text ++ take count front) (drop count front) h.fed h.none room some is)

pub lines_left : (how : Answering) (start now : Progress how.State) (kept : List ℕ) (lines : ℕ) (text piece front left : List ℕ) (count : ℕ) → LinesDone how start now kept lines text front count →
    piece ≡ front ++ left → count < length front → 2 ^ 20 ≤ lines → EndsInPiece how start now text piece
lines_left how start now kept lines text piece front left count h split inside many =
    ends_within how start now text (text ++ take count front) piece (take count front) (drop count front) left refl
    (split ∙ ap (λ l. l ++ left) (sym (take-append-drop count front)) ∙ append_assoc (take count front) (drop count front) left)
    (too_many how start now kept lines (length (text ++ take count front)) (text ++ take count front) (drop count front) h.fed
    (omega (arith, length-drop count front)) (all_lines how start now kept lines (length (text ++ take count front)) (text ++ take count front) h.fed many))

pub bytes_left : (how : Answering) (start now : Progress how.State) (kept : List ℕ) (lines bytes : ℕ) (text piece front left : List ℕ) → Fed how start now kept lines bytes (text ++ front) →
    piece ≡ front ++ left → 0 < length left → length (text ++ front) ≡ 2 ^ 26 → EndsInPiece how start now text piece
bytes_left how start now kept lines bytes text piece front left h split some full =
    ends_within how start now text (text ++ front) piece front left [] refl (split ∙ ap (λ l. front ++ l) (sym (append-nil left)))
    (too_many how start now kept lines bytes (text ++ front) left h some (inl full))

-- the same counts and the same line, said otherwise
pub fed_as : (how : Answering) (start now : Progress how.State) (kept kept' : List ℕ) (lines lines' bytes : ℕ) (text : List ℕ) → kept ≡ kept' → lines ≡ lines' →
    Fed how start now kept' lines' bytes text → Fed how start now kept lines bytes text
fed_as how start now kept kept' lines lines' bytes text same count h = record {
  answered = h.answered;
  keeps = same ∙ h.keeps;
  counts_lines = count ∙ h.counts_lines;
  counts_bytes = h.counts_bytes;
  within = h.within;
}

-- how much of a piece the bytes left allow
pub part_fits : (text piece : List ℕ) (count room bytes : ℕ) → count ≡ min (length piece) room → room ≡ 2 ^ 26 - bytes →
    bytes ≡ length text → length text ≤ 2 ^ 26 → length text + length (take count piece) ≤ 2 ^ 26
part_fits text piece count room bytes is left counts short = omega (arith, length-take count piece)

pub part_left : (piece : List ℕ) (count : ℕ) → length (take count piece) < length piece → 0 < length (drop count piece)
part_left piece count less = omega (arith, length-drop count piece, length-take count piece)

pub part_fills : (text piece : List ℕ) (count room bytes : ℕ) → count ≡ min (length piece) room → room ≡ 2 ^ 26 - bytes →
    bytes ≡ length text → length text ≤ 2 ^ 26 → length (take count piece) < length piece → length (text ++ take count piece) ≡ 2 ^ 26
part_fills text piece count room bytes is left counts short less = omega (arith, length-append text (take count piece), length-take count piece)

pub part_whole : (piece : List ℕ) (count : ℕ) → length piece ≤ length (take count piece) → take count piece ≡ piece
part_whole piece count all = take_all count piece (omega (arith, length-take count piece))

pub bytes_now : (text piece front : List ℕ) (now bytes : ℕ) → front ≡ piece → now ≡ bytes + length front → bytes ≡ length text →
    now ≡ length (text ++ piece)
bytes_now text piece front now bytes whole is counts = omega (arith, length-append text piece, ap length whole)

pub past_end : (at end lines most : ℕ) → end ≤ at → at < end → lines < most
past_end at end lines most past inside = omega arith
