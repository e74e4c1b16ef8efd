-- The first line of a text.
use Rattle.std.proofs.Common.{◌≡◌, ◌==◌, ◌+◌, ◌-◌, ◌<◌, ◌++◌, ℕ, zero, suc, List, [], ◌∷◌, false, true, Some, None, length, take, drop, get_or, refl, sym, ap, ◌∙◌, arith, append_assoc, append-nil}
use Rattle.std.specs.List.{slice_split, list_any, position, onto_first}
use Rattle.std.proofs.Math.Seq.{take-suc}
use Rattle.std.proofs.lemmas.Grind.{common_steps}
use Rattle.std.proofs.lemmas.List.{take-append-drop, length-take}
use Rattle.std.proofs.lemmas.List.Splits.{slice_split-cons_yes, slice_split-cons_no, length-slice_split}
use Rattle.std.proofs.lemmas.Bool.{or_parts}
use Rattle.iom_reader.specs.Lines.{all_but_last, last_of, ended_in, open_in, ended_lines, last_line, open_line, lines_of}
use Rattle.iom_reader.proofs.Splits.{EndsAt, ends_at, ended_lines-ended, ended_lines-part, open_line-ended, open_line-grown, open_line-part, none_at}

split_line : (line rest : List ℕ) → list_any (λ c. c == 10) line ≡ false →
    slice_split (λ c. c == 10) (line ++ 10 ∷ rest) ≡ line ∷ slice_split (λ c. c == 10) rest
split_line [] rest none = slice_split-cons_yes (λ c. c == 10) 10 rest refl
split_line (c ∷ line) rest none =
    let both : ((c == 10) ≡ false) × (list_any (λ c. c == 10) line ≡ false) = or_parts (c == 10) (list_any (λ c. c == 10) line) none in
    slice_split-cons_no (λ c. c == 10) c (line ++ 10 ∷ rest) both.0 ∙ ap (onto_first c) (split_line line rest both.1)

ended_more : (line : List ℕ) (parts : List (List ℕ)) → 0 < length parts → all_but_last line parts ≡ line ∷ ended_in parts
ended_more line [] some = absurd (omega arith)
ended_more line (part ∷ parts) some = refl

open_more : (line : List ℕ) (parts : List (List ℕ)) → 0 < length parts → last_of line parts ≡ open_in parts
open_more line [] some = absurd (omega arith)
open_more line (part ∷ parts) some = refl

parts_some : (text : List ℕ) → 0 < length (slice_split (λ c. c == 10) text)
parts_some text = omega (arith, length-slice_split (λ c. c == 10) text)

ended_line : (line rest : List ℕ) → list_any (λ c. c == 10) line ≡ false → ended_lines (line ++ 10 ∷ rest) ≡ line ∷ ended_lines rest
ended_line line rest none = ap ended_in (split_line line rest none) ∙ ended_more line (slice_split (λ c. c == 10) rest) (parts_some rest)

open_after : (line rest : List ℕ) → list_any (λ c. c == 10) line ≡ false → open_line (line ++ 10 ∷ rest) ≡ open_line rest
open_after line rest none = ap open_in (split_line line rest none) ∙ open_more line (slice_split (λ c. c == 10) rest) (parts_some rest)

pub lines_line : (line rest : List ℕ) → list_any (λ c. c == 10) line ≡ false → lines_of (line ++ 10 ∷ rest) ≡ line ∷ lines_of rest
lines_line line rest none = rw (ended_line line rest none, open_after line rest none) refl

-- a text up to and behind its first line end
cut_text : (text : List ℕ) (at : ℕ) → EndsAt text at → text ≡ take at text ++ 10 ∷ drop (at + 1) text
cut_text text at ends =
    sym (take-append-drop (at + 1) text) ∙ ap (λ l. l ++ drop (at + 1) text) ends.front ∙ append_assoc (take at text) (10 ∷ []) (drop (at + 1) text)

pub first_ended : (text : List ℕ) (at : ℕ) → Some at ≡ position (λ c. c == 10) text → ended_lines text ≡ take at text ∷ ended_lines (drop (at + 1) text)
first_ended text at found =
    let ends : EndsAt text at = ends_at text at (sym found) in
    ap ended_lines (cut_text text at ends) ∙ ended_line (take at text) (drop (at + 1) text) ends.before

pub first_of_more : (text more : List ℕ) (at : ℕ) → Some at ≡ position (λ c. c == 10) text →
    lines_of (text ++ more) ≡ take at text ∷ lines_of (drop (at + 1) text ++ more)
first_of_more text more at found =
    let ends : EndsAt text at = ends_at text at (sym found) in
    ap (λ l. lines_of (l ++ more)) (cut_text text at ends) ∙ ap lines_of (append_assoc (take at text) (10 ∷ drop (at + 1) text) more)
    ∙ lines_line (take at text) (drop (at + 1) text ++ more) ends.before

pub none_first : (text : List ℕ) → None ≡ position (λ c. c == 10) text → list_any (λ c. c == 10) text ≡ false
none_first text none = none_at text (sym none)

pub none_ended : (text : List ℕ) → list_any (λ c. c == 10) text ≡ false → ended_lines text ≡ []
none_ended text none = ended_lines-part text [] none

-- an open line, with its end
pub closed : (text : List ℕ) → list_any (λ c. c == 10) text ≡ false → 0 < length text → lines_of (text ++ 10 ∷ []) ≡ lines_of text
closed [] none some = absurd (omega arith)
closed (c ∷ text) none some =
    lines_line (c ∷ text) [] none
    ∙ sym (rw (none_ended (c ∷ text) none, open_line-part (c ∷ text) [] none) refl)

pub first_front : (text : List ℕ) (at : ℕ) → Some at ≡ position (λ c. c == 10) text →
    take (length (take at text) + 1) text ≡ take at text ++ 10 ∷ []
first_front text at found =
    let ends : EndsAt text at = ends_at text at (sym found) in
    let same : length (take at text) ≡ at = omega (arith, length-take at text, ends.inside) in
    ap (λ n. take (n + 1) text) same ∙ ends.front

-- the last line of a text, if it lacks its end
open_ended : (line : List ℕ) (byte : ℕ) → last_line (line ++ byte ∷ []) ≡ (line ++ byte ∷ []) ∷ []
open_ended [] byte = refl
open_ended (c ∷ line) byte = refl

pub ended_all : (text : List ℕ) (byte : ℕ) → (byte == 10) ≡ true → ended_lines (text ++ byte ∷ []) ≡ lines_of (text ++ byte ∷ [])
ended_all text byte end = sym (ap (λ l. ended_lines (text ++ byte ∷ []) ++ last_line l) (open_line-ended byte text end) ∙ append-nil _)

pub open_closed : (text : List ℕ) (byte : ℕ) → (byte == 10) ≡ false → ended_lines ((text ++ byte ∷ []) ++ 10 ∷ []) ≡ lines_of (text ++ byte ∷ [])
open_closed text byte other =
    let is : open_line (text ++ byte ∷ []) ≡ open_line text ++ byte ∷ [] = open_line-grown byte text other in
    ended_lines-ended 10 (text ++ byte ∷ []) refl
    ∙ ap (λ l. ended_lines (text ++ byte ∷ []) ++ l) (ap (λ l. l ∷ []) is ∙ sym (ap last_line is ∙ open_ended (open_line text) byte))

last_byte : (text : List ℕ) (n : ℕ) → n ≡ length text → 0 < n → text ≡ take (n - 1) text ++ get_or text (n - 1) 0 ∷ []
last_byte text zero is some = absurd (omega (arith, some))
last_byte text (suc n) is some =
    let less : suc n - 1 ≡ n = omega arith in
    let all : take (suc n) text ≡ text = grind (arith, common_steps) in
    rw less (sym all ∙ take-suc text n 0 (omega (arith, is)))

pub closed_last : (text : List ℕ) (n : ℕ) → n ≡ length text → 0 < n → (get_or text (n - 1) 0 == 10) ≡ true → ended_lines text ≡ lines_of text
closed_last text n is some end =
    let split : text ≡ take (n - 1) text ++ get_or text (n - 1) 0 ∷ [] = last_byte text n is some in
    ap ended_lines split ∙ ended_all (take (n - 1) text) (get_or text (n - 1) 0) end ∙ sym (ap lines_of split)

pub open_last : (text : List ℕ) (n : ℕ) → n ≡ length text → 0 < n → (get_or text (n - 1) 0 == 10) ≡ false →
    ended_lines (text ++ 10 ∷ []) ≡ lines_of text
open_last text n is some other =
    let split : text ≡ take (n - 1) text ++ get_or text (n - 1) 0 ∷ [] = last_byte text n is some in
    ap (λ l. ended_lines (l ++ 10 ∷ [])) split ∙ open_closed (take (n - 1) text) (get_or text (n - 1) 0) other ∙ sym (ap lines_of split)
