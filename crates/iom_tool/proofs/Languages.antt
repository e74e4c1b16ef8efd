-- A line of `run` is the same line of `debug`, since the rows of `run` stand first in the table.
use Rattle.std.proofs.Common.{◌≡◌, ◌≢◌, ◌||◌, ◌==◌, ℕ, List, [], ◌∷◌, Bool, true, false, Option, Some, None, length, nat_lt, refl, if◌then◌else◌}
use Rattle.std.specs.List.{list_any}
use Rattle.std.specs.Option.{unwrap_or}
use Rattle.iom_text.specs.Words.{words_of}
use Rattle.iom_tool.specs.Script.{Again, Bad, DebugLine, Inquires, Named, Plain, Row, Stores, debug_line_of, first_of, fitted, line_in, line_of, may_use, meaning, or_else, plain, rows}
use Rattle.iom_tool.specs.declared.language.Language.{Language}
use Rattle.iom_tool.specs.declared.language.Language.TheVariants.{Run, Debug}

abbrev has_none : List Row → Bool
has_none [] = true
has_none (row ∷ rows) = if may_use Run row.language then false else has_none rows

abbrev is_sorted : List Row → Bool
is_sorted [] = true
is_sorted (row ∷ rows) = if may_use Run row.language then is_sorted rows else has_none rows

none_first : (rows : List Row) (words : List (List ℕ)) → has_none rows ≡ true → first_of Run rows words ≡ None
unfolding first_of
none_first [] words none = refl
none_first (row ∷ rows) words none = by (may_use Run row.language) refl (λ none. none_first rows words none) where
  by : (b : Bool) → may_use Run row.language ≡ b → (has_none rows ≡ true → first_of Run rows words ≡ None) → first_of Run (row ∷ rows) words ≡ None
  by true is more = absurd (cc (rw is at none))
  by false is more = rw is (more (rw is at none))

pub uses_all : (mark : Language) → may_use Debug mark ≡ true
uses_all Run = refl
uses_all Debug = refl

same_first : (fit run all : Option DebugLine) (line : DebugLine) → (run ≡ Some line → all ≡ Some line) → or_else fit run ≡ Some line →
    or_else fit all ≡ Some line
same_first (Some found) run all line more is = is
same_first None run all line more is = more is

run_first : (rows : List Row) (words : List (List ℕ)) (line : DebugLine) → is_sorted rows ≡ true → first_of Run rows words ≡ Some line →
    first_of Debug rows words ≡ Some line
unfolding first_of
run_first [] words line sorted is = absurd (cc is)
run_first (row ∷ rows) words line sorted is = by (may_use Run row.language) refl (λ sorted is. run_first rows words line sorted is) where
  by : (b : Bool) → may_use Run row.language ≡ b → (is_sorted rows ≡ true → first_of Run rows words ≡ Some line → first_of Debug rows words ≡ Some line) →
      first_of Debug (row ∷ rows) words ≡ Some line
  by true own more = rw (uses_all row.language) (same_first (fitted row words) _ _ line (more (rw own at sorted)) (rw own at is))
  by false other more = absurd (cc (none_first rows words (rw other at sorted), rw other at is))

in_words : (words : List (List ℕ)) → plain (meaning Run words) ≢ Bad → meaning Debug words ≡ Plain (plain (meaning Run words))
unfolding meaning rows
in_words [] other = refl
in_words (verb ∷ more) other = by (first_of Run rows (verb ∷ more)) refl other where
  by : (found : Option DebugLine) → first_of Run rows (verb ∷ more) ≡ found → plain (unwrap_or found (Plain Bad)) ≢ Bad →
      unwrap_or (first_of Debug rows (verb ∷ more)) (Plain Bad) ≡ Plain (plain (unwrap_or found (Plain Bad)))
  by None is other = absurd (other refl)
  by (Some (Plain line)) is other = rw (run_first rows (verb ∷ more) (Plain line) refl is) refl
  by (Some (Named step)) is other = absurd (other refl)
  by (Some (Inquires inquiry)) is other = absurd (other refl)
  by (Some (Again step most)) is other = absurd (other refl)
  by (Some (Stores steps)) is other = absurd (other refl)

pub as_run : (text : List ℕ) → line_of text ≢ Bad → debug_line_of text ≡ Plain (line_of text)
unfolding line_in
as_run text other = by (nat_lt 512 (length text) || list_any (λ c. c == 10) text) other where
  by : (b : Bool) → plain (if b then Plain Bad else meaning Run (words_of text)) ≢ Bad →
      (if b then Plain Bad else meaning Debug (words_of text)) ≡ Plain (plain (if b then Plain Bad else meaning Run (words_of text)))
  by true other = absurd (other refl)
  by false other = in_words (words_of text) other
