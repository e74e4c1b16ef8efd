-- What a line says where names stand for numbers.
use Rattle.std.specs.Prelude.{ℕ, ◌==◌, ◌&&◌, Bool, true, false, not, nat_le, List, [], ◌∷◌, length, drop, codes, bytes_eq, Option, Some, None, if◌then◌else◌}
use Rattle.std.specs.List.{list_any}
use Rattle.iom_text.specs.Words.{words_of}
use Rattle.iom_tool.specs.Script.{Again, Asks, Bad, Blank, DebugLine, Does, Inquires, Named, Plain, Stores, debug_line_of}
use Rattle.iom_names.specs.Names.{names_by, with_numbers}
use Rattle.iom_names.specs.declared.names.Binding.{Binding}

-- what a line says, and the names after it
pub record Reading : Type 0 where
  pub line : DebugLine
  pub names : List Binding

abbrev pub reading : DebugLine → List Binding → Reading
reading line names = record { line = line; names = names }

abbrev pub is_bad : DebugLine → Bool
is_bad (Plain Bad) = true
is_bad (Plain Blank) = false
is_bad (Plain (Does step)) = false
is_bad (Plain (Asks question)) = false
is_bad (Named step) = false
is_bad (Inquires inquiry) = false
is_bad (Again step most) = false
is_bad (Stores steps) = false

-- a text that can be a line
abbrev pub is_line : List ℕ → Bool
is_line text = nat_le (length text) 512 && not (list_any (λ c. c == 10) text)

-- `let` is done without a step; bad where it gives no name a number
abbrev pub after_let : List Binding → Option (List Binding) → Reading
after_let names None = reading (Plain Bad) names
after_let names (Some more) = reading (Stores []) more

abbrev pub is_let : List (List ℕ) → Bool
is_let [] = false
is_let (verb ∷ words) = bytes_eq verb (codes "let")

-- what words say that say nothing without names
abbrev pub read_words : List Binding → List (List ℕ) → Reading
read_words names words =
    if is_let words then after_let names (names_by names (drop 1 words)) else reading (debug_line_of (with_numbers names words)) names

-- A line that says something without names says that. Any other is `let NAME NUMBER ..`, or says what it says with the numbers in place of
-- the names.
unfoldable pub read : List Binding → List ℕ → Reading
read names text =
    if is_bad (debug_line_of text) && is_line text then read_words names (words_of text) else reading (debug_line_of text) names

abbrev pub line_with : List Binding → List ℕ → DebugLine
line_with names text = (read names text).line

abbrev pub names_after : List Binding → List ℕ → List Binding
names_after names text = (read names text).names
