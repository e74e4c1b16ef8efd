-- What is said of the table of lines, and of reasons.
use Rattle.std.specs.Prelude.{ℕ, ◌≡◌, ◌%◌, ◌≤◌, ◌==◌, ◌&&◌, Bool, true, false, not, nat_lt, List, [], ◌∷◌, codes, length, map, Some, None}
use Rattle.std.specs.List.{list_any}
use Rattle.iom_text.specs.Words.{words_of}
use Rattle.iom_tool.specs.Script.{debug_line_of, rows}
use Rattle.iom_items.specs.declared.layouts.Layout.{Layout}
use Rattle.iom_items.specs.declared.layouts.Layout.TheVariants as layout
use Rattle.iom_items.specs.Layouts.{base_of, fields_of}
use Rattle.iom_items.specs.Forms.{is_sound, stated_from, words_laid}
use Rattle.iom_items.specs.Operands.{operand_of, value_of}
use Rattle.iom_slips.specs.declared.items.Keys.TheVariants as keys
use Rattle.iom_slips.specs.Items.{laid_slip, operand_slip, unfit}
use Rattle.iom_slips.specs.Patterns.{Piece, part_of, patterns}
use Rattle.iom_slips.specs.Slips.{is_bad, is_piece, slip_of}

-- The lines are the rows of the table of forms, part by part.
abbrev pub AreRows : Type 0
AreRows = map (λ pieces. map part_of pieces) patterns ≡ map (λ row. row.parts) rows

-- A line has a reason exactly where it is bad.
abbrev pub AreTold : Type 0
AreTold = (line : List ℕ) → nat_lt 0 (length (slip_of line)) ≡ is_bad (debug_line_of line)

-- Words that are the pieces of a line, one by one. An item isn't judged so.
unfoldable pub are_pieces : List Piece → List (List ℕ) → Bool
are_pieces [] [] = true
are_pieces [] (word ∷ words) = false
are_pieces (piece ∷ pieces) [] = false
are_pieces (piece ∷ pieces) (word ∷ words) = is_piece piece word && are_pieces pieces words

-- A line whose words are a whole row is not bad.
abbrev pub AreTaken : Type 0
AreTaken =
    (line : List ℕ) → length line ≤ 512 → list_any (λ c. c == 10) line ≡ false → list_any (λ pieces. are_pieces pieces (words_of line)) patterns ≡ true →
    is_bad (debug_line_of line) ≡ false

-- whether nothing is wrong with any of a statement's operands by itself
unfoldable pub all_stand : Layout → List (List ℕ) → Bool
all_stand layout [] = true
all_stand layout (word ∷ words) =
    not (nat_lt 0 (length (operand_slip (keys.Of layout) word (operand_of word) words))) && all_stand layout words

-- what the operands don't show one by one
abbrev pub IsUnfit : Layout → List (List ℕ) → Type 0
IsUnfit layout.Fence operands = (n : ℕ) × (value_of (codes "addr") operands ≡ Some n) × ((n % 4 == 0) ≡ false)
IsUnfit layout.Context operands =
    (words : List ℕ) × (stated_from (fields_of layout.Context) operands 0 (base_of layout.Context) ≡ Some words) × (is_sound layout.Context words ≡ false)
IsUnfit layout.ExtendedContext operands =
    (words : List ℕ) × (stated_from (fields_of layout.ExtendedContext) operands 0 (base_of layout.ExtendedContext) ≡ Some words)
    × (is_sound layout.ExtendedContext words ≡ false)
IsUnfit _ operands = ⊥

-- Where the reason names an operand, the statement is refused. Where it names none, a statement that is refused has an address that isn't a
-- multiple of 4, or fields that no context has together, as the reason says then; and the rest aren't refused.
abbrev pub AreStopped : Type 0
AreStopped =
    (layout : Layout) (operands : List (List ℕ)) →
    (all_stand layout operands ≡ false → words_laid layout operands ≡ None)
    × (all_stand layout operands ≡ true → (laid_slip layout operands ≡ unfit layout) × (words_laid layout operands ≡ None → IsUnfit layout operands))
