-- Marks among the lines of a script. A text that it includes stands between two lines that say so; by them it is known where each line stands.
use Rattle.std.specs.Prelude.{ℕ, ◌≡◌, ◌+◌, ◌-◌, Bool, true, false, List, [], ◌∷◌, take, drop, nat_le, bytes_eq, Option, Some, None, if◌then◌else◌}
use Rattle.std.specs.Option.{option_map}
use Rattle.iom_debug.specs.Places.{PlaceView, line_named, number_named, own}
use Rattle.iom_debug.specs.Summary.{up_to_64_bits}

-- `#`, STX and the name of a text, before its first line; `#` and ETX, behind its last one. To all else they are comments.
abbrev pub begin_sign : List ℕ
begin_sign = 35 ∷ 2 ∷ []

abbrev pub end_sign : List ℕ
end_sign = 35 ∷ 3 ∷ []

-- the name of the text that begins behind a line
abbrev pub text_begun : List ℕ → Option (List ℕ)
text_begun line = if bytes_eq (take 2 line) begin_sign then Some (drop 2 line) else None

-- a text ends before a line
abbrev pub is_end : List ℕ → Bool
is_end line = bytes_eq line end_sign

-- line `first`, counted from 1 among all that are read, stands at this place, and those behind it behind that
pub record MarkView : Type 0 where
  pub first : ℕ
  pub place : PlaceView

-- the marks, newest first; the places of the lines that include the texts that aren't over, the innermost first; and whether memory was refused
-- for them
pub record MarksView : Type 0 where
  pub marks : List MarkView
  pub outer : List PlaceView
  pub is_lost : Bool

abbrev pub no_marks : MarksView
no_marks = record { marks = []; outer = []; is_lost = false }

-- the newest mark at a line or before it
unfoldable pub mark_for : List MarkView → ℕ → Option MarkView
mark_for [] number = None
mark_for (mark ∷ older) number = if nat_le mark.first number then Some mark else mark_for older number

-- where a line stands by a mark; where there is none, in the script itself
abbrev pub place_by : Option MarkView → ℕ → PlaceView
place_by None number = own number
place_by (Some mark) number = record { text = mark.place.text; line = up_to_64_bits (mark.place.line + (number - mark.first)) }

abbrev pub place_at : MarksView → ℕ → PlaceView
place_at marks number = place_by (mark_for marks.marks number) number

-- the same; of a name 513 bytes are told
abbrev pub cut : PlaceView → PlaceView
cut place = record { text = option_map (take 513) place.text; line = place.line }

abbrev pub place_of : MarksView → ℕ → PlaceView
place_of marks number = cut (place_at marks number)

-- as a line is named, and as its number is told
abbrev pub named_at : MarksView → ℕ → List ℕ
named_at marks number = line_named (place_of marks number)

abbrev pub numbered_at : MarksView → ℕ → List ℕ
numbered_at marks number = number_named (place_of marks number)

-- behind line `number` lines stand at this place
abbrev pub with_mark : MarksView → ℕ → PlaceView → MarksView
with_mark marks number place = record marks { marks = record { first = up_to_64_bits (number + 1); place = place } ∷ marks.marks }

-- a text of this name begins there
abbrev pub begun : MarksView → ℕ → List ℕ → MarksView
begun marks number name =
    record (with_mark marks number (record { text = Some name; line = 1 })) { outer = place_at marks number ∷ marks.outer }

-- a text ends there, where one is open: behind it stands the line that includes it
abbrev pub ended : MarksView → ℕ → List PlaceView → MarksView
ended marks number [] = marks
ended marks number (place ∷ more) = record (with_mark marks number place) { outer = more }

abbrev pub marked_by : MarksView → ℕ → Option (List ℕ) → Bool → MarksView
marked_by marks number (Some name) end = begun marks number name
marked_by marks number None true = ended marks number marks.outer
marked_by marks number None false = marks

-- what a line of this number leaves
abbrev pub marked : MarksView → ℕ → List ℕ → MarksView
marked marks number line = marked_by marks number (text_begun line) (is_end line)

-- the same, unless memory was refused
pub record IsMarked (before : MarksView) (number : ℕ) (line : List ℕ) (after : MarksView) : Type 0 where
  pub lost : before.is_lost ≡ true → after.is_lost ≡ true
  pub known : after.is_lost ≡ false → after ≡ marked before number line
