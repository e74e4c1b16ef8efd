-- Where the lines of a script stand, in the script itself or in a text that it includes, and how a line is named.
use Rattle.std.specs.Prelude.{ℕ, ◌≡◌, ◌++◌, List, take, codes, Option, Some, None, IfSome}
use Rattle.iom_text.specs.Texts.{numeral}
use Rattle.iom_debug.specs.Stale.{own_named}
use Rattle.iom_debug.specs.Escaping.{escaped}

-- the text, if the script includes it, and the line, counted from 1 in the text
pub record PlaceView : Type 0 where
  pub text : Option (List ℕ)
  pub line : ℕ

-- a line of the script itself
abbrev pub own : ℕ → PlaceView
own line = record { text = None; line = line }

-- a file's name, of which 513 bytes are told
abbrev pub name_told : List ℕ → List ℕ
name_told name = escaped (take 513 name)

-- the line of a file; where none is named, of the script itself
abbrev pub line_in : Option (List ℕ) → ℕ → List ℕ
line_in None line = own_named line
line_in (Some name) line = name_told name ++ codes ":" ++ numeral 10 line

-- how a line is named in what is told of another
abbrev pub line_named : PlaceView → List ℕ
line_named place = line_in place.text place.line

-- the same where its number is told: of a line of the script itself that alone
abbrev pub number_in : Option (List ℕ) → ℕ → List ℕ
number_in None line = numeral 10 line
number_in (Some name) line = name_told name ++ codes ":" ++ numeral 10 line

abbrev pub number_named : PlaceView → List ℕ
number_named place = number_in place.text place.line

-- the line of this number, counted among all, stands here, where that is known
abbrev pub IsPlaceOf : Option (ℕ → PlaceView) → ℕ → PlaceView → Type 0
IsPlaceOf known number place = IfSome known (λ place_of. place ≡ place_of number)

-- the line of this number is named so
abbrev pub IsNamed : Option (ℕ → PlaceView) → ℕ → List ℕ → Type 0
IsNamed known number line = (place : PlaceView) × IsPlaceOf known number place × (line ≡ line_named place)

-- and so is that of a number, if there is one
abbrev pub IsNamedIf : Option (ℕ → PlaceView) → Option ℕ → Option (List ℕ) → Type 0
IsNamedIf known None line = line ≡ None
IsNamedIf known (Some number) line = (name : List ℕ) × IsNamed known number name × (line ≡ Some name)
