-- The lines of a text.
use Rattle.std.specs.Prelude.{ℕ, ◌==◌, ◌++◌, List, [], ◌∷◌}
use Rattle.std.specs.List.{slice_split}

-- all but the last, and the last, of a list that begins with `first`
abbrev pub all_but_last : List ℕ → List (List ℕ) → List (List ℕ)
all_but_last first [] = []
all_but_last first (second ∷ rest) = first ∷ all_but_last second rest

abbrev pub last_of : List ℕ → List (List ℕ) → List ℕ
last_of first [] = first
last_of first (second ∷ rest) = last_of second rest

-- the lines of a text that have their end, and what stands after the last of them
abbrev pub ended_in : List (List ℕ) → List (List ℕ)
ended_in [] = []
ended_in (first ∷ rest) = all_but_last first rest

abbrev pub open_in : List (List ℕ) → List ℕ
open_in [] = []
open_in (first ∷ rest) = last_of first rest

abbrev pub ended_lines : List ℕ → List (List ℕ)
ended_lines text = ended_in (slice_split (λ c. c == 10) text)

abbrev pub open_line : List ℕ → List ℕ
open_line text = open_in (slice_split (λ c. c == 10) text)

-- a last line that lacks its end is one where it has a byte
abbrev pub last_line : List ℕ → List (List ℕ)
last_line [] = []
last_line (byte ∷ bytes) = (byte ∷ bytes) ∷ []

abbrev pub lines_of : List ℕ → List (List ℕ)
lines_of text = ended_lines text ++ last_line (open_line text)
