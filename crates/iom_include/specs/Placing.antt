-- Where the lines stand that stand for a script with its texts: each in the script itself or in a text that it includes, and at which line.
use Rattle.std.specs.Prelude.{ℕ, zero, suc, ◌≡◌, ◌+◌, ◌++◌, ◌⊎◌, List, [], ◌∷◌, true, length, Option, Some, None}
use Rattle.iom_reader.specs.Lines.{lines_of}
use Rattle.iom_include.specs.Including.{comment_of, file_of, includes, name_at}

-- the text's name, None for the script itself; and the line, counted from 1
pub record LinePlace : Type 0 where
  pub text : Option (List ℕ)
  pub line : ℕ

-- of lines of a text, from the one of this number on
abbrev pub placed_from : (ℕ → List ℕ → List LinePlace) → ℕ → List (List ℕ) → List LinePlace
placed_from inner number [] = []
placed_from inner number (line ∷ lines) = inner number line ++ placed_from inner (number + 1) lines

-- of what stands for a line: its own place; or those of the lines of the text that it includes, and then its own, of its comment
abbrev pub placed_in : (List ℕ → List ℕ) → (Option (List ℕ) → List ℕ → ℕ → List ℕ → List LinePlace) → LinePlace → List ℕ → Option (List ℕ) → List LinePlace
placed_in texts inner own from None = own ∷ []
placed_in texts inner own from (Some file) =
    placed_from (inner (Some (name_at from file)) (name_at from file)) 1 (lines_of (texts (name_at from file))) ++ own ∷ []

-- as deep as that, of a line of the text `from`
unfoldable pub placed : (List ℕ → List ℕ) → ℕ → Option (List ℕ) → List ℕ → ℕ → List ℕ → List LinePlace
placed texts zero text from number line = record { text = text; line = number } ∷ []
placed texts (suc depth) text from number line =
    placed_in texts (placed texts depth) (record { text = text; line = number }) from (file_of line)

-- of a script of this name
abbrev pub places : (List ℕ → List ℕ) → List ℕ → List ℕ → List LinePlace
places texts name script = placed_from (placed texts 8 None name) 1 (lines_of script)

-- the text that a place names
abbrev pub text_at : (List ℕ → List ℕ) → List ℕ → Option (List ℕ) → List ℕ
text_at texts script None = script
text_at texts script (Some name) = texts name

-- a line stands at a place: it is the line there, or the comment of one that includes a text
pub record StandsAt (texts : List ℕ → List ℕ) (script line : List ℕ) (place : LinePlace) : Type 0 where
  pub before : List (List ℕ)
  pub own : List ℕ
  pub behind : List (List ℕ)
  pub split : lines_of (text_at texts script place.text) ≡ before ++ own ∷ behind
  pub number : place.line ≡ length before + 1
  pub same : (line ≡ own) ⊎ ((includes own ≡ true) × (line ≡ comment_of own))
