-- The image that a script names itself, by its first line `image FILE`.
use Rattle.std.specs.Prelude.{ℕ, ◌==◌, ◌++◌, List, [], ◌∷◌, length, take, drop, codes, bytes_eq, nat_le, unwrap_or, Option, Some, None, if◌then◌else◌}
use Rattle.std.specs.List.{position}
use Rattle.iom_text.specs.Words.{words_of}

-- where the first line has its end
abbrev pub first_end : List ℕ → ℕ
first_end script = unwrap_or (position (λ c. c == 10) script) (length script)

-- a script's first line without its end, and what stands behind it
abbrev pub first_line : List ℕ → List ℕ
first_line script = take (first_end script) script

abbrev pub behind_first : List ℕ → List ℕ
behind_first script = drop (first_end script) script

-- a line's comment, from `#` on
abbrev pub comment_of : List ℕ → List ℕ
comment_of line = drop (unwrap_or (position (λ c. c == 35) line) (length line)) line

-- `image FILE`: two words
abbrev pub image_in : List (List ℕ) → Option (List ℕ)
image_in [] = None
image_in (word ∷ []) = None
image_in (word ∷ file ∷ []) = if bytes_eq word (codes "image") then Some file else None
image_in (word ∷ file ∷ more ∷ words) = None

-- the file that a line names, of at most 512 bytes; None: it names none
unfoldable pub image_by : List ℕ → Option (List ℕ)
image_by line = if nat_le (length line) 512 then image_in (words_of line) else None

unfoldable pub image_named : List ℕ → Option (List ℕ)
image_named script = image_by (first_line script)

-- what is left of a script that names its image: the comment of its first line, and all behind that line, so that each line keeps its number
unfoldable pub without_image : List ℕ → List ℕ
without_image script = comment_of (first_line script) ++ behind_first script
