-- Lines `include FILE`: the text of a file stands in place of such a line's text.
use Rattle.std.specs.Prelude.{ℕ, ◌≡◌, zero, suc, ◌++◌, List, [], ◌∷◌, Bool, codes, bytes_eq, drop, length, nat_le, ◌==◌, is_some, unwrap_or, Option, Some, None, if◌then◌else◌}
use Rattle.std.specs.List.{flat_map, list_any, position}
use Rattle.std.specs.Path.{path_join, path_parent}
use Rattle.iom_text.specs.Words.{words_of}
use Rattle.iom_reader.specs.Lines.{lines_of}

-- `include FILE`: two words, in a line of at most 512 bytes
abbrev pub file_in : List (List ℕ) → Option (List ℕ)
file_in [] = None
file_in (word ∷ []) = None
file_in (word ∷ file ∷ []) = if bytes_eq word (codes "include") then Some file else None
file_in (word ∷ file ∷ more ∷ words) = None

unfoldable pub file_of : List ℕ → Option (List ℕ)
file_of line = if nat_le (length line) 512 then file_in (words_of line) else None

-- a file is named from the folder of the text that names it
unfoldable pub name_at : List ℕ → List ℕ → List ℕ
name_at from file = path_join (unwrap_or (path_parent from) []) file

-- a line's comment, from `#` on
abbrev pub comment_of : List ℕ → List ℕ
comment_of line = drop (unwrap_or (position (λ c. c == 35) line) (length line)) line

-- what stands for a line of a text: itself; or the lines of the text that it includes, and then its comment
abbrev pub in_place : (List ℕ → List ℕ) → (List ℕ → List ℕ → List ℕ) → List ℕ → List ℕ → Option (List ℕ) → List ℕ
in_place texts inner from line None = line ++ 10 ∷ []
in_place texts inner from line (Some file) =
    flat_map (inner (name_at from file)) (lines_of (texts (name_at from file))) ++ (comment_of line ++ 10 ∷ [])

-- as deep as that
unfoldable pub said : (List ℕ → List ℕ) → ℕ → List ℕ → List ℕ → List ℕ
said texts zero from line = line ++ 10 ∷ []
said texts (suc depth) from line = in_place texts (said texts depth) from line (file_of line)

-- what stands for a script of this name: its lines may include texts that include texts, and so on, eight in all
abbrev pub expanded : (List ℕ → List ℕ) → List ℕ → List ℕ → List ℕ
expanded texts name script = flat_map (said texts 8 name) (lines_of script)

-- what stands for lines, behind some bytes that are ready, where the texts are known. Where they aren't it is known of lines none of which
-- includes a text: each stands for itself, with a line end
abbrev pub includes : List ℕ → Bool
includes line = is_some (file_of line)

abbrev pub lines_left : Option (List ℕ → List ℕ) → List ℕ → List ℕ → List (List ℕ) → Option (List ℕ)
lines_left None ready name lines = if list_any includes lines then None else Some (ready ++ flat_map (λ line. line ++ 10 ∷ []) lines)
lines_left (Some texts) ready name lines = Some (ready ++ flat_map (said texts 8 name) lines)

-- what is left to read: some bytes that are ready, and what stands for the rest of the script, where that is known
abbrev pub left_by : Option (List ℕ → List ℕ) → Option (List ℕ) → List ℕ → List ℕ → List ℕ → Option (List ℕ)
left_by known None ready name rest = None
left_by known (Some unread) ready name rest = lines_left known ready name (lines_of (rest ++ unread))

-- what stands for a script of this name, of which no byte was read
abbrev pub standing : Option (List ℕ → List ℕ) → Option (List ℕ) → List ℕ → Option (List ℕ)
standing known script name = left_by known script [] name []

-- that is known, and has the lines of the script
pub record StandsForItself (known : Option (List ℕ → List ℕ)) (name script : List ℕ) : Type 0 where
  pub left : List ℕ
  pub known_left : standing known (Some script) name ≡ Some left
  pub lines : lines_of left ≡ lines_of script
