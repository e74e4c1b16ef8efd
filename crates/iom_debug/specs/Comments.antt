-- A line's comment, and texts without the blanks around them.
use Rattle.std.specs.Prelude.{ℕ, ◌+◌, ◌==◌, List, [], ◌∷◌, drop, not, Option, if◌then◌else◌}
use Rattle.std.specs.List.{list_all, position, position_or_len}
use Rattle.std.specs.Option.{option_map}
use Rattle.iom_text.specs.Words.{is_blank}

-- where the first `#` stands
abbrev pub comment_at : List ℕ → Option ℕ
comment_at text = position (λ c. c == 35) text

-- what stands behind the first `#`; None: there is none
abbrev pub comment_of : List ℕ → Option (List ℕ)
comment_of text = option_map (λ at. drop (at + 1) text) (comment_at text)

-- a text without the blanks that it begins with, and without those that it ends with
abbrev pub past_blanks : List ℕ → List ℕ
past_blanks text = drop (position_or_len (λ c. not (is_blank c)) text) text

abbrev pub before_blanks : List ℕ → List ℕ
before_blanks [] = []
before_blanks (c ∷ text) = if list_all is_blank (c ∷ text) then [] else c ∷ before_blanks text

-- a text without blanks around it
abbrev pub without_blanks : List ℕ → List ℕ
without_blanks text = before_blanks (past_blanks text)
