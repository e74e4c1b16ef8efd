-- The words of a line, and the number that a word writes.
use Rattle.std.specs.Prelude.{ℕ, ◌^◌, ◌==◌, ◌&&◌, ◌||◌, Bool, nat_lt, List, [], ◌∷◌, length, take, drop, codes, bytes_eq, Option, Some, None, filter, if◌then◌else◌}
use Rattle.std.specs.List.{slice_split, before_first, list_all}
use Rattle.std.specs.Char.{is_digit}
use Rattle.std.specs.Str.Parse.{digits_value}

-- space, tab and CR
abbrev pub is_blank : ℕ → Bool
is_blank c = c == 32 || c == 9 || c == 13

-- the text before the first `#`
abbrev pub before_comment : List ℕ → List ℕ
before_comment text = before_first (λ c. c == 35) text

-- a byte that ends a word
abbrev pub is_end : ℕ → Bool
is_end c = is_blank c || c == 35

-- the words: the texts between blanks, before the comment
unfoldable pub words_of : List ℕ → List (List ℕ)
words_of text = filter (λ word. nat_lt 0 (length word)) (slice_split is_blank (before_comment text))

-- the number that digits write, below 2^64
unfoldable pub number_in : ℕ → List ℕ → Option ℕ
number_in radix word =
    if nat_lt 0 (length word) && list_all (λ c. is_digit c radix) word && nat_lt (digits_value radix word) (2 ^ 64)
    then Some (digits_value radix word)
    else None

-- decimal digits, or hex digits after `0x`
unfoldable pub number : List ℕ → Option ℕ
number word = if bytes_eq (take 2 word) (codes "0x") then number_in 16 (drop 2 word) else number_in 10 word

-- the number that the first of some words writes
abbrev pub first_number : List (List ℕ) → Option ℕ
first_number [] = None
first_number (word ∷ words) = number word
