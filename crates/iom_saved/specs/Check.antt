-- A word by which damage shows.
use Rattle.std.specs.Prelude.{ℕ, ◌+◌, ◌*◌, ◌%◌, ◌^◌, List, fold}

-- a word is added, and the sum is multiplied by an odd number: 2^64 divided by the golden ratio
abbrev pub mixed : ℕ → ℕ → ℕ
mixed sum word = (sum + word) % 2 ^ 64 * 0x9e3779b97f4a7c15 % 2 ^ 64

-- the check word of words: each is added in turn
abbrev pub check_of : List ℕ → ℕ
check_of words = fold mixed 0 words
