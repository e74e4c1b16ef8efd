-- Operands `key=number`, in any order, each key at most once; a key that is absent stands for 0.
use Rattle.std.specs.Prelude.{ℕ, suc, ◌==◌, ◌&&◌, ◌||◌, Bool, true, false, not, List, [], ◌∷◌, take, drop, bytes_eq, nat_lt, Option, Some, None, if◌then◌else◌}
use Rattle.std.specs.Option.{option_and_then}
use Rattle.std.specs.List.{position}
use Rattle.iom_text.specs.Words.{number}

-- the second, where there is a first
infixl 10 ◌>>=◌
abbrev pub ◌>>=◌ : {A B : Type 0} → Option A → (A → Option B) → Option B
found >>= f = option_and_then f found

-- what stands before the first `=` of a word, and what stands after it
pub record Operand : Type 0 where
  pub key : List ℕ
  pub value : List ℕ

unfoldable pub operand_of : List ℕ → Option Operand
operand_of word = do
  at ← position (λ c. c == 61) word
  Some (record { key = take at word; value = drop (suc at) word })

abbrev pub has_key : List ℕ → Option Operand → Bool
has_key key None = false
has_key key (Some operand) = bytes_eq operand.key key

-- whether a word of some has this key
abbrev pub is_given : List ℕ → List (List ℕ) → Bool
is_given key [] = false
is_given key (word ∷ words) = has_key key (operand_of word) || is_given key words

-- whether a word has one of these keys, and none of `later` has its key
abbrev pub is_one_of : List (List ℕ) → Option Operand → List (List ℕ) → Bool
is_one_of [] operand later = false
is_one_of (key ∷ keys) operand later = has_key key operand && not (is_given key later) || is_one_of keys operand later

-- whether each word has one of these keys, and each key is given once at most
abbrev pub are_operands : List (List ℕ) → List (List ℕ) → Bool
are_operands keys [] = true
are_operands keys (word ∷ words) = is_one_of keys (operand_of word) words && are_operands keys words

-- the number that is given for a key, 0 where the key is absent
abbrev pub number_for : Option Operand → Option ℕ
number_for None = None
number_for (Some operand) = number operand.value

abbrev pub value_of : List ℕ → List (List ℕ) → Option ℕ
value_of key [] = Some 0
value_of key (word ∷ words) =
    if has_key key (operand_of word) then number_for (operand_of word) else value_of key words

-- a number, if it is below a limit
abbrev pub below : ℕ → ℕ → Option ℕ
below limit n = if nat_lt n limit then Some n else None

unfoldable pub limited : List ℕ → ℕ → List (List ℕ) → Option ℕ
limited key limit words = do
  n ← value_of key words
  below limit n

-- a number that is 0 or 1, as a flag
unfoldable pub flag_for : List ℕ → List (List ℕ) → Option Bool
flag_for key words = do
  n ← limited key 2 words
  Some (n == 1)
