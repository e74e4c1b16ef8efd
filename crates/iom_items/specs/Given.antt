-- What operands are and what they give, in plain terms: a relation beside the recursions of `Operands`, which agree with it.
use Rattle.std.specs.Prelude.{ℕ, ◌≡◌, ◌≢◌, ◌⊎◌, ◌++◌, ◌<◌, Bool, true, List, ◌∷◌, All, Any, AllPairs, Contains, Some}
use Rattle.iom_text.specs.Words.{number}
use Rattle.iom_bits.specs.Bits.{flag}
use Rattle.iom_items.specs.Operands.{are_operands, value_of, limited, flag_for}

-- a word is `key=value`, and its key has no `=` (61)
pub record IsOperand (key value word : List ℕ) : Type 0 where
  pub parts : word ≡ key ++ 61 ∷ value
  pub first : All (λ c. c ≢ 61) key

pub record HasKey (key word : List ℕ) : Type 0 where
  pub value : List ℕ
  pub operand : IsOperand key value word

-- the key of a word is one of these
pub record IsKnown (keys : List (List ℕ)) (word : List ℕ) : Type 0 where
  pub key : List ℕ
  pub operand : HasKey key word
  pub known : Contains keys key

-- two words do not have the same key
abbrev pub AreApart : List ℕ → List ℕ → Type 0
AreApart one other = (key : List ℕ) → HasKey key one → HasKey key other → ⊥

-- each word has one of these keys, and no two words have the same key
pub record AreOperands (keys words : List (List ℕ)) : Type 0 where
  pub known : All (IsKnown keys) words
  pub once : AllPairs AreApart words

-- a word gives this number for a key
pub record Gives (key : List ℕ) (n : ℕ) (word : List ℕ) : Type 0 where
  pub value : List ℕ
  pub operand : IsOperand key value word
  pub writes : number value ≡ Some n

abbrev pub NoneHas : List ℕ → List (List ℕ) → Type 0
NoneHas key words = All (λ word. HasKey key word → ⊥) words

-- the number for a key: a word gives it, or it is 0 and no word has the key
abbrev pub IsValue : List ℕ → List (List ℕ) → ℕ → Type 0
IsValue key words n = Any (Gives key n) words ⊎ (NoneHas key words × (n ≡ 0))

-- The test of operands passes exactly where they are operands.
abbrev pub ReadsOperands : Type 0
ReadsOperands =
    (keys words : List (List ℕ)) →
    (are_operands keys words ≡ true → AreOperands keys words) × (AreOperands keys words → are_operands keys words ≡ true)

-- Of operands, what is read for a key is the number for it.
abbrev pub ReadsValues : Type 0
ReadsValues =
    (keys : List (List ℕ)) (key : List ℕ) (words : List (List ℕ)) (n : ℕ) → AreOperands keys words →
    (value_of key words ≡ Some n → IsValue key words n) × (IsValue key words n → value_of key words ≡ Some n)

-- Of operands, a number is read below a limit exactly if it is the number for the key and below the limit.
abbrev pub ReadsLimits : Type 0
ReadsLimits =
    (keys : List (List ℕ)) (key : List ℕ) (limit : ℕ) (words : List (List ℕ)) (n : ℕ) → AreOperands keys words →
    (limited key limit words ≡ Some n → IsValue key words n × (n < limit)) × (IsValue key words n → n < limit → limited key limit words ≡ Some n)

-- Of operands, a flag is read exactly if the number for the key is its bit: 1 if it is set, 0 if not.
abbrev pub ReadsFlags : Type 0
ReadsFlags =
    (keys : List (List ℕ)) (key : List ℕ) (words : List (List ℕ)) (set : Bool) → AreOperands keys words →
    (flag_for key words ≡ Some set → IsValue key words (flag set)) × (IsValue key words (flag set) → flag_for key words ≡ Some set)
