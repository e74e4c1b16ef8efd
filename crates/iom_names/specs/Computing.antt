-- The number that words compute of numbers and names, from left to right.
use Rattle.std.specs.Prelude.{ℕ, ◌+◌, ◌-◌, ◌*◌, ◌/◌, ◌^◌, nat_le, nat_lt, List, [], ◌∷◌, codes, bytes_eq, Option, Some, None, ok_or, Result, Ok, Err, if◌then◌else◌}
use Rattle.std.specs.Int.Bits.{bit_and, bit_or}
use Rattle.iom_text.specs.Words.{number}
use Rattle.iom_names.specs.declared.computing.Operator.{Operator}
use Rattle.iom_names.specs.declared.computing.Operator.TheVariants.{Add, Subtract, ShiftLeft, ShiftRight, And, Or}
use Rattle.iom_names.specs.declared.computing.Slip.{Slip}
use Rattle.iom_names.specs.declared.computing.Slip.TheVariants.{NoNumber, NoSuchNumber, NoOperand, NoSuchOperator, LargeSum, NegativeDifference, LongShift, LostBit}
use Rattle.iom_names.specs.declared.names.Binding.{Binding}

-- the number of a name
abbrev pub number_of : List Binding → List ℕ → Option ℕ
number_of [] word = None
number_of (binding ∷ names) word = if bytes_eq word binding.name.items then Some binding.number else number_of names word

-- a number, or that of a name
abbrev pub or_number : List ℕ → Option ℕ → Option ℕ
or_number word (Some n) = Some n
or_number word None = number word

abbrev pub number_said : List Binding → List ℕ → Option ℕ
number_said names word = or_number word (number_of names word)

-- what a word between two numbers does
abbrev pub operator_of : List ℕ → Option Operator
operator_of word =
    if bytes_eq word (codes "+") then Some Add
    else if bytes_eq word (codes "-") then Some Subtract
    else if bytes_eq word (codes "<<") then Some ShiftLeft
    else if bytes_eq word (codes ">>") then Some ShiftRight
    else if bytes_eq word (codes "&") then Some And
    else if bytes_eq word (codes "|") then Some Or
    else None

-- what an operator makes of two numbers: it fits 64 bits, and a shift left loses no bit
abbrev pub applied : Operator → ℕ → ℕ → Result ℕ Slip
applied Add n m = if nat_lt (n + m) (2 ^ 64) then Ok (n + m) else Err LargeSum
applied Subtract n m = if nat_le m n then Ok (n - m) else Err NegativeDifference
applied ShiftLeft n m =
    if nat_le 64 m then Err LongShift
    else if nat_lt (n * 2 ^ m) (2 ^ 64) then Ok (n * 2 ^ m)
    else Err LostBit
applied ShiftRight n m = if nat_le 64 m then Err LongShift else Ok (n / 2 ^ m)
applied And n m = Ok (bit_and n m)
applied Or n m = Ok (bit_or n m)

-- the second, where there is a first
infixl 10 ◌>>=◌
abbrev pub ◌>>=◌ : {A B : Type 0} → Result A Slip → (A → Result B Slip) → Result B Slip
Ok n >>= f = f n
Err slip >>= f = Err slip

-- what an operator and an operand make of a number
abbrev pub next_number : List Binding → ℕ → List ℕ → List ℕ → Result ℕ Slip
next_number names n sign word = do
  operator ← ok_or (operator_of sign) NoSuchOperator
  m ← ok_or (number_said names word) NoSuchNumber
  applied operator n m

-- a number, and what each operator with its operand makes of it in turn
abbrev pub computed : List Binding → ℕ → List (List ℕ) → Result ℕ Slip
computed names n [] = Ok n
computed names n (sign ∷ []) = ok_or (operator_of sign) NoSuchOperator >>= λ operator. Err NoOperand
computed names n (sign ∷ word ∷ words) = next_number names n sign word >>= λ next. computed names next words

-- what a number and the words behind it say
abbrev pub value_of : List Binding → List (List ℕ) → Result ℕ Slip
value_of names [] = Err NoNumber
value_of names (word ∷ words) = ok_or (number_said names word) NoSuchNumber >>= λ n. computed names n words
