-- Why a `let` gives no name a number.
use Rattle.std.specs.Prelude.{ℕ, not, nat_le, List, [], ◌∷◌, length, codes, Result, Ok, Err, if◌then◌else◌}
use Rattle.std.specs.List.{list_all}
use Rattle.iom_names.specs.Computing.{value_of}
use Rattle.iom_names.specs.Names.{begins_so, is_name, is_name_byte}
use Rattle.iom_names.specs.declared.computing.Slip.{Slip}
use Rattle.iom_names.specs.declared.computing.Slip.TheVariants.{NoNumber, NoSuchNumber, NoOperand, NoSuchOperator, LargeSum, NegativeDifference, LongShift, LostBit}
use Rattle.iom_names.specs.declared.names.Binding.{Binding}

-- a word that may not be a name
abbrev pub name_slip : List ℕ → List ℕ
name_slip word =
    if not (nat_le (length word) 32) then codes "let: NAME has more than 32 bytes"
    else if not (begins_so word) then codes "let: NAME doesn't begin with a letter or _"
    else if not (list_all is_name_byte word) then codes "let: NAME has a byte that isn't a letter, a digit or _"
    else codes "let: NAME is a word of lines, a key, a register or bytes"

-- words that give no number
abbrev pub number_slip : Slip → List ℕ
number_slip NoNumber = codes "let: NUMBER is missing"
number_slip NoSuchNumber = codes "let: NUMBER is neither a number nor a name"
number_slip NoOperand = codes "let: NUMBER is missing behind an operator"
number_slip NoSuchOperator = codes "let: an operator is none of + - << >> & |"
number_slip LargeSum = codes "let: a sum is 2^64 or more"
number_slip NegativeDifference = codes "let: a difference is below 0"
number_slip LongShift = codes "let: a shift is by 64 or more"
number_slip LostBit = codes "let: a shift left loses a bit"

-- a number that is refused, or a name for which there is no room
abbrev pub binding_slip : Result ℕ Slip → List ℕ
binding_slip (Err slip) = number_slip slip
binding_slip (Ok n) = codes "let: there are 64 names already"

-- the words behind `let`
abbrev pub let_slip : List Binding → List (List ℕ) → List ℕ
let_slip names [] = codes "let: NAME is missing"
let_slip names (name ∷ words) = if is_name name then binding_slip (value_of names words) else name_slip name
