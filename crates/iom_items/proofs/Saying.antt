-- What a statement's operands say: for each key its number.
use Rattle.std.proofs.Common.{◌≡◌, ℕ, ◌<◌, if◌then◌else◌, Bool, true, false, nat_lt, List, map, Option, Some, None, zero, suc, refl, ap, subst, ◌∙◌, arith}
use Rattle.std.specs.List.{AllByRecursion}
use Rattle.std.proofs.lemmas.Bool.{lt-ltb, le-ltb, ltb-true}
use Rattle.iom_bits.specs.Bits.{flag}
use Rattle.iom_items.specs.Operands.{are_operands, value_of, limited, flag_for}
use Rattle.iom_items.specs.Given.{AreOperands, IsValue}
use Rattle.iom_items.proofs.Operating.{reads_values}
use Rattle.iom_items.specs.Lines.{Pair}

pub some_is : {A : Type 0} (x y : A) → Some x ≡ Some y → x ≡ y
some_is x y is = cc

none_is : {A B : Type 0} (x : A) → None ≡ Some x → B
none_is x is = absurd cc

-- a flag and a number below a limit, by the number for the key
pub flag_value : (key : List ℕ) (words : List (List ℕ)) (set : Bool) → flag_for key words ≡ Some set → value_of key words ≡ Some (flag set)
unfolding flag_for limited
flag_value key words set is = by (value_of key words) refl
  where
    by : (found : Option ℕ) → value_of key words ≡ found → value_of key words ≡ Some (flag set)
    by None there = none_is set (rw there at is)
    by (Some zero) there = there ∙ ap (λ set. Some (flag set)) (some_is false set (rw there at is))
    by (Some (suc zero)) there = there ∙ ap (λ set. Some (flag set)) (some_is true set (rw there at is))
    by (Some (suc (suc n))) there = none_is set (rw (there, le-ltb (suc (suc n)) 2 (omega arith)) at is)

pub value_flag : (key : List ℕ) (words : List (List ℕ)) (set : Bool) → value_of key words ≡ Some (flag set) → flag_for key words ≡ Some set
unfolding flag_for limited
value_flag key words true is = rw is refl
value_flag key words false is = rw is refl

pub limited_value : (key : List ℕ) (limit : ℕ) (words : List (List ℕ)) (n : ℕ) → limited key limit words ≡ Some n →
    (value_of key words ≡ Some n) × (n < limit)
unfolding limited
limited_value key limit words n is = by (value_of key words) refl
  where
    kept : (m : ℕ) (less : Bool) → nat_lt m limit ≡ less → (if less then Some m else None) ≡ Some n → (m ≡ n) × (n < limit)
    kept m true less is = let same : m ≡ n = cc in (same, subst (λ m. m < limit) same (ltb-true m limit less))
    kept m false less is = absurd cc

    by : (found : Option ℕ) → value_of key words ≡ found → (value_of key words ≡ Some n) × (n < limit)
    by None there = none_is n (rw there at is)
    by (Some m) there = let parts = kept m (nat_lt m limit) refl (rw there at is) in (there ∙ ap (λ m. Some m) parts.0, parts.1)

pub value_limited : (key : List ℕ) (limit : ℕ) (words : List (List ℕ)) (n : ℕ) → value_of key words ≡ Some n → n < limit →
    limited key limit words ≡ Some n
unfolding limited
value_limited key limit words n is less = rw (is, lt-ltb n limit less) refl

-- `limited` and `flag_for` read exactly the value that the words have for the key
pub reads_limits : (keys : List (List ℕ)) (key : List ℕ) (limit : ℕ) (words : List (List ℕ)) (n : ℕ) → AreOperands keys words →
    (limited key limit words ≡ Some n → IsValue key words n × (n < limit)) × (IsValue key words n → n < limit → limited key limit words ≡ Some n)
reads_limits keys key limit words n are =
    let values = reads_values keys key words n are in (
      (λ is. let value = limited_value key limit words n is in (values.0 value.0, value.1)),
      (λ is less. value_limited key limit words n (values.1 is) less),
    )

pub reads_flags : (keys : List (List ℕ)) (key : List ℕ) (words : List (List ℕ)) (set : Bool) → AreOperands keys words →
    (flag_for key words ≡ Some set → IsValue key words (flag set)) × (IsValue key words (flag set) → flag_for key words ≡ Some set)
reads_flags keys key words set are =
    let values = reads_values keys key words (flag set) are in
    ((λ is. values.0 (flag_value key words set is)), (λ is. value_flag key words set (values.1 is)))

-- what operands say: they have these keys, each with its number, and no other key
pub record Says (pairs : List Pair) (operands : List (List ℕ)) : Type 0 where
  pub are : are_operands (map (λ pair. pair.0) pairs) operands ≡ true
  pub values : AllByRecursion (λ pair. value_of pair.0 operands ≡ Some pair.1) pairs
