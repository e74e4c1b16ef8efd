-- What a statement `capabilities` says is an offer.
use Rattle.std.proofs.Common.{◌≡◌, ◌≢◌, ◌^◌, ◌==◌, ◌&&◌, ◌||◌, ℕ, Bool, true, false, not, List, [], ◌∷◌, Option, Some, None, if◌then◌else◌, refl, sym, ap, ◌∙◌, arith, bit_and, bit_or, min, eq-eqb}
use Rattle.std.specs.Prelude.{IfSome}
use Rattle.std.specs.Int.{bit_at}
use Rattle.std.proofs.lemmas.Bool.{and_parts}
use Rattle.std.proofs.lemmas.Nat.Bits.{bit_at_and, bit_at_or, bit_at-lt, bit_at-pow_other, bit_at-zero, same_from_bits}
use Rattle.iom_bits.specs.Bits.{has_bit}
use Rattle.iom_bits.specs.Features.{Feature, all_bits, beside, choice_bit, four_vectors_bit, interrupts_word, is_offer, rows, two_vectors_bit, vectors_word, wires_bit}
use Rattle.iom_bits.specs.declared.features.Interrupts.{Interrupts}
use Rattle.iom_bits.specs.declared.features.Interrupts.TheVariants.{Messages, Wires, Choice}
use Rattle.iom_bits.specs.declared.features.Vectors.{Vectors}
use Rattle.iom_bits.specs.declared.features.Vectors.TheVariants.{One, Two, Four}
use Rattle.iom_items.specs.Operands.{◌>>=◌, are_operands, flag_for}
use Rattle.iom_items.specs.Forms.{where_so}
use Rattle.iom_items.specs.Capabilities.{bits_for, features_for, interrupts_for, keys_of, vectors_for}

-- one word is a part of another
abbrev IsPart : ℕ → ℕ → Type 0
IsPart part whole = bit_and part whole ≡ part

part_at : (part whole : ℕ) → IsPart part whole → (i : ℕ) → min (bit_at part i) (bit_at whole i) ≡ bit_at part i
part_at part whole is i = sym (bit_at_and part whole i) ∙ ap (λ n. bit_at n i) is

from_bits : (part whole : ℕ) → ((i : ℕ) → min (bit_at part i) (bit_at whole i) ≡ bit_at part i) → IsPart part whole
from_bits part whole each = same_from_bits (bit_and part whole) part (λ i. bit_at_and part whole i ∙ each i)

-- the parts of one of two words, and of the other
part_left : (part left right : ℕ) → IsPart part left → IsPart part (bit_or left right)
part_left part left right is = from_bits part (bit_or left right) (λ i.
    ap (min (bit_at part i)) (bit_at_or left right i) ∙ grind (arith, part_at part left is i))

part_right : (part left right : ℕ) → IsPart part right → IsPart part (bit_or left right)
part_right part left right is = from_bits part (bit_or left right) (λ i.
    ap (min (bit_at part i)) (bit_at_or left right i) ∙ grind (arith, part_at part right is i))

part_own : (part right : ℕ) → IsPart part (bit_or part right)
part_own part right = from_bits part (bit_or part right) (λ i. ap (min (bit_at part i)) (bit_at_or part right i) ∙ grind arith)

-- two parts together are a part
parts : (one two whole : ℕ) → IsPart one whole → IsPart two whole → IsPart (bit_or one two) whole
parts one two whole first second = from_bits (bit_or one two) whole (λ i.
    ap (λ n. min n (bit_at whole i)) (bit_at_or one two i) ∙ grind (arith, part_at one whole first i, part_at two whole second i)
    ∙ sym (bit_at_or one two i))

part_none : (whole : ℕ) → IsPart 0 whole
part_none whole = from_bits 0 whole (λ i. grind (arith, bit_at-zero i))

-- the bits that operands set are bits of the rows
abbrev HasPart : List Feature → Option ℕ → Type 0
HasPart table None = Unit {0}
HasPart table (Some bits) = IsPart bits (all_bits table)

set_part : (row : Feature) (table : List Feature) (set : Bool) (others : ℕ) → IsPart others (all_bits table) →
    IsPart (if set then bit_or (2 ^ row.bit) others else others) (bit_or (2 ^ row.bit) (all_bits table))
set_part row table true others is =
    parts (2 ^ row.bit) others (bit_or (2 ^ row.bit) (all_bits table)) (part_own (2 ^ row.bit) (all_bits table)) (part_right others (2 ^ row.bit) (all_bits table) is)
set_part row table false others is = part_right others (2 ^ row.bit) (all_bits table) is

bits_part : (table : List Feature) (words : List (List ℕ)) → HasPart table (bits_for table words)
bits_part [] words = part_none 0
bits_part (row ∷ table) words = by (flag_for row.name words) (bits_for table words) (bits_part table words)
  where
    by : (flag : Option Bool) (others : Option ℕ) → HasPart table others →
        HasPart (row ∷ table) (flag >>= λ set. others >>= λ others. Some (if set then bit_or (2 ^ row.bit) others else others))
    by None others part = tt
    by (Some set) None part = tt
    by (Some set) (Some others) part = set_part row table set others part

no_bit : (word bit : ℕ) → bit_at word bit ≡ 0 → has_bit word bit ≡ false
unfolding has_bit
no_bit word bit is = ap (λ n. n == 1) is

-- a bit of two words together
or_bit : (one two bit : ℕ) → has_bit (bit_or one two) bit ≡ (has_bit one bit || has_bit two bit)
unfolding has_bit
or_bit one two bit = ap (λ n. n == 1) (bit_at_or one two bit) ∙ grind (arith, bit_at-lt one bit, bit_at-lt two bit)

-- none of the rows has a bit of those beside them
abbrev are_other : ℕ → List Feature → Bool
are_other bit [] = true
are_other bit (row ∷ table) = not (row.bit == bit) && are_other bit table

not_same : (row : Feature) (bit : ℕ) → not (row.bit == bit) ≡ true → bit ≢ row.bit
not_same row bit other same = absurd (grind (arith, other, same))

row_other : (row : Feature) (bit : ℕ) → not (row.bit == bit) ≡ true → has_bit (2 ^ row.bit) bit ≡ false
row_other row bit other = no_bit (2 ^ row.bit) bit (bit_at-pow_other row.bit bit (not_same row bit other))

abbrev HasOther : ℕ → Option ℕ → Type 0
HasOther bit None = Unit {0}
HasOther bit (Some bits) = has_bit bits bit ≡ false

bits_other : (table : List Feature) (words : List (List ℕ)) (bit : ℕ) → are_other bit table ≡ true → HasOther bit (bits_for table words)
bits_other [] words bit other = no_bit 0 bit (bit_at-zero bit)
bits_other (row ∷ table) words bit other =
    by (flag_for row.name words) (bits_for table words) (bits_other table words bit each.1)
  where
    each : (not (row.bit == bit) ≡ true) × (are_other bit table ≡ true)
    each = and_parts (not (row.bit == bit)) (are_other bit table) other

    set_other : (set : Bool) (others : ℕ) → has_bit others bit ≡ false → has_bit (if set then bit_or (2 ^ row.bit) others else others) bit ≡ false
    set_other true others none = or_bit (2 ^ row.bit) others bit ∙ ap (λ b. b || has_bit others bit) (row_other row bit each.0) ∙ none
    set_other false others none = none

    by : (flag : Option Bool) (others : Option ℕ) → HasOther bit others →
        HasOther bit (flag >>= λ set. others >>= λ others. Some (if set then bit_or (2 ^ row.bit) others else others))
    by None others none = tt
    by (Some set) None none = tt
    by (Some set) (Some others) none = set_other set others none

rows_other : (are_other wires_bit rows && are_other choice_bit rows && are_other two_vectors_bit rows && are_other four_vectors_bit rows) ≡ true
unfolding rows
rows_other = refl

-- so many vectors and an IGS are of those beside the rows: one number of vectors, and not IGS 3
abbrev others_word : Vectors → Interrupts → ℕ
others_word vectors interrupts = bit_or (vectors_word vectors) (interrupts_word interrupts)

others_part : (vectors : Vectors) (interrupts : Interrupts) → IsPart (others_word vectors interrupts) beside
others_part One Messages = refl
others_part One Wires = refl
others_part One Choice = refl
others_part Two Messages = refl
others_part Two Wires = refl
others_part Two Choice = refl
others_part Four Messages = refl
others_part Four Wires = refl
others_part Four Choice = refl

one_number : (vectors : Vectors) (interrupts : Interrupts) →
    (has_bit (others_word vectors interrupts) two_vectors_bit && has_bit (others_word vectors interrupts) four_vectors_bit) ≡ false
unfolding has_bit
one_number One Messages = refl
one_number One Wires = refl
one_number One Choice = refl
one_number Two Messages = refl
one_number Two Wires = refl
one_number Two Choice = refl
one_number Four Messages = refl
one_number Four Wires = refl
one_number Four Choice = refl

one_igs : (vectors : Vectors) (interrupts : Interrupts) →
    (has_bit (others_word vectors interrupts) wires_bit && has_bit (others_word vectors interrupts) choice_bit) ≡ false
unfolding has_bit
one_igs One Messages = refl
one_igs One Wires = refl
one_igs One Choice = refl
one_igs Two Messages = refl
one_igs Two Wires = refl
one_igs Two Choice = refl
one_igs Four Messages = refl
one_igs Four Wires = refl
one_igs Four Choice = refl

-- a bit that no row has is one of the others
same_bit : (words : List (List ℕ)) (bits others bit : ℕ) → bits_for rows words ≡ Some bits → are_other bit rows ≡ true →
    has_bit (bit_or bits others) bit ≡ has_bit others bit
same_bit words bits others bit is other =
    let none : has_bit bits bit ≡ false = rw is at (bits_other rows words bit other) in
    or_bit bits others bit ∙ ap (λ b. b || has_bit others bit) none

pub is_capable : (words : List (List ℕ)) (bits : ℕ) (vectors : Vectors) (interrupts : Interrupts) → bits_for rows words ≡ Some bits →
    is_offer (bit_or bits (bit_or (vectors_word vectors) (interrupts_word interrupts))) ≡ true
unfolding is_offer
is_capable words bits vectors interrupts is =
    let others : ℕ = others_word vectors interrupts in
    let word : ℕ = bit_or bits others in
    let whole : ℕ = bit_or beside (all_bits rows) in
    let own : IsPart bits (all_bits rows) = rw is at (bits_part rows words) in
    let known : IsPart word whole =
    parts bits others whole (part_right bits beside (all_bits rows) own) (part_left others beside (all_bits rows) (others_part vectors interrupts)) in
    let a = and_parts (are_other wires_bit rows && are_other choice_bit rows && are_other two_vectors_bit rows) (are_other four_vectors_bit rows) rows_other in
    let b = and_parts (are_other wires_bit rows && are_other choice_bit rows) (are_other two_vectors_bit rows) a.0 in
    let c = and_parts (are_other wires_bit rows) (are_other choice_bit rows) b.0 in
    rw (
      eq-eqb (bit_and word whole) word known,
      same_bit words bits others wires_bit is c.0,
      same_bit words bits others choice_bit is c.1,
      same_bit words bits others two_vectors_bit is b.1,
      same_bit words bits others four_vectors_bit is a.1,
      one_number vectors interrupts,
      one_igs vectors interrupts,
    ) refl

-- the features that the operands of a statement stand for are an offer
pub capable : (words : List (List ℕ)) → IfSome (features_for words) (λ features. is_offer features ≡ true)
unfolding features_for
capable words = by (are_operands (keys_of rows) words) (bits_for rows words) refl (vectors_for words) (interrupts_for words)
  where
    by : (given : Bool) (found : Option ℕ) → bits_for rows words ≡ found → (vectors : Option Vectors) (interrupts : Option Interrupts) →
        IfSome (where_so given (found >>= λ bits. vectors >>= λ vectors. interrupts >>= λ interrupts.
        Some (bit_or bits (bit_or (vectors_word vectors) (interrupts_word interrupts))))) (λ features. is_offer features ≡ true)
    by false found is vectors interrupts = tt
    by true None is vectors interrupts = tt
    by true (Some bits) is None interrupts = tt
    by true (Some bits) is (Some vectors) None = tt
    by true (Some bits) is (Some vectors) (Some interrupts) = is_capable words bits vectors interrupts is
