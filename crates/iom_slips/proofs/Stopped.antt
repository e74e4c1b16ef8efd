-- The reason of a statement is what stopped its reader.
use Rattle.std.proofs.Common.{◌≡◌, ◌+◌, ◌*◌, ◌%◌, ◌/◌, ◌^◌, ◌<◌, ◌⊎◌, ℕ, ◌==◌, ◌&&◌, if◌then◌else◌, Bool, true, false, not, nat_le, nat_lt, List, [], ◌∷◌, codes, bytes_eq, get_or, length, Option, Some, None, refl, sym, ap, subst, ◌∙◌, inl, inr, arith}
use Rattle.std.specs.Prelude.{IfSome}
use Rattle.std.specs.List.{AllByRecursion, list_all}
use Rattle.std.proofs.lemmas.Nat.{mod_below, pow_pos, shr_split}
use Rattle.std.proofs.Math.Nat.{mod-eq_of_lt}
use Rattle.std.proofs.lemmas.Nat.Bits.{bit_at-zero, same_from_bits}
use Rattle.std.proofs.lemmas.Bool.{and_from, and_parts, cases_Bool, eq-eqb, eqb-true, leb-true, lt-ltb, ltb-true, or_parts}
use Rattle.std.proofs.lemmas.Slice.Eq.{bytes_eq-Decides}
use Rattle.iom_bits.specs.Bits.{field_of, with_field_of}
use Rattle.iom_bits.proofs.Fields.{bit_at-shr, with_field_is}
use Rattle.iom_text.specs.Words.{number}
use Rattle.iom_items.specs.declared.layouts.Layout.{Layout}
use Rattle.iom_items.specs.declared.layouts.Layout.TheVariants as layout
use Rattle.iom_items.specs.Layouts.{Field, base_of, fields_of, keys_of, quarter, row}
use Rattle.iom_items.specs.Operands.{Operand, are_operands, has_key, is_given, is_one_of, number_for, operand_of, value_of}
use Rattle.iom_items.specs.Forms.{content_of, is_sound, stated_from, stated_word, told_by, where_so, words_laid}
use Rattle.iom_items.proofs.Again.{among}
use Rattle.iom_items.proofs.Joined.{turned}
use Rattle.iom_items.specs.Lines.{content_in, number_in, pairs_in}
use Rattle.iom_items.proofs.Bounds.{number_fine}
use Rattle.iom_items.proofs.Fields.{field_below, stays_word}
use Rattle.iom_items.proofs.Laid.{keys_same, once, stated_laid, table}
use Rattle.iom_items.proofs.Reading.{told}
use Rattle.iom_items.proofs.Saying.{some_is}
use Rattle.iom_items.proofs.Stated.{is_within}
use Rattle.iom_slips.specs.declared.items.Keys.TheVariants as keys
use Rattle.iom_slips.specs.declared.ranges.Range.{Range}
use Rattle.iom_slips.specs.Ranges.{is_in, is_one_in, unlike_number}
use Rattle.iom_slips.specs.Items.{laid_slip, operand_slip, operands_slip, range_among, range_by, unfit, value_slip}
use Rattle.iom_slips.specs.Telling.{IsUnfit, all_stand}
use Rattle.iom_slips.proofs.Told.{word_long, word_longer}

-- an operand stands: its key is that of a field and of no later word, and its number is one that tells the field
abbrev in_range : Option Range → List ℕ → Bool
in_range None value = false
in_range (Some range) value = is_one_in range (number value)

abbrev stands : List Field → Option Operand → List (List ℕ) → Bool
stands fields None others = false
stands fields (Some operand) others = not (is_given operand.key others) && in_range (range_among fields operand.key) operand.value

value_stands : (range : Option Range) (word value : List ℕ) → nat_lt 0 (length (value_slip range word value)) ≡ not (in_range range value)
value_stands None word value = word_long word (codes " has an unknown key")
value_stands (Some range) word value = elim (cases_Bool (is_one_in range (number value))) as (λ _. nat_lt 0 (length (value_slip (Some range) word value)) ≡ not (in_range (Some range) value)) [
  | inl is ↦ rw is refl
  | inr other ↦ rw other (word_longer word (codes ": the value") (unlike_number range value))
]

slip_stands : (layout : Layout) (word : List ℕ) (operand : Option Operand) (others : List (List ℕ)) →
    nat_lt 0 (length (operand_slip (keys.Of layout) word operand others)) ≡ not (stands (fields_of layout) operand others)
slip_stands layout word None others = word_long word (codes " isn't KEY=NUMBER")
slip_stands layout word (Some operand) others =
    elim (cases_Bool (is_given operand.key others)) as
    (λ _. nat_lt 0 (length (operand_slip (keys.Of layout) word (Some operand) others)) ≡ not (stands (fields_of layout) (Some operand) others)) [
      | inl twice ↦ rw twice (word_long word (codes " has a key that is given twice"))
      | inr new ↦ rw new (value_stands (range_among (fields_of layout) operand.key) word operand.value)
    ]

-- all operands stand
all_of : List Field → List (List ℕ) → Bool
all_of fields [] = true
all_of fields (word ∷ words) = stands fields (operand_of word) words && all_of fields words

all_same : (layout : Layout) (operands : List (List ℕ)) → all_stand layout operands ≡ all_of (fields_of layout) operands
unfolding all_stand all_of
all_same layout [] = refl
all_same layout (word ∷ words) =
    ap (λ b. not b && all_stand layout words) (slip_stands layout word (operand_of word) words)
    ∙ twice_not (stands (fields_of layout) (operand_of word) words) (all_stand layout words)
    ∙ ap (λ b. stands (fields_of layout) (operand_of word) words && b) (all_same layout words)
  where
    twice_not : (a b : Bool) → (not (not a) && b) ≡ (a && b)
    twice_not true b = refl
    twice_not false b = refl

-- the reason, where all stand
no_slip : (layout : Layout) (operands : List (List ℕ)) (last : List ℕ) → all_stand layout operands ≡ true → operands_slip (keys.Of layout) operands last ≡ last
unfolding all_stand operands_slip
no_slip layout [] last all = refl
no_slip layout (word ∷ words) last all =
    let slip : List ℕ = operand_slip (keys.Of layout) word (operand_of word) words in
    let parts = and_parts (not (nat_lt 0 (length slip))) (all_stand layout words) all in
    rw (turned (nat_lt 0 (length slip)) parts.0) (no_slip layout words last parts.1)

-- Operands that stand pass as operands, and each gives a number that tells its field.
is_same : (one other : List ℕ) → bytes_eq one other ≡ true → one ≡ other
is_same one other is = (bytes_eq-Decides one other).0 is

known_once : (fields : List Field) (operand : Operand) (later : List (List ℕ)) → is_given operand.key later ≡ false →
    in_range (range_among fields operand.key) operand.value ≡ true → is_one_of (keys_of fields) (Some operand) later ≡ true
unfolding range_among
known_once [] operand later new is = absurd cc
known_once (field ∷ fields) operand later new is =
    elim (cases_Bool (bytes_eq operand.key field.key)) as (λ _. is_one_of (keys_of (field ∷ fields)) (Some operand) later ≡ true) [
      | inl same ↦
          let none : is_given field.key later ≡ false = ap (λ key. is_given key later) (sym (is_same operand.key field.key same)) ∙ new in
          rw (same, none) refl
      | inr other ↦
          let rest : in_range (range_among fields operand.key) operand.value ≡ true = rw other at is in
          rw other (known_once fields operand later new rest)
    ]

one_known : (fields : List Field) (operand : Option Operand) (later : List (List ℕ)) → stands fields operand later ≡ true →
    is_one_of (keys_of fields) operand later ≡ true
one_known fields None later is = absurd cc
one_known fields (Some operand) later is =
    let parts = and_parts (not (is_given operand.key later)) (in_range (range_among fields operand.key) operand.value) is in
    known_once fields operand later (turned (is_given operand.key later) parts.0) parts.1

all_known : (fields : List Field) (operands : List (List ℕ)) → all_of fields operands ≡ true → are_operands (keys_of fields) operands ≡ true
unfolding all_of
all_known fields [] all = refl
all_known fields (word ∷ words) all =
    let parts = and_parts (stands fields (operand_of word) words) (all_of fields words) all in
    and_from (is_one_of (keys_of fields) (operand_of word) words) (are_operands (keys_of fields) words)
    (one_known fields (operand_of word) words parts.0) (all_known fields words parts.1)

-- a number in a range
abbrev has_number : Option Range → ℕ → Bool
has_number None n = false
has_number (Some range) n = is_in range n

-- the number that a word writes is in the range, and one of 64 bits
record IsNumber (range : Option Range) (found : Option ℕ) : Type 0 where
  n : ℕ
  is : found ≡ Some n
  within : has_number range n ≡ true
  small : n < 2 ^ 64

one_number : (range : Option Range) (value : List ℕ) → in_range range value ≡ true → IsNumber range (number value)
one_number None value is = absurd cc
one_number (Some range) value is = by (number value) is (number_fine value)
  where
    by : (found : Option ℕ) → is_one_in range found ≡ true → IfSome found (λ n. n < 2 ^ 64) → IsNumber (Some range) found
    by None is small = absurd cc
    by (Some n) is small = record { n = n; is = refl; within = is; small = small }

operand_number : (fields : List Field) (key : List ℕ) (operand : Option Operand) (later : List (List ℕ)) → has_key key operand ≡ true →
    stands fields operand later ≡ true → IsNumber (range_among fields key) (number_for operand)
operand_number fields key None later own is = absurd cc
operand_number fields key (Some operand) later own is =
    let parts = and_parts (not (is_given operand.key later)) (in_range (range_among fields operand.key) operand.value) is in
    one_number (range_among fields key) operand.value
    (ap (λ key. in_range (range_among fields key) operand.value) (sym (is_same operand.key key own)) ∙ parts.1)

-- what is read for a key: 0, or such a number
value_read : (fields : List Field) (key : List ℕ) (operands : List (List ℕ)) → all_of fields operands ≡ true →
    (value_of key operands ≡ Some 0) ⊎ IsNumber (range_among fields key) (value_of key operands)
unfolding all_of
value_read fields key [] all = inl refl
value_read fields key (word ∷ words) all =
    let parts = and_parts (stands fields (operand_of word) words) (all_of fields words) all in
    elim (cases_Bool (has_key key (operand_of word))) as
    (λ _. (value_of key (word ∷ words) ≡ Some 0) ⊎ IsNumber (range_among fields key) (value_of key (word ∷ words))) [
      | inl own ↦ rw own (inr (operand_number fields key (operand_of word) words own parts.0))
      | inr other ↦ rw other (value_read fields key words parts.1)
    ]

-- each field has the range of its own key
others_ranged : (field : Field) (fields some : List Field) → among field.key (keys_of some) ≡ false →
    AllByRecursion (λ (one : Field). range_among fields one.key ≡ Some (range_by one)) some →
    AllByRecursion (λ (one : Field). range_among (field ∷ fields) one.key ≡ Some (range_by one)) some
unfolding range_among
others_ranged field fields [] new ranged = tt
others_ranged field fields (one ∷ some) new ranged =
    let apart = or_parts (bytes_eq one.key field.key) (among field.key (keys_of some)) new in
    (rw apart.0 ranged.0, others_ranged field fields some apart.1 ranged.1)

own_ranged : (fields : List Field) → once (keys_of fields) ≡ true → AllByRecursion (λ (one : Field). range_among fields one.key ≡ Some (range_by one)) fields
unfolding range_among
own_ranged [] apart = tt
own_ranged (field ∷ fields) apart =
    let parts = and_parts (not (among field.key (keys_of fields))) (once (keys_of fields)) apart in (
      rw ((bytes_eq-Decides field.key field.key).1 refl) refl,
      others_ranged field fields fields (turned (among field.key (keys_of fields)) parts.0) (own_ranged fields parts.1),
    )

-- a number in a field's range has as many bits as the field tells
range_small : (field : Field) (n : ℕ) → n < 2 ^ 64 → is_in (range_by field) n ≡ true → n < 2 ^ (field.zeros + field.width)
unfolding is_in
range_small field n small is = elim (cases_Bool (field.zeros + field.width == 64)) as (λ _. n < 2 ^ (field.zeros + field.width)) [
  | inl whole ↦ subst (λ (width : ℕ). n < 2 ^ width) (sym (eqb-true (field.zeros + field.width) 64 whole)) small
  | inr part ↦ ltb-true n (2 ^ (field.zeros + field.width)) (rw part at is)
]

small_range : (field : Field) (n : ℕ) → n < 2 ^ (field.zeros + field.width) → is_in (range_by field) n ≡ true
unfolding is_in
small_range field n less = elim (cases_Bool (field.zeros + field.width == 64)) as (λ _. is_in (range_by field) n ≡ true) [
  | inl whole ↦ rw whole refl
  | inr part ↦ rw part (lt-ltb n (2 ^ (field.zeros + field.width)) less)
]

-- a field gets a content by the operands
record HasContent (operands : List (List ℕ)) (field : Field) : Type 0 where
  n : ℕ
  content : ℕ
  is : value_of field.key operands ≡ Some n
  holds : content_of field n ≡ Some content

small_read : (all : List Field) (field : Field) (operands : List (List ℕ)) → range_among all field.key ≡ Some (range_by field) → all_of all operands ≡ true →
    (n : ℕ) × (value_of field.key operands ≡ Some n) × (n < 2 ^ (field.zeros + field.width))
small_read all field operands ranged stand =
    elim (value_read all field.key operands stand) as (λ _. (n : ℕ) × (value_of field.key operands ≡ Some n) × (n < 2 ^ (field.zeros + field.width))) [
      | inl none ↦ (0, none, pow_pos (field.zeros + field.width))
      | inr read ↦ (read.n, read.is, range_small field read.n read.small (ap (λ range. has_number range read.n) (sym ranged) ∙ read.within))
    ]

read_whole : (n width : ℕ) → n < 2 ^ width → field_of n 0 width ≡ n
read_whole n width small = ap (λ n. n % 2 ^ width) (omega arith) ∙ mod-eq_of_lt small

plain_content : (field : Field) (n : ℕ) → field.zeros ≡ 0 → n < 2 ^ field.width → content_of field n ≡ Some n
plain_content field n none small =
    let whole : field_of n 0 field.width ≡ n = read_whole n field.width small in
    let tells : with_field_of 0 0 field.width n ≡ n = ap (with_field_of 0 0 field.width) (sym whole) ∙ told n 0 field.width ∙ whole in
    rw (none, whole, tells, eq-eqb n n refl) refl

plain_has : (all : List Field) (fields : List Field) (operands : List (List ℕ)) → list_all (λ (field : Field). field.zeros == 0) fields ≡ true →
    AllByRecursion (λ (one : Field). range_among all one.key ≡ Some (range_by one)) fields → all_of all operands ≡ true →
    AllByRecursion (HasContent operands) fields
plain_has all [] operands plain ranged stand = tt
plain_has all (field ∷ fields) operands plain ranged stand =
    let parts = and_parts (field.zeros == 0) (list_all (λ (field : Field). field.zeros == 0) fields) plain in
    let none : field.zeros ≡ 0 = eqb-true field.zeros 0 parts.0 in
    let read = small_read all field operands ranged.0 stand in
    let small : read.0 < 2 ^ field.width = subst (λ (n : ℕ). read.0 < 2 ^ n) (omega (arith, none)) read.2 in (
      record { n = read.0; content = read.0; is = read.1; holds = plain_content field read.0 none small },
      plain_has all fields operands parts.1 ranged.1 stand,
    )

-- so there are words
some_word : (fields : List Field) (operands : List (List ℕ)) (at word : ℕ) → AllByRecursion (HasContent operands) fields →
    (next : ℕ) × (stated_word fields operands at word ≡ Some next)
unfolding stated_word
some_word [] operands at word has = (word, refl)
some_word (field ∷ fields) operands at word has =
    elim (cases_Bool (field.word == at)) as (λ _. (next : ℕ) × (stated_word (field ∷ fields) operands at word ≡ Some next)) [
      | inl here ↦ rw (here, has.0.is, has.0.holds) (some_word fields operands at _ has.1)
      | inr there ↦ rw there (some_word fields operands at word has.1)
    ]

some_words : (fields : List Field) (operands : List (List ℕ)) (at : ℕ) (bases : List ℕ) → AllByRecursion (HasContent operands) fields →
    (words : List ℕ) × (stated_from fields operands at bases ≡ Some words)
unfolding stated_from
some_words fields operands at [] has = ([], refl)
some_words fields operands at (base ∷ bases) has =
    let first = some_word fields operands at base has in
    let others = some_words fields operands (at + 1) bases has in
    (first.0 ∷ others.0, rw (first.1, others.1) refl)

-- a statement with words isn't refused but for what a directory doesn't take
not_none : {A : Type 0} (x : A) → Some x ≡ None → ⊥
not_none x is = absurd cc

only_unsound : (layout : Layout) (operands : List (List ℕ)) → all_of (fields_of layout) operands ≡ true → AllByRecursion (HasContent operands) (fields_of layout) →
    words_laid layout operands ≡ None →
    (words : List ℕ) × (stated_from (fields_of layout) operands 0 (base_of layout) ≡ Some words) × (is_sound layout words ≡ false)
unfolding words_laid
only_unsound layout operands stand has none =
    let made = some_words (fields_of layout) operands 0 (base_of layout) has in
    let known = all_known (fields_of layout) operands stand in
    let rest : where_so (is_sound layout made.0) (Some made.0) ≡ None = rw (known, made.1) at none in (
      made.0,
      made.1,
      elim (cases_Bool (is_sound layout made.0)) as (λ _. is_sound layout made.0 ≡ false) [
        | inl sound ↦ absurd (not_none made.0 (rw sound at rest))
        | inr unsound ↦ unsound
      ],
    )

all_ranged : (layout : Layout) → AllByRecursion (λ (one : Field). range_among (fields_of layout) one.key ≡ Some (range_by one)) (fields_of layout)
all_ranged layout = own_ranged (fields_of layout) (table layout).once

impossible : {A : Type 0} → true ≡ false → A
impossible is = absurd cc

fence_unfit : (operands : List (List ℕ)) → all_of (fields_of layout.Fence) operands ≡ true → words_laid layout.Fence operands ≡ None → IsUnfit layout.Fence operands
unfolding fields_of
fence_unfit operands stand none =
    let (a, (b, (c, (d, (e, (f, rest)))))) = all_ranged layout.Fence in
    let addr : Field = quarter (codes "addr") 1 0 62 in
    let read = small_read (fields_of layout.Fence) addr operands f stand in
    elim (cases_Bool (read.0 % 4 == 0)) as (λ _. IsUnfit layout.Fence operands) [
      | inl multiple ↦
          let whole : content_of addr read.0 ≡ Some (read.0 / 4) = quarter_content read.0 read.2 multiple in
          let others = plain_has (fields_of layout.Fence)
          (row (codes "av") 0 10 1 ∷ row (codes "wsi") 0 11 1 ∷ row (codes "pr") 0 12 1 ∷ row (codes "pw") 0 13 1 ∷ row (codes "data") 0 32 32 ∷ []) operands refl
          (a, (b, (c, (d, (e, tt))))) stand in
          let has : AllByRecursion (HasContent operands) (fields_of layout.Fence) =
          (others.0, (others.1.0, (others.1.1.0, (others.1.1.1.0, (others.1.1.1.1.0, (record { n = read.0; content = read.0 / 4; is = read.1; holds = whole }, tt)))))) in
          impossible (only_unsound layout.Fence operands stand has none).2
      | inr part ↦ (read.0, read.1, part)
    ]
  where
    quarter_content : (n : ℕ) → n < 2 ^ 64 → (n % 4 == 0) ≡ true → content_of (quarter (codes "addr") 1 0 62) n ≡ Some (n / 4)
    quarter_content n small multiple =
        let rest : n % 4 ≡ 0 = eqb-true (n % 4) 0 multiple in
        let content : field_of n 2 62 ≡ n / 4 = omega (arith, small) in
        let tells : with_field_of 0 2 62 (n / 4) ≡ n = omega (arith, small, rest) in
        rw (content, tells, eq-eqb n n refl) refl

plain_unfit : (layout : Layout) (operands : List (List ℕ)) → list_all (λ (field : Field). field.zeros == 0) (fields_of layout) ≡ true →
    all_of (fields_of layout) operands ≡ true → words_laid layout operands ≡ None →
    (words : List ℕ) × (stated_from (fields_of layout) operands 0 (base_of layout) ≡ Some words) × (is_sound layout words ≡ false)
plain_unfit layout operands plain stand none =
    only_unsound layout operands stand (plain_has (fields_of layout) (fields_of layout) operands plain (all_ranged layout) stand) none

unfit_is : (layout : Layout) (operands : List (List ℕ)) → all_of (fields_of layout) operands ≡ true → words_laid layout operands ≡ None → IsUnfit layout operands
unfolding fields_of
unfit_is layout.Fence operands stand none = fence_unfit operands stand none
unfit_is layout.Context operands stand none = plain_unfit layout.Context operands refl stand none
unfit_is layout.ExtendedContext operands stand none = plain_unfit layout.ExtendedContext operands refl stand none
unfit_is layout.Vma operands stand none = impossible (plain_unfit layout.Vma operands refl stand none).2
unfit_is layout.Gvma operands stand none = impossible (plain_unfit layout.Gvma operands refl stand none).2
unfit_is layout.Iodir operands stand none = impossible (plain_unfit layout.Iodir operands refl stand none).2
unfit_is layout.Fault operands stand none = impossible (plain_unfit layout.Fault operands refl stand none).2
unfit_is layout.Dir operands stand none = impossible (plain_unfit layout.Dir operands refl stand none).2
unfit_is layout.Pte operands stand none = impossible (plain_unfit layout.Pte operands refl stand none).2
unfit_is layout.Msi operands stand none = impossible (plain_unfit layout.Msi operands refl stand none).2

-- Operands of a statement that isn't refused stand.
abbrev AreRanged : List Field → List (List ℕ) → Type 0
AreRanged fields operands = (key : List ℕ) (range : Range) → range_among fields key ≡ Some range → IsNumber (Some range) (value_of key operands)

zero_ranged : (fields : List Field) (key : List ℕ) (range : Range) → range_among fields key ≡ Some range → is_in range 0 ≡ true
unfolding range_among
zero_ranged [] key range is = absurd cc
zero_ranged (field ∷ fields) key range is = elim (cases_Bool (bytes_eq key field.key)) as (λ _. is_in range 0 ≡ true) [
  | inl same ↦ subst (λ (range : Range). is_in range 0 ≡ true) (some_is (range_by field) range (rw same at is)) (small_range field 0 (pow_pos (field.zeros + field.width)))
  | inr other ↦ zero_ranged fields key range (rw other at is)
]

told_small : (field : Field) (content : ℕ) → content < 2 ^ field.width → told_by field content < 2 ^ (field.zeros + field.width)
told_small field content fits =
    let n : ℕ = told_by field content in
    let width : ℕ = field.zeros + field.width in
    let put = with_field_is 0 field.zeros field.width content fits in
    let none : n / 2 ^ width ≡ 0 = same_from_bits (n / 2 ^ width) 0 (λ i.
    bit_at-shr n width i ∙ put.above (width + i) (omega arith) ∙ bit_at-zero (width + i) ∙ sym (bit_at-zero i)) in
    let split : n / 2 ^ width * 2 ^ width + n % 2 ^ width ≡ n = shr_split n width in
    let high : n / 2 ^ width * 2 ^ width ≡ 0 * 2 ^ width = ap (λ high. high * 2 ^ width) none in
    let low : n % 2 ^ width ≡ n = omega (arith, split, high) in
    subst (λ (n : ℕ). n < 2 ^ width) low (mod_below n (2 ^ width) (pow_pos width))

ranged_pairs : (fields : List Field) (operands : List (List ℕ)) (words : List ℕ) → list_all is_within fields ≡ true →
    AllByRecursion (λ pair. value_of pair.0 operands ≡ Some pair.1) (pairs_in fields words) → AreRanged fields operands
unfolding range_among
ranged_pairs [] operands words within says key range is = absurd cc
ranged_pairs (field ∷ fields) operands words within says key range is =
    let parts = and_parts (is_within field) (list_all is_within fields) within in
    let own = and_parts (nat_le 1 field.width && nat_le (field.low + field.width) 64) (nat_le (field.zeros + field.width) 64) parts.0 in
    let fits = field_below (get_or words field.word 0) field.low field.width in
    elim (cases_Bool (bytes_eq key field.key)) as (λ _. IsNumber (Some range) (value_of key operands)) [
      | inl same ↦
          let less = told_small field (content_in field words) fits in
          record {
            n = number_in field words;
            is = ap (λ key. value_of key operands) (is_same key field.key same) ∙ says.0;
            within = subst (λ (range : Range). is_in range (number_in field words) ≡ true) (some_is (range_by field) range (rw same at is))
                (small_range field (number_in field words) less);
            small = stays_word 0 field.zeros field.width (content_in field words) (omega arith) (leb-true (field.zeros + field.width) 64 own.1) fits;
          }
      | inr other ↦ ranged_pairs fields operands words parts.1 says.1 key range (rw other at is)
    ]

-- an operand's key is that of no later word
new_key : (known : List (List ℕ)) (key : List ℕ) (operand : Option Operand) (later : List (List ℕ)) → is_one_of known operand later ≡ true →
    has_key key operand ≡ true → is_given key later ≡ false
new_key [] key operand later is own = absurd cc
new_key (first ∷ known) key None later is own = absurd cc
new_key (first ∷ known) key (Some operand) later is own =
    elim (cases_Bool (bytes_eq operand.key first && not (is_given first later))) as (λ _. is_given key later ≡ false) [
      | inl here ↦
          let parts = and_parts (bytes_eq operand.key first) (not (is_given first later)) here in
          let same : first ≡ key = sym (is_same operand.key first parts.0) ∙ is_same operand.key key own in
          ap (λ key. is_given key later) (sym same) ∙ turned (is_given first later) parts.1
      | inr there ↦ new_key known key (Some operand) later (rw there at is) own
    ]

found_range : (fields : List Field) (operand : Operand) (later : List (List ℕ)) → is_one_of (keys_of fields) (Some operand) later ≡ true →
    (range : Range) × (range_among fields operand.key ≡ Some range)
unfolding range_among
found_range [] operand later is = absurd cc
found_range (field ∷ fields) operand later is =
    elim (cases_Bool (bytes_eq operand.key field.key)) as (λ _. (range : Range) × (range_among (field ∷ fields) operand.key ≡ Some range)) [
      | inl same ↦ rw same (range_by field, refl)
      | inr other ↦ rw other (found_range fields operand later (rw other at is))
    ]

not_given : (key : List ℕ) (words : List (List ℕ)) → is_given key words ≡ false → value_of key words ≡ Some 0
not_given key [] none = refl
not_given key (word ∷ words) none =
    let apart = or_parts (has_key key (operand_of word)) (is_given key words) none in
    ap (λ has. if has then number_for (operand_of word) else value_of key words) apart.0 ∙ not_given key words apart.1

later_ranged : (fields : List Field) (word : List ℕ) (words : List (List ℕ)) → is_one_of (keys_of fields) (operand_of word) words ≡ true →
    AreRanged fields (word ∷ words) → AreRanged fields words
later_ranged fields word words one ranged key range is =
    elim (cases_Bool (has_key key (operand_of word))) as (λ _. IsNumber (Some range) (value_of key words)) [
      | inl own ↦ record {
        n = 0;
        is = not_given key words (new_key (keys_of fields) key (operand_of word) words one own);
        within = zero_ranged fields key range is;
        small = omega arith;
      }
      | inr other ↦ rw other at (ranged key range is)
    ]

read_in : (range : Range) (value : List ℕ) (found : Option ℕ) → number value ≡ found → IsNumber (Some range) found → is_one_in range (number value) ≡ true
read_in range value found same read = ap (is_one_in range) (same ∙ read.is) ∙ read.within

stands_one : (fields : List Field) (operand : Option Operand) (words : List (List ℕ)) (found : Option ℕ) → is_one_of (keys_of fields) operand words ≡ true →
    number_for operand ≡ found → ((key : List ℕ) (range : Range) → has_key key operand ≡ true → range_among fields key ≡ Some range → IsNumber (Some range) found) →
    stands fields operand words ≡ true
stands_one fields None words found one same ranged = absurd (none_one (keys_of fields) words one)
  where
    none_one : (known words : List (List ℕ)) → is_one_of known None words ≡ true → ⊥
    none_one [] words is = absurd cc
    none_one (key ∷ known) words is = none_one known words is
stands_one fields (Some operand) words found one same ranged =
    let own : bytes_eq operand.key operand.key ≡ true = (bytes_eq-Decides operand.key operand.key).1 refl in
    let range = found_range fields operand words one in
    and_from (not (is_given operand.key words)) (in_range (range_among fields operand.key) operand.value)
    (ap not (new_key (keys_of fields) operand.key (Some operand) words one own))
    (ap (λ range. in_range range operand.value) range.1 ∙ read_in range.0 operand.value found same (ranged operand.key range.0 own range.1))

all_ok : (fields : List Field) (operands : List (List ℕ)) → are_operands (keys_of fields) operands ≡ true → AreRanged fields operands → all_of fields operands ≡ true
unfolding all_of
all_ok fields [] are ranged = refl
all_ok fields (word ∷ words) are ranged =
    let parts = and_parts (is_one_of (keys_of fields) (operand_of word) words) (are_operands (keys_of fields) words) are in
    and_from (stands fields (operand_of word) words) (all_of fields words)
    (stands_one fields (operand_of word) words (number_for (operand_of word)) parts.0 refl (λ key range own is. rw own at (ranged key range is)))
    (all_ok fields words parts.1 (later_ranged fields word words parts.0 ranged))

laid_stand : (layout : Layout) (operands : List (List ℕ)) (words : List ℕ) → words_laid layout operands ≡ Some words → all_of (fields_of layout) operands ≡ true
laid_stand layout operands words is =
    let stated = stated_laid layout operands words is in
    all_ok (fields_of layout) operands (ap (λ (known : List (List ℕ)). are_operands known operands) (sym (keys_same (fields_of layout) words)) ∙ stated.says.are)
    (ranged_pairs (fields_of layout) operands words (table layout).within stated.says.values)

refused : (layout : Layout) (operands : List (List ℕ)) → all_of (fields_of layout) operands ≡ false → words_laid layout operands ≡ None
refused layout operands not_all = by (words_laid layout operands) refl
  where
    by : (found : Option (List ℕ)) → words_laid layout operands ≡ found → words_laid layout operands ≡ None
    by None is = is
    by (Some words) is = impossible (sym (laid_stand layout operands words is) ∙ not_all)

pub are_stopped : (layout : Layout) (operands : List (List ℕ)) →
    (all_stand layout operands ≡ false → words_laid layout operands ≡ None)
    × (all_stand layout operands ≡ true → (laid_slip layout operands ≡ unfit layout) × (words_laid layout operands ≡ None → IsUnfit layout operands))
are_stopped layout operands = (
  (λ not_all. refused layout operands (sym (all_same layout operands) ∙ not_all)),
  λ all. (no_slip layout operands (unfit layout) all, unfit_is layout operands (sym (all_same layout operands) ∙ all)),
)
