-- What an IOMMU reads in words is what their line tells.
use Rattle.std.proofs.Common.{◌≡◌, ◌+◌, ◌*◌, ◌^◌, ◌<◌, ℕ, ◌==◌, ◌&&◌, if◌then◌else◌, Bool, true, false, not, List, [], ◌∷◌, get_or, Option, Some, None, Result, Ok, Err, refl, sym, ap, subst, ◌∙◌, inl, inr, arith}
use Rattle.std.specs.Int.{bit_at}
use Rattle.std.specs.Result.{result_ok}
use Rattle.std.proofs.lemmas.Bool.{and_parts, and_from, cases_Bool, cases_lt, cond_both, eq-eqb, eqb-true}
use Rattle.std.proofs.lemmas.Nat.Bits.{bit_at_above, bit_at-zero, same_from_bits}
use Rattle.std.proofs.lemmas.Grind.{common_steps}
use Rattle.iom_bits.specs.declared.causes.Cause.{Cause}
use Rattle.iom_bits.specs.declared.causes.Cause.TheVariants.{DirInvalid, DirBad}
use Rattle.iom_bits.specs.Bits.{field_of, flag, has_bit, with_field_of}
use Rattle.iom_bits.proofs.Fields.{with_field_is}
use Rattle.iom_ddt.specs.declared.context.Context.{Context}
use Rattle.iom_ddt.specs.Contexts.{is_well_formed}
use Rattle.iom_ddt.specs.Words.{are_words_of, context_in, fields_in, fsc, iohgatp, msi_in, msiptp, ta, tc}
use Rattle.iom_ddt.specs.declared.formats.ContextFormat.{ContextFormat}
use Rattle.iom_ddt.specs.declared.formats.ContextFormat.TheVariants.{Base, Extended}
use Rattle.iom_queue.specs.declared.command.Command.{Command}
use Rattle.iom_queue.specs.Commands.{command_of, fence_in, first_word, gvma_in, iodir_in, operands_of, second_word, vma_in, with_words}
use Rattle.iom_queue.specs.declared.record.Record.{Record}
use Rattle.iom_queue.specs.Records.{record_in, record_of}
use Rattle.iom_items.specs.declared.item.Item.TheVariants as item
use Rattle.iom_items.specs.Items.{PageTableEntry, dir_of, msi_of, pte_of}
use Rattle.iom_items.specs.Layouts.{Layout, base_of, fields_of}
use Rattle.iom_items.specs.declared.layouts.Layout.TheVariants as layout
use Rattle.iom_items.specs.Lines.{are_made, is_laid, made_word, pairs_in}
use Rattle.iom_items.specs.Reading.{AreTold, command_layout, command_pairs, context_pairs, dir_pairs, extended_pairs, msi_pairs, pte_pairs, record_pairs}
use Rattle.iom_items.proofs.Entries.{msi_parts}
use Rattle.iom_items.proofs.Fields.{field_below}
use Rattle.iom_items.proofs.Laid.{low_is}

-- a bit as a field, and a number that has no zeros below it
flag_bit : (word low : ℕ) → flag (has_bit word low) ≡ field_of word low 1
unfolding has_bit
flag_bit word low = grind (arith, common_steps)

pub told : (word low width : ℕ) → with_field_of 0 0 width (field_of word low width) ≡ field_of word low width
told word low width =
    let fits : field_of word low width < 2 ^ width = field_below word low width in
    let put = with_field_is 0 0 width (field_of word low width) fits in
    same_from_bits (with_field_of 0 0 width (field_of word low width)) (field_of word low width) (λ i.
    elim (cases_lt i width) as (λ _. bit_at (with_field_of 0 0 width (field_of word low width)) i ≡ bit_at (field_of word low width) i) [
      | inl below ↦ subst (λ (n : ℕ). bit_at (with_field_of 0 0 width (field_of word low width)) n ≡ bit_at (field_of word low width) i) (omega arith) (put.inside i below)
      | inr above ↦ put.above i (omega (arith, above)) ∙ bit_at-zero i ∙ sym (bit_at_above (field_of word low width) width i fits above)
    ])

both : (x y : Bool) → (x && (y && true) && true) ≡ (x && y)
both true true = refl
both true false = refl
both false true = refl
both false false = refl

two : (a b c d first second : ℕ) → a ≡ c → b ≡ d → ((a == first) && ((b == second) && true) && true) ≡ ((c == first) && (d == second))
two a b c d first second one other = rw (one, other) (both (c == first) (d == second))

vma_laid : (first second : ℕ) → is_laid layout.Vma (first ∷ second ∷ [])
    ≡ ((first_word (vma_in first second) == first) && (second_word (vma_in first second) == second))
unfolding is_laid are_made made_word fields_of base_of
vma_laid first second =
    two _ _ (first_word (vma_in first second)) (second_word (vma_in first second)) first second
    (omega (arith, flag_bit first 10, flag_bit first 32, flag_bit first 33, flag_bit first 34))
    (omega (arith, flag_bit second 9))

gvma_laid : (first second : ℕ) → is_laid layout.Gvma (first ∷ second ∷ [])
    ≡ ((first_word (gvma_in first second) == first) && (second_word (gvma_in first second) == second))
unfolding is_laid are_made made_word fields_of base_of
gvma_laid first second =
    two _ _ (first_word (gvma_in first second)) (second_word (gvma_in first second)) first second
    (omega (arith, flag_bit first 10, flag_bit first 33, flag_bit first 34)) (omega (arith, flag_bit second 9))

fence_laid : (first second : ℕ) → is_laid layout.Fence (first ∷ second ∷ [])
    ≡ ((first_word (fence_in first second) == first) && (second_word (fence_in first second) == second))
unfolding is_laid are_made made_word fields_of base_of
fence_laid first second =
    two _ _ (first_word (fence_in first second)) (second_word (fence_in first second)) first second
    (omega (arith, flag_bit first 10, flag_bit first 11, flag_bit first 12, flag_bit first 13)) (omega arith)

iodir_laid : (first second : ℕ) → is_laid layout.Iodir (first ∷ second ∷ [])
    ≡ ((first_word (iodir_in first) == first) && (second_word (iodir_in first) == second))
unfolding is_laid are_made made_word fields_of base_of
iodir_laid first second =
    two _ _ (first_word (iodir_in first)) (second_word (iodir_in first)) first second (omega (arith, flag_bit first 33)) (omega arith)

vma_told : (first second : ℕ) → pairs_in (fields_of layout.Vma) (first ∷ second ∷ []) ≡ command_pairs (vma_in first second)
unfolding fields_of
vma_told first second =
    rw (
      told first 10 1,
      told second 10 52,
      told first 32 1,
      told first 12 20,
      told first 33 1,
      told first 44 16,
      told first 34 1,
      told second 9 1,
      flag_bit first 10,
      flag_bit first 32,
      flag_bit first 33,
      flag_bit first 34,
      flag_bit second 9,
    ) refl

gvma_told : (first second : ℕ) → pairs_in (fields_of layout.Gvma) (first ∷ second ∷ []) ≡ command_pairs (gvma_in first second)
unfolding fields_of
gvma_told first second =
    rw (
      told first 10 1,
      told second 10 52,
      told first 12 20,
      told first 33 1,
      told first 44 16,
      told first 34 1,
      told second 9 1,
      flag_bit first 10,
      flag_bit first 33,
      flag_bit first 34,
      flag_bit second 9,
    ) refl

quarter_told : (second : ℕ) → with_field_of 0 2 62 (field_of second 0 62) ≡ 4 * field_of second 0 62
quarter_told second = omega arith

fence_told : (first second : ℕ) → pairs_in (fields_of layout.Fence) (first ∷ second ∷ []) ≡ command_pairs (fence_in first second)
unfolding fields_of
fence_told first second =
    rw (
      told first 10 1,
      told first 11 1,
      told first 12 1,
      told first 13 1,
      told first 32 32,
      quarter_told second,
      flag_bit first 10,
      flag_bit first 11,
      flag_bit first 12,
      flag_bit first 13,
    ) refl

iodir_told : (first second : ℕ) → pairs_in (fields_of layout.Iodir) (first ∷ second ∷ []) ≡ command_pairs (iodir_in first)
unfolding fields_of
iodir_told first second = rw (told first 33 1, told first 40 24, flag_bit first 33) refl

-- opcode and func3 of words with a layout
record IsNamed (first opcode func3 : ℕ) : Type 0 where
  code : field_of first 0 7 ≡ opcode
  kind : field_of first 7 3 ≡ func3

named : (first low opcode func3 : ℕ) → field_of first 0 10 ≡ low → opcode < 128 → func3 < 8 → low ≡ opcode + 128 * func3 → IsNamed first opcode func3
named first low opcode func3 is small few sum = record { code = omega (arith, is, small, few, sum); kind = omega (arith, is, small, few, sum) }

kept : (first second : ℕ) (c : Command) → ((first_word c == first) && (second_word c == second)) ≡ true → with_words first second (Some c) ≡ Some c
kept first second c is = rw is refl

lost : (first second : ℕ) (c : Command) → ((first_word c == first) && (second_word c == second)) ≡ false → with_words first second (Some c) ≡ None
lost first second c is = rw is refl

-- words with none of the layouts are no command
no_command : (first second : ℕ) → is_laid layout.Vma (first ∷ second ∷ []) ≡ false → is_laid layout.Gvma (first ∷ second ∷ []) ≡ false →
    is_laid layout.Fence (first ∷ second ∷ []) ≡ false → is_laid layout.Iodir (first ∷ second ∷ []) ≡ false → command_of (first ∷ second ∷ []) ≡ None
unfolding command_of
no_command first second a b c d =
    let opcode : ℕ = field_of first 0 7 in
    let func3 : ℕ = field_of first 7 3 in
    let Goal : Option Command → Type 0 = λ found. with_words first second found ≡ None in
    cond_both (opcode == 1 && func3 == 0) (Some (vma_in first second)) _ Goal (λ _. lost first second (vma_in first second) (sym (vma_laid first second) ∙ a)) (λ _.
    cond_both (opcode == 1 && func3 == 1) (Some (gvma_in first second)) _ Goal (λ _. lost first second (gvma_in first second) (sym (gvma_laid first second) ∙ b)) (λ _.
    cond_both (opcode == 2 && func3 == 0) (Some (fence_in first second)) _ Goal (λ _. lost first second (fence_in first second) (sym (fence_laid first second) ∙ c)) (λ _.
    cond_both (opcode == 3 && func3 == 0) (Some (iodir_in first)) None Goal (λ _. lost first second (iodir_in first) (sym (iodir_laid first second) ∙ d)) (λ _. refl))))

one_command : (first second opcode func3 : ℕ) (c : Command) → IsNamed first opcode func3 → operands_of opcode func3 first second ≡ Some c →
    ((first_word c == first) && (second_word c == second)) ≡ true → command_of (first ∷ second ∷ []) ≡ Some c
unfolding command_of
one_command first second opcode func3 c name there is = rw (name.code, name.kind, there) (kept first second c is)

pub reads_commands : (format : ContextFormat) (first second : ℕ) → AreTold command_layout command_pairs format item.Cmd (first ∷ second ∷ []) (command_of (first ∷ second ∷ []))
unfolding fields_of base_of
reads_commands format first second =
    let words : List ℕ = first ∷ second ∷ [] in
    let Goal : Type 0 = AreTold command_layout command_pairs format item.Cmd words (command_of words) in
    elim (cases_Bool (is_laid layout.Vma words)) as (λ _. Goal) [
      | inl a ↦
          rw (one_command first second 1 0 (vma_in first second) (named first 1 1 0 (low_is layout.Vma words refl a) (omega arith) (omega arith) (omega arith)) refl
          (sym (vma_laid first second) ∙ a)) (rw a refl, vma_told first second)
      | inr a ↦ elim (cases_Bool (is_laid layout.Gvma words)) as (λ _. Goal) [
        | inl b ↦
            rw (one_command first second 1 1 (gvma_in first second) (named first 129 1 1 (low_is layout.Gvma words refl b) (omega arith) (omega arith) (omega arith)) refl
            (sym (gvma_laid first second) ∙ b)) (rw (a, b) refl, gvma_told first second)
        | inr b ↦ elim (cases_Bool (is_laid layout.Fence words)) as (λ _. Goal) [
          | inl c ↦
              rw (one_command first second 2 0 (fence_in first second) (named first 2 2 0 (low_is layout.Fence words refl c) (omega arith) (omega arith) (omega arith)) refl
              (sym (fence_laid first second) ∙ c)) (rw (a, b, c) refl, fence_told first second)
          | inr c ↦ elim (cases_Bool (is_laid layout.Iodir words)) as (λ _. Goal) [
            | inl d ↦
                rw (one_command first second 3 0 (iodir_in first) (named first 3 3 0 (low_is layout.Iodir words refl d) (omega arith) (omega arith) (omega arith)) refl
                (sym (iodir_laid first second) ∙ d)) (rw (a, b, c, d) refl, iodir_told first second)
            | inr d ↦ rw (no_command first second a b c d, a, b, c, d) refl
          ]
        ]
      ]
    ]

-- a fault record: its second word is 0, and its fields are all bits of the others
is_zero : (n : ℕ) → (0 == n) ≡ (n == 0)
is_zero n = grind (arith, common_steps)

four : (a c d first second third fourth : ℕ) → a ≡ first → c ≡ third → d ≡ fourth →
    ((a == first) && ((0 == second) && ((c == third) && ((d == fourth) && true))) && true) ≡ (second == 0)
four a c d first second third fourth one other last =
    rw (eq-eqb a first one, eq-eqb c third other, eq-eqb d fourth last, is_zero second) (all (second == 0))
  where
    all : (b : Bool) → ((true && (b && (true && (true && true)))) && true) ≡ b
    all true = refl
    all false = refl

record_laid : (first second third fourth : ℕ) → first < 2 ^ 64 → third < 2 ^ 64 → fourth < 2 ^ 64 →
    is_laid layout.Fault (first ∷ second ∷ third ∷ fourth ∷ []) ≡ (second == 0)
unfolding is_laid are_made made_word fields_of base_of
record_laid first second third fourth small few last =
    four _ _ _ first second third fourth (omega (arith, small)) (omega (arith, few)) (omega (arith, last))

record_told : (first second third fourth : ℕ) → third < 2 ^ 64 → fourth < 2 ^ 64 →
    pairs_in (fields_of layout.Fault) (first ∷ second ∷ third ∷ fourth ∷ []) ≡ record_pairs (record_in first third fourth)
unfolding fields_of
record_told first second third fourth few last =
    let iotval : field_of third 0 64 ≡ third = omega (arith, few) in
    let iotval2 : field_of fourth 0 64 ≡ fourth = omega (arith, last) in
    rw (
      told first 0 12,
      told first 12 20,
      told first 32 1,
      told first 33 1,
      told first 34 6,
      told first 40 24,
      told third 0 64,
      told fourth 0 64,
      iotval,
      iotval2,
      flag_bit first 32,
      flag_bit first 33,
    ) refl

pub reads_records : (format : ContextFormat) (first second third fourth : ℕ) → first < 2 ^ 64 → third < 2 ^ 64 → fourth < 2 ^ 64 →
    AreTold (λ (fault : Record). layout.Fault) record_pairs format item.Fault (first ∷ second ∷ third ∷ fourth ∷ []) (record_of (first ∷ second ∷ third ∷ fourth ∷ []))
unfolding record_of
reads_records format first second third fourth small few last =
    let words : List ℕ = first ∷ second ∷ third ∷ fourth ∷ [] in
    let laid = record_laid first second third fourth small few last in
    elim (cases_Bool (second == 0)) as (λ _. AreTold (λ (fault : Record). layout.Fault) record_pairs format item.Fault words (record_of words)) [
      | inl none ↦ rw none (rw (laid, none) refl, record_told first second third fourth few last)
      | inr some ↦ rw (some, laid, some) refl
    ]

-- a context: it is well formed, and has just these words
context_ok : (valid well same : Bool) (own c : Context) → (if not valid then Err DirInvalid else if well && same then Ok own else Err DirBad) ≡ Ok c →
    (same ≡ true) × (own ≡ c)
context_ok true true true own c is = (refl, cc)
context_ok true true false own c is = absurd cc
context_ok true false same own c is = absurd cc
context_ok false well same own c is = absurd cc

all_made : (a b c d first second third fourth : ℕ) → a ≡ first → b ≡ second → c ≡ third → d ≡ fourth →
    ((a == first) && ((b == second) && ((c == third) && ((d == fourth) && true)))) ≡ true
all_made a b c d first second third fourth one two three four =
    rw (eq-eqb a first one, eq-eqb b second two, eq-eqb c third three, eq-eqb d fourth four) refl

context_made : (first second third fourth : ℕ) → are_words_of (first ∷ second ∷ third ∷ fourth ∷ []) (fields_in (first ∷ second ∷ third ∷ fourth ∷ [])) ≡ true →
    are_made (fields_of layout.Context) 0 (base_of layout.Context) (first ∷ second ∷ third ∷ fourth ∷ []) ≡ true
unfolding are_made made_word fields_of base_of
context_made first second third fourth same =
    let c : Context = fields_in (first ∷ second ∷ third ∷ fourth ∷ []) in
    let front = and_parts _ _ (and_parts _ _ (and_parts _ _ (and_parts _ _ same).0).0).0 in
    let more = and_parts (first == tc c && second == iohgatp c && third == ta c) (fourth == fsc c) front.0 in
    let some = and_parts (first == tc c && second == iohgatp c) (third == ta c) more.0 in
    let two = and_parts (first == tc c) (second == iohgatp c) some.0 in
    let one_is : tc c ≡ first = sym (eqb-true first (tc c) two.0) in
    let two_is : iohgatp c ≡ second = sym (eqb-true second (iohgatp c) two.1) in
    let three_is : ta c ≡ third = sym (eqb-true third (ta c) some.1) in
    let four_is : fsc c ≡ fourth = sym (eqb-true fourth (fsc c) more.1) in
    all_made _ _ _ _ first second third fourth (omega (arith, one_is, flag_bit first 4)) (omega (arith, two_is)) (omega (arith, three_is, flag_bit third 0)) (omega (arith, four_is))

context_told : (first second third fourth : ℕ) →
    pairs_in (fields_of layout.Context) (first ∷ second ∷ third ∷ fourth ∷ []) ≡ context_pairs (fields_in (first ∷ second ∷ third ∷ fourth ∷ []))
unfolding fields_of
context_told first second third fourth =
    rw (
      told first 4 1,
      told first 24 8,
      told second 60 4,
      told second 0 44,
      told second 44 16,
      told third 0 1,
      told third 12 20,
      told fourth 60 4,
      told fourth 0 44,
      flag_bit first 4,
      flag_bit third 0,
    ) refl

ok_parts : (first second third fourth : ℕ) (c : Context) → context_in (first ∷ second ∷ third ∷ fourth ∷ []) ≡ Ok c →
    (are_words_of (first ∷ second ∷ third ∷ fourth ∷ []) (fields_in (first ∷ second ∷ third ∷ fourth ∷ [])) ≡ true) × (fields_in (first ∷ second ∷ third ∷ fourth ∷ []) ≡ c)
unfolding context_in
ok_parts first second third fourth c is =
    let words : List ℕ = first ∷ second ∷ third ∷ fourth ∷ [] in
    context_ok (has_bit first 0) (is_well_formed (fields_in words)) (are_words_of words (fields_in words)) (fields_in words) c is

none : (b : Bool) (found : Option Layout) → (if b && false then found else None) ≡ None
none true found = refl
none false found = refl

pub reads_contexts : (first second third fourth : ℕ) →
    AreTold (λ (c : Context). layout.Context) context_pairs Base item.Context (first ∷ second ∷ third ∷ fourth ∷ [])
    (result_ok (context_in (first ∷ second ∷ third ∷ fourth ∷ [])))
unfolding is_laid
reads_contexts first second third fourth = by (context_in (first ∷ second ∷ third ∷ fourth ∷ [])) refl
  where
    by : (found : Result Context Cause) → context_in (first ∷ second ∷ third ∷ fourth ∷ []) ≡ found →
        AreTold (λ (c : Context). layout.Context) context_pairs Base item.Context (first ∷ second ∷ third ∷ fourth ∷ []) (result_ok found)
    by (Ok c) is =
        let parts = ok_parts first second third fourth c is in
        (rw (context_made first second third fourth parts.0, is) refl, context_told first second third fourth ∙ ap context_pairs parts.1)
    by (Err why) is = rw is (none (are_made (fields_of layout.Context) 0 (base_of layout.Context) (first ∷ second ∷ third ∷ fourth ∷ [])) (Some layout.Context))

-- one of extended format
all_eight : (a b c d e f g first second third fourth fifth sixth seventh last : ℕ) → a ≡ first → b ≡ second → c ≡ third → d ≡ fourth → e ≡ fifth →
    f ≡ sixth → g ≡ seventh → 0 ≡ last →
    ((a == first) && ((b == second) && ((c == third) && ((d == fourth) && ((e == fifth) && ((f == sixth) && ((g == seventh) && ((0 == last) && true)))))))) ≡ true
all_eight a b c d e f g first second third fourth fifth sixth seventh last one two three four five six seven eight =
    rw (
      eq-eqb a first one,
      eq-eqb b second two,
      eq-eqb c third three,
      eq-eqb d fourth four,
      eq-eqb e fifth five,
      eq-eqb f sixth six,
      eq-eqb g seventh seven,
      eq-eqb 0 last eight,
    ) refl

-- which words they are
record AreOwn (c : Context) (first second third fourth fifth sixth seventh last : ℕ) : Type 0 where
  one : tc c ≡ first
  two : iohgatp c ≡ second
  three : ta c ≡ third
  four : fsc c ≡ fourth
  five : msiptp c.msi ≡ fifth
  six : c.msi.mask ≡ sixth
  seven : c.msi.pattern ≡ seventh
  eight : 0 ≡ last

own_words : (c : Context) (first second third fourth fifth sixth seventh last : ℕ) →
    are_words_of (first ∷ second ∷ third ∷ fourth ∷ fifth ∷ sixth ∷ seventh ∷ last ∷ []) c ≡ true → AreOwn c first second third fourth fifth sixth seventh last
own_words c first second third fourth fifth sixth seventh last same =
    let eight = and_parts _ (last == 0) same in
    let seven = and_parts _ (seventh == c.msi.pattern) eight.0 in
    let six = and_parts _ (sixth == c.msi.mask) seven.0 in
    let five = and_parts _ (fifth == msiptp c.msi) six.0 in
    let four = and_parts (first == tc c && second == iohgatp c && third == ta c) (fourth == fsc c) five.0 in
    let three = and_parts (first == tc c && second == iohgatp c) (third == ta c) four.0 in
    let two = and_parts (first == tc c) (second == iohgatp c) three.0 in
    record {
      one = sym (eqb-true first (tc c) two.0);
      two = sym (eqb-true second (iohgatp c) two.1);
      three = sym (eqb-true third (ta c) three.1);
      four = sym (eqb-true fourth (fsc c) four.1);
      five = sym (eqb-true fifth (msiptp c.msi) five.1);
      six = sym (eqb-true sixth c.msi.mask six.1);
      seven = sym (eqb-true seventh c.msi.pattern seven.1);
      eight = sym (eqb-true last 0 eight.1);
    }

extended_made : (first second third fourth fifth sixth seventh last : ℕ) →
    AreOwn (fields_in (first ∷ second ∷ third ∷ fourth ∷ fifth ∷ sixth ∷ seventh ∷ last ∷ [])) first second third fourth fifth sixth seventh last →
    are_made (fields_of layout.ExtendedContext) 0 (base_of layout.ExtendedContext)
    (first ∷ second ∷ third ∷ fourth ∷ fifth ∷ sixth ∷ seventh ∷ last ∷ []) ≡ true
unfolding are_made made_word fields_of base_of
extended_made first second third fourth fifth sixth seventh last own =
    all_eight _ _ _ _ _ _ _ first second third fourth fifth sixth seventh last (omega (arith, own.one, flag_bit first 4)) (omega (arith, own.two))
    (omega (arith, own.three, flag_bit third 0)) (omega (arith, own.four)) (omega (arith, own.five, flag_bit fifth 60)) (omega (arith, own.six))
    (omega (arith, own.seven)) own.eight

flat_told : (pointer : ℕ) → msiptp (msi_in pointer 0 0) ≡ pointer → field_of pointer 60 4 ≡ field_of pointer 60 1
flat_told pointer is = omega (arith, is, flag_bit pointer 60)

extended_told : (first second third fourth fifth sixth seventh last : ℕ) → msiptp (msi_in fifth 0 0) ≡ fifth →
    pairs_in (fields_of layout.ExtendedContext) (first ∷ second ∷ third ∷ fourth ∷ fifth ∷ sixth ∷ seventh ∷ last ∷ [])
    ≡ extended_pairs (fields_in (first ∷ second ∷ third ∷ fourth ∷ fifth ∷ sixth ∷ seventh ∷ last ∷ []))
unfolding fields_of
extended_told first second third fourth fifth sixth seventh last pointer =
    rw (
      told first 4 1,
      told first 24 8,
      told second 60 4,
      told second 0 44,
      told second 44 16,
      told third 0 1,
      told third 12 20,
      told fourth 60 4,
      told fourth 0 44,
      told fifth 60 4,
      told fifth 0 44,
      told sixth 0 52,
      told seventh 0 52,
      flat_told fifth pointer,
      flag_bit first 4,
      flag_bit third 0,
      flag_bit fifth 60,
    ) refl

eight_parts : (words : List ℕ) (c : Context) → context_in words ≡ Ok c → (are_words_of words (fields_in words) ≡ true) × (fields_in words ≡ c)
unfolding context_in
eight_parts words c is =
    context_ok (has_bit (get_or words 0 0) 0) (is_well_formed (fields_in words)) (are_words_of words (fields_in words)) (fields_in words) c is

pub reads_extended : (first second third fourth fifth sixth seventh last : ℕ) →
    AreTold (λ (c : Context). layout.ExtendedContext) extended_pairs Extended item.Context
    (first ∷ second ∷ third ∷ fourth ∷ fifth ∷ sixth ∷ seventh ∷ last ∷ [])
    (result_ok (context_in (first ∷ second ∷ third ∷ fourth ∷ fifth ∷ sixth ∷ seventh ∷ last ∷ [])))
unfolding is_laid
reads_extended first second third fourth fifth sixth seventh last =
    by (context_in (first ∷ second ∷ third ∷ fourth ∷ fifth ∷ sixth ∷ seventh ∷ last ∷ [])) refl
  where
    by : (found : Result Context Cause) → context_in (first ∷ second ∷ third ∷ fourth ∷ fifth ∷ sixth ∷ seventh ∷ last ∷ []) ≡ found →
        AreTold (λ (c : Context). layout.ExtendedContext) extended_pairs Extended item.Context
        (first ∷ second ∷ third ∷ fourth ∷ fifth ∷ sixth ∷ seventh ∷ last ∷ []) (result_ok found)
    by (Ok c) is =
        let words : List ℕ = first ∷ second ∷ third ∷ fourth ∷ fifth ∷ sixth ∷ seventh ∷ last ∷ [] in
        let parts = eight_parts words c is in
        let own = own_words (fields_in words) first second third fourth fifth sixth seventh last parts.0 in (
          rw (extended_made first second third fourth fifth sixth seventh last own, is) refl,
          extended_told first second third fourth fifth sixth seventh last own.five ∙ ap extended_pairs parts.1,
        )
    by (Err why) is =
        rw is
        (none (are_made (fields_of layout.ExtendedContext) 0 (base_of layout.ExtendedContext)
        (first ∷ second ∷ third ∷ fourth ∷ fifth ∷ sixth ∷ seventh ∷ last ∷ [])) (Some layout.ExtendedContext))

-- entries of a directory and of a page table
one : (made word : ℕ) (test : Bool) → (made ≡ word → test ≡ true) → (test ≡ true → made ≡ word) → (((made == word) && true) && true) ≡ test
one made word test to from = elim (cases_Bool test) as (λ _. (((made == word) && true) && true) ≡ test) [
  | inl holds ↦ rw (eq-eqb made word (from holds), holds) refl
  | inr fails ↦
      let differ : (made == word) ≡ false = elim (cases_Bool (made == word)) as (λ _. (made == word) ≡ false) [
        | inl same ↦ absurd (let is : test ≡ true = to (eqb-true made word same) in cc)
        | inr other ↦ other
      ] in
      rw (differ, fails) refl
]

dir_laid : (word : ℕ) → word < 2 ^ 64 → is_laid layout.Dir (word ∷ []) ≡ (field_of word 0 10 == 1 && field_of word 54 10 == 0)
unfolding is_laid are_made made_word fields_of base_of
dir_laid word small =
    one (with_field_of 1 10 44 (field_of word 10 44)) word (field_of word 0 10 == 1 && field_of word 54 10 == 0)
    (λ is. and_from (field_of word 0 10 == 1) (field_of word 54 10 == 0) (eq-eqb (field_of word 0 10) 1 (omega (arith, is, small)))
    (eq-eqb (field_of word 54 10) 0 (omega (arith, is, small))))
    (λ is. let parts = and_parts (field_of word 0 10 == 1) (field_of word 54 10 == 0) is in
    let low : field_of word 0 10 ≡ 1 = eqb-true (field_of word 0 10) 1 parts.0 in
    let high : field_of word 54 10 ≡ 0 = eqb-true (field_of word 54 10) 0 parts.1 in
    omega (arith, low, high, small))

pte_laid : (word : ℕ) → word < 2 ^ 64 → is_laid layout.Pte (word ∷ []) ≡ (field_of word 54 10 == 0)
unfolding is_laid are_made made_word fields_of base_of
pte_laid word small =
    one (with_field_of (with_field_of 0 10 44 (field_of word 10 44)) 0 10 (field_of word 0 10)) word (field_of word 54 10 == 0)
    (λ is. eq-eqb (field_of word 54 10) 0 (omega (arith, is, small)))
    (λ is. let high : field_of word 54 10 ≡ 0 = eqb-true (field_of word 54 10) 0 is in omega (arith, high, small))

pub reads_entries : (format : ContextFormat) (word : ℕ) → word < 2 ^ 64 →
    AreTold (λ (ppn : ℕ). layout.Dir) dir_pairs format item.Dir (word ∷ []) (dir_of word)
    × AreTold (λ (entry : PageTableEntry). layout.Pte) pte_pairs format item.Pte (word ∷ []) (pte_of word)
unfolding fields_of
reads_entries format word small =
    let dir : AreTold (λ (ppn : ℕ). layout.Dir) dir_pairs format item.Dir (word ∷ []) (dir_of word) =
    elim (cases_Bool (field_of word 0 10 == 1 && field_of word 54 10 == 0)) as (λ _. AreTold (λ (ppn : ℕ). layout.Dir) dir_pairs format item.Dir (word ∷ []) (dir_of word)) [
      | inl is ↦ rw is (rw (dir_laid word small, is) refl, rw (told word 10 44) refl)
      | inr other ↦ rw (other, dir_laid word small, other) refl
    ] in
    let pte : AreTold (λ (entry : PageTableEntry). layout.Pte) pte_pairs format item.Pte (word ∷ []) (pte_of word) =
    elim (cases_Bool (field_of word 54 10 == 0)) as (λ _. AreTold (λ (entry : PageTableEntry). layout.Pte) pte_pairs format item.Pte (word ∷ []) (pte_of word)) [
      | inl is ↦ rw is (rw (pte_laid word small, is) refl, rw (told word 10 44, told word 0 10) refl)
      | inr other ↦ rw (other, pte_laid word small, other) refl
    ] in
    (dir, pte)

-- two tests that follow from each other
agree : (one other : Bool) → (one ≡ true → other ≡ true) → (other ≡ true → one ≡ true) → one ≡ other
agree true other to from = sym (to refl)
agree false true to from = from refl
agree false false to from = refl

-- an entry of an MSI page table
msi_laid : (first second : ℕ) → first < 2 ^ 64 →
    is_laid layout.Msi (first ∷ second ∷ []) ≡ (field_of first 0 10 == 7 && field_of first 54 10 == 0 && second == 0)
unfolding is_laid are_made made_word fields_of base_of
msi_laid first second small =
    both (with_field_of 7 10 44 (field_of first 10 44) == first) (0 == second)
    ∙ agree (with_field_of 7 10 44 (field_of first 10 44) == first && 0 == second) (field_of first 0 10 == 7 && field_of first 54 10 == 0 && second == 0)
    (λ is. let parts = and_parts (with_field_of 7 10 44 (field_of first 10 44) == first) (0 == second) is in
    let made : with_field_of 7 10 44 (field_of first 10 44) ≡ first = eqb-true (with_field_of 7 10 44 (field_of first 10 44)) first parts.0 in
    and_from (field_of first 0 10 == 7 && field_of first 54 10 == 0) (second == 0)
    (and_from (field_of first 0 10 == 7) (field_of first 54 10 == 0) (eq-eqb (field_of first 0 10) 7 (omega (arith, made, small)))
    (eq-eqb (field_of first 54 10) 0 (omega (arith, made, small)))) (eq-eqb second 0 (sym (eqb-true 0 second parts.1))))
    (λ is. let parts = msi_parts first second is in
    and_from (with_field_of 7 10 44 (field_of first 10 44) == first) (0 == second)
    (eq-eqb (with_field_of 7 10 44 (field_of first 10 44)) first (omega (arith, parts.0, parts.1.0, small))) (eq-eqb 0 second (sym parts.1.1)))

pub reads_msi_entries : (format : ContextFormat) (first second : ℕ) → first < 2 ^ 64 →
    AreTold (λ (ppn : ℕ). layout.Msi) msi_pairs format item.Msi (first ∷ second ∷ []) (msi_of first second)
unfolding fields_of
reads_msi_entries format first second small =
    elim (cases_Bool (field_of first 0 10 == 7 && field_of first 54 10 == 0 && second == 0)) as
    (λ _. AreTold (λ (ppn : ℕ). layout.Msi) msi_pairs format item.Msi (first ∷ second ∷ []) (msi_of first second)) [
      | inl is ↦ rw is (rw (msi_laid first second small, is) refl, rw (told first 10 44) refl)
      | inr other ↦ rw (other, msi_laid first second small, other) refl
    ]
