-- Words of a layout: those of a statement have it and tell its numbers, and words that have it are those of each statement that tells their numbers.
use Rattle.std.proofs.Common.{◌≡◌, ◌+◌, ℕ, ◌==◌, ◌&&◌, ◌||◌, Bool, true, false, not, nat_le, List, [], ◌∷◌, length, get_or, Some, refl, sym, ap, subst, ◌∙◌, inl, inr, arith}
use Rattle.std.specs.List.{AllByRecursion, list_all}
use Rattle.std.proofs.lemmas.Bool.{and_parts, and_from, cases_Bool, eqb-true, leb-true}
use Rattle.iom_bits.specs.Bits.{field_of}
use Rattle.iom_ddt.specs.declared.formats.ContextFormat.{ContextFormat}
use Rattle.iom_ddt.specs.declared.formats.ContextFormat.TheVariants.{Base, Extended}
use Rattle.iom_items.specs.declared.item.Item.{Item}
use Rattle.iom_items.specs.declared.item.Item.TheVariants as item
use Rattle.iom_items.specs.Operands.{are_operands, value_of}
use Rattle.iom_items.specs.Layouts.{Field, Layout, base_of, context_layout, fields_of, keys_of, layouts_of}
use Rattle.iom_items.specs.declared.layouts.Layout.TheVariants as layout
use Rattle.iom_items.specs.Forms.{is_sound, stated_from, words_laid}
use Rattle.iom_items.specs.Lines.{are_made, content_in, is_laid, layout_among, layout_in, made_word, pairs_in}
use Rattle.iom_items.proofs.Again as again
use Rattle.iom_items.proofs.Again.{AreSmall, among, is_key}
use Rattle.iom_items.proofs.Bounds.{AreWords, stated_fine}
use Rattle.iom_items.proofs.Fields.{field_below, kept_apart, stays_word}
use Rattle.iom_items.proofs.Saying.{Says, some_is}
use Rattle.iom_items.proofs.Stated.{TellsAll, all_apart, all_told, are_inside, are_own, as_many, beside_is, by_all, found_then, is_beside, is_within, under_test}

-- no key stands twice
abbrev pub once : List (List ℕ) → Bool
once [] = true
once (key ∷ keys) = not (among key keys) && once keys

-- what holds of each table, computed
pub record IsTable (layout : Layout) : Type 0 where
  pub within : list_all is_within (fields_of layout) ≡ true
  pub apart : all_apart (fields_of layout) ≡ true
  pub inside : are_inside (length (base_of layout)) (fields_of layout) ≡ true
  pub keys : list_all is_key (keys_of (fields_of layout)) ≡ true
  pub once : once (keys_of (fields_of layout)) ≡ true
  pub base : AreWords (base_of layout)

pub table : (layout : Layout) → IsTable layout
unfolding fields_of base_of
table layout.Vma = record { within = refl; apart = refl; inside = refl; keys = refl; once = refl; base = (omega arith, (omega arith, tt)) }
table layout.Gvma = record { within = refl; apart = refl; inside = refl; keys = refl; once = refl; base = (omega arith, (omega arith, tt)) }
table layout.Fence = record { within = refl; apart = refl; inside = refl; keys = refl; once = refl; base = (omega arith, (omega arith, tt)) }
table layout.Iodir = record { within = refl; apart = refl; inside = refl; keys = refl; once = refl; base = (omega arith, (omega arith, tt)) }
table layout.Fault =
    record { within = refl; apart = refl; inside = refl; keys = refl; once = refl; base = (omega arith, (omega arith, (omega arith, (omega arith, tt)))) }
table layout.Context =
    record { within = refl; apart = refl; inside = refl; keys = refl; once = refl; base = (omega arith, (omega arith, (omega arith, (omega arith, tt)))) }
table layout.ExtendedContext =
    record { within = refl; apart = refl; inside = refl; keys = refl; once = refl; base = (omega arith, (omega arith, (omega arith, (omega arith, (omega arith, (omega arith, (omega arith, (omega arith, tt)))))))) }
table layout.Dir = record { within = refl; apart = refl; inside = refl; keys = refl; once = refl; base = (omega arith, tt) }
table layout.Pte = record { within = refl; apart = refl; inside = refl; keys = refl; once = refl; base = (omega arith, tt) }
table layout.Msi = record { within = refl; apart = refl; inside = refl; keys = refl; once = refl; base = (omega arith, (omega arith, tt)) }

-- pairs are the numbers that words tell
pub keys_same : (fields : List Field) (words : List ℕ) → again.keys_of (pairs_in fields words) ≡ keys_of fields
keys_same [] words = refl
keys_same (field ∷ fields) words = ap (λ (keys : List (List ℕ)). field.key ∷ keys) (keys_same fields words)

says_values : (fields : List Field) (operands : List (List ℕ)) (words : List ℕ) → TellsAll operands words fields →
    AllByRecursion (λ pair. value_of pair.0 operands ≡ Some pair.1) (pairs_in fields words)
says_values [] operands words told = tt
says_values (field ∷ fields) operands words told = (told.0, says_values fields operands words told.1)

tells_values : (fields : List Field) (operands : List (List ℕ)) (words : List ℕ) →
    AllByRecursion (λ pair. value_of pair.0 operands ≡ Some pair.1) (pairs_in fields words) → TellsAll operands words fields
tells_values [] operands words says = tt
tells_values (field ∷ fields) operands words says = (says.0, tells_values fields operands words says.1)

pub small_in : (fields : List Field) (words : List ℕ) → list_all is_within fields ≡ true → AreSmall (pairs_in fields words)
small_in [] words within = tt
small_in (field ∷ fields) words within =
    let parts = and_parts (is_within field) (list_all is_within fields) within in
    let own = and_parts (nat_le 1 field.width && nat_le (field.low + field.width) 64) (nat_le (field.zeros + field.width) 64) parts.0 in (
      stays_word 0 field.zeros field.width (content_in field words) (omega arith) (leb-true (field.zeros + field.width) 64 own.1)
          (field_below (get_or words field.word 0) field.low field.width),
      small_in fields words parts.1,
    )

-- a statement's words
pub record IsStated (layout : Layout) (operands : List (List ℕ)) (words : List ℕ) : Type 0 where
  pub laid : is_laid layout words ≡ true
  pub says : Says (pairs_in (fields_of layout) words) operands
  pub fine : AreWords words
  pub many : length words ≡ length (base_of layout)

pub stated_laid : (layout : Layout) (operands : List (List ℕ)) (words : List ℕ) → words_laid layout operands ≡ Some words → IsStated layout operands words
unfolding words_laid is_laid
stated_laid layout operands words is =
    let fields = fields_of layout in
    let fine = table layout in
    let test = under_test (are_operands (keys_of fields) operands) _ words is in
    let a = found_then (stated_from fields operands 0 (base_of layout)) _ words test.1 in
    let b = under_test (is_sound layout a.0) (Some a.0) words a.2 in
    let same : a.0 ≡ words = some_is a.0 words b.1 in
    let made : stated_from fields operands 0 (base_of layout) ≡ Some words = a.1 ∙ ap (λ (words : List ℕ). Some words) same in
    let told : TellsAll operands words fields = all_told fields operands (base_of layout) words fine.apart fine.inside made in
    record {
      laid = and_from (are_made fields 0 (base_of layout) words) (is_sound layout words)
          (are_own fields operands words 0 (base_of layout) words told (λ i few. ap (λ n. get_or words n 0) (omega arith)) made)
          (subst (λ (words : List ℕ). is_sound layout words ≡ true) same b.0);
      says = record {
        are = ap (λ (keys : List (List ℕ)). are_operands keys operands) (keys_same fields words) ∙ test.0;
        values = says_values fields operands words told;
      };
      fine = stated_fine fields operands 0 (base_of layout) words fine.within fine.base made;
      many = as_many fields operands 0 (base_of layout) words made;
    }

pub laid_stated : (layout : Layout) (operands : List (List ℕ)) (words : List ℕ) → is_laid layout words ≡ true → Says (pairs_in (fields_of layout) words) operands →
    words_laid layout operands ≡ Some words
unfolding words_laid is_laid
laid_stated layout operands words laid says =
    let fields = fields_of layout in
    let parts = and_parts (are_made fields 0 (base_of layout) words) (is_sound layout words) laid in
    let are : are_operands (keys_of fields) operands ≡ true = ap (λ (keys : List (List ℕ)). are_operands keys operands) (sym (keys_same fields words)) ∙ says.are in
    let made : stated_from fields operands 0 (base_of layout) ≡ Some words =
    by_all fields operands words 0 (base_of layout) words (tells_values fields operands words says.values) (λ i few. ap (λ n. get_or words n 0) (omega arith)) parts.0 in
    rw (are, made, parts.1) refl

-- Bits beside the fields are those of the base.
made_kept : (fields : List Field) (at word made low width : ℕ) →
    AllByRecursion (λ (field : Field). (field.word == at) ≡ true → is_beside low width field ≡ true) fields →
    field_of (made_word fields at word made) low width ≡ field_of made low width
unfolding made_word
made_kept [] at word made low width beside = refl
made_kept (field ∷ fields) at word made low width beside =
    elim (cases_Bool (field.word == at)) as (λ _. field_of (made_word (field ∷ fields) at word made) low width ≡ field_of made low width) [
      | inl here ↦
          rw here (made_kept fields at word _ low width beside.1
          ∙ kept_apart made field.low field.width (field_of word field.low field.width) low width (field_below word field.low field.width)
          (beside_is low width field (beside.0 here)))
      | inr there ↦ rw there (made_kept fields at word made low width beside.1)
    ]

-- A command's opcode and func3 are its lowest ten bits, which no field has.
free_all : (fields : List Field) → list_all (λ (field : Field). not (field.word == 0) || is_beside 0 10 field) fields ≡ true →
    AllByRecursion (λ (field : Field). (field.word == 0) ≡ true → is_beside 0 10 field ≡ true) fields
free_all [] is = tt
free_all (field ∷ fields) is =
    let parts = and_parts (not (field.word == 0) || is_beside 0 10 field) (list_all (λ (field : Field). not (field.word == 0) || is_beside 0 10 field) fields) is in
    ((λ here. ap (λ b. not b || is_beside 0 10 field) (sym here) ∙ parts.0), free_all fields parts.1)

abbrev low_of : List ℕ → ℕ
low_of words = field_of (get_or words 0 0) 0 10

low_made : (fields : List Field) (bases words : List ℕ) → list_all (λ (field : Field). not (field.word == 0) || is_beside 0 10 field) fields ≡ true →
    are_made fields 0 bases words ≡ true → low_of words ≡ low_of bases
unfolding are_made
low_made fields [] [] free made = refl
low_made fields [] (word ∷ words) free made = absurd cc
low_made fields (base ∷ bases) [] free made = absurd cc
low_made fields (base ∷ bases) (word ∷ words) free made =
    let own = and_parts (made_word fields 0 word base == word) (are_made fields 1 bases words) made in
    ap (λ word. field_of word 0 10) (sym (eqb-true (made_word fields 0 word base) word own.0))
    ∙ made_kept fields 0 word base 0 10 (free_all fields free)

pub low_is : (layout : Layout) (words : List ℕ) → list_all (λ (field : Field). not (field.word == 0) || is_beside 0 10 field) (fields_of layout) ≡ true →
    is_laid layout words ≡ true → low_of words ≡ low_of (base_of layout)
unfolding is_laid
low_is layout words free laid =
    low_made (fields_of layout) (base_of layout) words free (and_parts (are_made (fields_of layout) 0 (base_of layout) words) (is_sound layout words) laid).0

-- the item of a layout
abbrev pub item_of : Layout → Item
item_of layout.Vma = item.Cmd
item_of layout.Gvma = item.Cmd
item_of layout.Fence = item.Cmd
item_of layout.Iodir = item.Cmd
item_of layout.Fault = item.Fault
item_of layout.Context = item.Context
item_of layout.ExtendedContext = item.Context
item_of layout.Dir = item.Dir
item_of layout.Pte = item.Pte
item_of layout.Msi = item.Msi

-- whether words may have a layout where contexts have this format
abbrev pub is_base : ContextFormat → Bool
is_base Base = true
is_base Extended = false

abbrev pub is_among : Layout → ContextFormat → Bool
is_among layout.Vma format = true
is_among layout.Gvma format = true
is_among layout.Fence format = true
is_among layout.Iodir format = true
is_among layout.Fault format = true
is_among layout.Context format = is_base format
is_among layout.ExtendedContext format = not (is_base format)
is_among layout.Dir format = true
is_among layout.Pte format = true
is_among layout.Msi format = true

pub base_is : (format : ContextFormat) → is_base format ≡ true → format ≡ Base
base_is Base is = refl
base_is Extended is = absurd cc

pub extended_is : (format : ContextFormat) → not (is_base format) ≡ true → format ≡ Extended
extended_is Base is = absurd cc
extended_is Extended is = refl

-- the layout of a context
pub record IsContextLayout (format : ContextFormat) : Type 0 where
  pub item : item_of (context_layout format) ≡ item.Context
  pub among : is_among (context_layout format) format ≡ true

pub own_layout : (format : ContextFormat) → IsContextLayout format
own_layout Base = record { item = refl; among = refl }
own_layout Extended = record { item = refl; among = refl }

-- another command's layout isn't one of these words
other_laid : (own other : Layout) (words : List ℕ) → list_all (λ (field : Field). not (field.word == 0) || is_beside 0 10 field) (fields_of own) ≡ true →
    list_all (λ (field : Field). not (field.word == 0) || is_beside 0 10 field) (fields_of other) ≡ true →
    (low_of (base_of own) == low_of (base_of other)) ≡ false → is_laid own words ≡ true → is_laid other words ≡ false
other_laid own other words free other_free differ laid = elim (cases_Bool (is_laid other words)) as (λ _. is_laid other words ≡ false) [
  | inl too ↦
      let same : low_of (base_of own) ≡ low_of (base_of other) = sym (low_is own words free laid) ∙ low_is other words other_free too in
      absurd (grind (arith, same, differ))
  | inr none ↦ none
]

pub layout_is : (format : ContextFormat) (layout : Layout) (words : List ℕ) → is_among layout format ≡ true → is_laid layout words ≡ true →
    layout_in format (item_of layout) words ≡ Some layout
unfolding fields_of base_of
layout_is format layout.Vma words among laid = rw laid refl
layout_is format layout.Gvma words among laid = rw (other_laid layout.Gvma layout.Vma words refl refl refl laid, laid) refl
layout_is format layout.Fence words among laid =
    rw (other_laid layout.Fence layout.Vma words refl refl refl laid, other_laid layout.Fence layout.Gvma words refl refl refl laid, laid) refl
layout_is format layout.Iodir words among laid =
    rw (
      other_laid layout.Iodir layout.Vma words refl refl refl laid,
      other_laid layout.Iodir layout.Gvma words refl refl refl laid,
      other_laid layout.Iodir layout.Fence words refl refl refl laid,
      laid,
    ) refl
layout_is format layout.Fault words among laid = rw laid refl
layout_is format layout.Context words among laid = rw (base_is format among, laid) refl
layout_is format layout.ExtendedContext words among laid = rw (extended_is format among, laid) refl
layout_is format layout.Dir words among laid = rw laid refl
layout_is format layout.Pte words among laid = rw laid refl
layout_is format layout.Msi words among laid = rw laid refl

-- the layout that was found
among_is : (layouts : List Layout) (words : List ℕ) (layout : Layout) → layout_among layouts words ≡ Some layout → is_laid layout words ≡ true
among_is [] words layout is = absurd cc
among_is (own ∷ layouts) words layout is = elim (cases_Bool (is_laid own words)) as (λ _. is_laid layout words ≡ true) [
  | inl laid ↦ subst (λ (layout : Layout). is_laid layout words ≡ true) (some_is own layout (rw laid at is)) laid
  | inr other ↦ among_is layouts words layout (rw other at is)
]

pub found_is : (format : ContextFormat) (kind : Item) (words : List ℕ) (layout : Layout) → layout_in format kind words ≡ Some layout →
    is_laid layout words ≡ true
found_is format kind words layout is = among_is (layouts_of format kind) words layout is
