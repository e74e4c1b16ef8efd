-- The line of an item is a statement of its words, on an IOMMU with any features.
use Rattle.std.proofs.Common.{◌≡◌, ◌≢◌, ◌^◌, ◌<◌, ◌≤◌, ◌⊎◌, ℕ, ◌==◌, ◌&&◌, ◌||◌, if◌then◌else◌, Bool, true, false, not, nat_le, nat_lt, List, [], ◌∷◌, ◌++◌, append-nil, append_assoc, take, take-append-drop, drop, map, length, codes, bytes_eq, Option, Some, None, All, refl, sym, ap, subst, ◌∙◌, inl, inr, arith}
use Rattle.std.specs.Prelude.{IfSome}
use Rattle.std.specs.List.{AllByRecursion, list_all}
use Rattle.std.specs.Option.{option_map}
use Rattle.std.specs.Char.{digit_value, is_digit}
use Rattle.std.specs.Str.Parse.{digits_value}
use Rattle.std.proofs.lemmas.Bool.{and_parts, and_from, cases_Bool, cond_both, le-leb, leb-true, ltb-true, eqb-true}
use Rattle.std.proofs.lemmas.Slice.Eq.{bytes_eq-Decides}
use Rattle.std.proofs.lemmas.List.{length-map}
use Rattle.iom_bits.specs.Bits.{has_bit}
use Rattle.iom_bits.specs.Features.{Features, nl_bit, s_bit, sv57_bit, sv57x4_bit}
use Rattle.iom_ddt.specs.Formats.{context_format}
use Rattle.iom_ddt.specs.declared.formats.ContextFormat.{ContextFormat}
use Rattle.iom_ddt.specs.declared.formats.ContextFormat.TheVariants.{Base, Extended}
use Rattle.iom_text.specs.Texts.{hexadecimal}
use Rattle.iom_text.specs.Words.{number, number_in, words_of}
use Rattle.iom_items.specs.declared.item.Item.{Item}
use Rattle.iom_items.specs.declared.item.Item.TheVariants as item
use Rattle.iom_items.specs.Items.{context_words, item_named, name_of, words_in}
use Rattle.iom_items.specs.Layouts.{Field, Layout, base_of, context_layout, fields_of, keys_of as own_keys, layouts_of, title_of}
use Rattle.iom_items.specs.declared.layouts.Layout.TheVariants as layout
use Rattle.iom_items.specs.Operands.{◌>>=◌, operand_of, has_key, is_given, number_for as read_for, value_of}
use Rattle.iom_items.specs.Forms.{are_offered, command, command_named, each_number, is_ten, numbers, words_as, words_for, words_laid, words_on}
use Rattle.iom_items.specs.Lines.{Pair, are_had, is_laid, is_taken, layout_among, layout_in, line_of, line_on, numbers_text, pairs_in, shown_of, text_of, with_operands, words_text}
use Rattle.iom_items.specs.Telling.{HasStatement, IsStatement, IsToldAgain, line_of_operands, said_line, said_pairs}
use Rattle.iom_items.proofs.Numerals.{hexed_inside, hexed_read, is_word}
use Rattle.iom_items.proofs.Joined.{is_bare, bare_joined, one_word, turned, word_bare, words_joined}
use Rattle.iom_items.proofs.Operating.{all_first, all_rest, cut_later, longer}
use Rattle.iom_items.proofs.Saying.{Says, some_is}
use Rattle.iom_items.proofs.Again.{are_keys, is_key, keys_of, same_values, shown_say, with_words, words_for_all}
use Rattle.iom_items.proofs.Bounds.{AreWords, numbers_fine}
use Rattle.iom_items.proofs.Stated.{found_then, under_test}
use Rattle.iom_items.proofs.Laid.{base_is, extended_is, found_is, is_among, item_of, keys_same, laid_stated, layout_is, once, own_layout, small_in, stated_laid, table}
use Rattle.iom_items.proofs.Offered.{HasAll, all_offered, anyway, from_all, had_of, offered_by, shown_by}

-- what is given under a test
given : {A : Type 0} (b : Bool) (x y : A) → (if b then Some x else None) ≡ Some y → (b ≡ true) × (x ≡ y)
given true x y is = (refl, cc)
given false x y is = absurd cc

-- numbers on a line
abbrev pub numbers_of : List ℕ → List (List ℕ)
numbers_of words = map hexadecimal words

numbers_parts : (text words : List ℕ) → is_bare text ≡ true → words_of (text ++ numbers_text words) ≡ words_of text ++ numbers_of words
numbers_parts text [] bare = ap words_of (append-nil text) ∙ sym (append-nil (words_of text))
numbers_parts text (word ∷ words) bare =
    let inside : is_word (hexadecimal word) ≡ true = hexed_inside word in
    ap words_of (sym (append_assoc text (32 ∷ hexadecimal word) (numbers_text words)))
    ∙ numbers_parts (text ++ 32 ∷ hexadecimal word) words (bare_joined text (32 ∷ hexadecimal word) bare (word_bare (hexadecimal word) inside))
    ∙ ap (λ front. front ++ numbers_of words)
    (words_joined text (hexadecimal word) bare ∙ ap (λ last. words_of text ++ last) (one_word (hexadecimal word) inside (omega arith)))
    ∙ append_assoc (words_of text) (hexadecimal word ∷ []) (numbers_of words)

each_read : (words : List ℕ) → AreWords words → each_number (numbers_of words) ≡ Some words
unfolding each_number
each_read [] fits = refl
each_read (word ∷ words) fits = rw (hexed_read word fits.0, each_read words fits.1) refl

numbers_read : (words : List ℕ) → AreWords words → 1 ≤ length words → length words ≤ 8 → numbers (numbers_of words) ≡ Some words
unfolding numbers
numbers_read words fits least most =
    rw (length-map words hexadecimal, le-leb 1 (length words) least, le-leb (length words) 8 most, each_read words fits) refl

-- a number has no key
digit_other : (radix c : ℕ) → radix ≤ 16 → is_digit c radix ≡ true → (c == 61) ≡ false
digit_other radix c most is = elim (cases_Bool (c == 61)) as (λ _. (c == 61) ≡ false) [
  | inl equals ↦ absurd (let lt : digit_value c < radix = ltb-true (digit_value c) radix is in omega (arith, lt, most, ap digit_value (eqb-true c 61 equals)))
  | inr other ↦ other
]

abbrev has_no : List ℕ → Bool
has_no word = list_all (λ c. not (c == 61)) word

digits_other : (radix : ℕ) (word : List ℕ) → radix ≤ 16 → list_all (λ c. is_digit c radix) word ≡ true → has_no word ≡ true
digits_other radix [] most all = refl
digits_other radix (c ∷ word) most all =
    let parts = and_parts (is_digit c radix) (list_all (λ c. is_digit c radix) word) all in
    and_from (not (c == 61)) (has_no word) (ap not (digit_other radix c most parts.0)) (digits_other radix word most parts.1)

number_in_other : (radix : ℕ) (word : List ℕ) (n : ℕ) → radix ≤ 16 → number_in radix word ≡ Some n → has_no word ≡ true
unfolding number_in
number_in_other radix word n most is =
    let some : Bool = nat_lt 0 (length word) in
    let all : Bool = list_all (λ c. is_digit c radix) word in
    let test = given (some && all && nat_lt (digits_value radix word) (2 ^ 64)) (digits_value radix word) n is in
    digits_other radix word most (and_parts some all (and_parts (some && all) (nat_lt (digits_value radix word) (2 ^ 64)) test.0).0).1

number_other : (word : List ℕ) (n : ℕ) → number word ≡ Some n → has_no word ≡ true
unfolding number
number_other word n is = elim (cases_Bool (bytes_eq (take 2 word) (codes "0x"))) as (λ _. has_no word ≡ true) [
  | inl hex ↦
      let all : word ≡ codes "0x" ++ drop 2 word =
      sym (take-append-drop 2 word) ∙ ap (λ front. front ++ drop 2 word) ((bytes_eq-Decides (take 2 word) (codes "0x")).0 hex) in
      ap has_no all ∙ number_in_other 16 (drop 2 word) n (omega arith) (rw hex at is)
  | inr decimal ↦ number_in_other 10 word n (omega arith) (rw decimal at is)
]

no_operand : (word : List ℕ) → has_no word ≡ true → operand_of word ≡ None
unfolding operand_of
no_operand [] none = refl
no_operand (c ∷ word) none =
    let parts = and_parts (not (c == 61)) (has_no word) none in
    cut_later c word (turned (c == 61) parts.0) ∙ ap (option_map (longer c)) (no_operand word parts.1)

no_value : (key : List ℕ) (words : List (List ℕ)) → IfSome (each_number words) (λ _. value_of key words ≡ Some 0)
unfolding each_number
no_value key [] = refl
no_value key (word ∷ words) = by (number word) refl (each_number words) (no_value key words)
  where
    by : (first : Option ℕ) → number word ≡ first → (others : Option (List ℕ)) → IfSome others (λ _. value_of key words ≡ Some 0) →
        IfSome (first >>= λ n. others >>= λ ns. Some (n ∷ ns)) (λ _. value_of key (word ∷ words) ≡ Some 0)
    by None is others rest = tt
    by (Some n) is None rest = tt
    by (Some n) is (Some ns) rest =
        ap (λ operand. if has_key key operand then read_for operand else value_of key words) (no_operand word (number_other word n is)) ∙ rest

-- numbers name nothing
no_given : (key : List ℕ) (words : List ℕ) → AreWords words → is_given key (numbers_of words) ≡ false
no_given key [] fits = refl
no_given key (word ∷ words) fits =
    ap (λ operand. has_key key operand || is_given key (numbers_of words)) (no_operand (hexadecimal word) (number_other (hexadecimal word) word (hexed_read word fits.0)))
    ∙ no_given key words fits.1

numbers_value : (key : List ℕ) (words : List ℕ) → AreWords words → value_of key (numbers_of words) ≡ Some 0
numbers_value key words fits = rw (each_read words fits) at (no_value key (numbers_of words))

numbers_offered : (features : Features) (words : List ℕ) → AreWords words → are_offered features (numbers_of words) ≡ true
numbers_offered features words fits = from_all features (numbers_of words) (record {
  nl = ap (λ given. has_bit features nl_bit || not given) (no_given (codes "nl") words fits) ∙ anyway (has_bit features nl_bit);
  s = ap (λ given. has_bit features s_bit || not given) (no_given (codes "s") words fits) ∙ anyway (has_bit features s_bit);
  first = ap (λ found. has_bit features sv57_bit || not (is_ten found)) (numbers_value (codes "mode") words fits) ∙ anyway (has_bit features sv57_bit);
  second = ap (λ found. has_bit features sv57x4_bit || not (is_ten found)) (numbers_value (codes "gmode") words fits) ∙ anyway (has_bit features sv57x4_bit);
})

pub numbers_state : (features : Features) (words : List ℕ) → AreWords words → 1 ≤ length words → length words ≤ 8 →
    IsStatement features (words_text words) words (codes "u64") (numbers_of words)
unfolding words_on words_for item_named words_as
numbers_state features words fits least most = record {
  parts = numbers_parts (codes "u64") words refl ∙ ap (λ front. front ++ numbers_of words) (one_word (codes "u64") refl (omega arith));
  stands = rw (numbers_offered features words fits) (numbers_read words fits least most);
}

each_length : (words : List (List ℕ)) → IfSome (each_number words) (λ ns. length ns ≡ length words)
unfolding each_number
each_length [] = refl
each_length (word ∷ words) = by (number word) (each_number words) (each_length words)
  where
    by : (first : Option ℕ) (others : Option (List ℕ)) → IfSome others (λ ns. length ns ≡ length words) →
        IfSome (first >>= λ n. others >>= λ ns. Some (n ∷ ns)) (λ ns. length ns ≡ length (word ∷ words))
    by None others rest = tt
    by (Some n) None rest = tt
    by (Some n) (Some ns) rest = omega (arith, rest)

numbers_again : (features : Features) (operands : List (List ℕ)) (words : List ℕ) → numbers operands ≡ Some words → IsToldAgain features item.Word operands words
unfolding numbers
numbers_again features operands words is =
    let fine : AreWords words = rw is at (numbers_fine operands) in
    let test = under_test (nat_le 1 (length operands) && nat_le (length operands) 8) (each_number operands) words is in
    let counts = and_parts (nat_le 1 (length operands)) (nat_le (length operands) 8) test.0 in
    let same : length words ≡ length operands = rw test.1 at (each_length operands) in
    let least : 1 ≤ length words = omega (arith, leb-true 1 (length operands) counts.0, same) in
    let most : length words ≤ 8 = omega (arith, leb-true (length operands) 8 counts.1, same) in
    record {
      again = numbers_of words;
      statement = numbers_state features words fine least most;
      numbers = λ key.
          let other : value_of key operands ≡ Some 0 = rw test.1 at (no_value key operands) in
          numbers_value key words fine ∙ sym other;
    }

-- Statements of a layout: what stands between the item's name and the operands.
abbrev pub form_of : Layout → List (List ℕ)
form_of layout.Vma = codes "vma" ∷ []
form_of layout.Gvma = codes "gvma" ∷ []
form_of layout.Fence = codes "fence" ∷ []
form_of layout.Iodir = codes "iodir" ∷ []
form_of layout.Fault = []
form_of layout.Context = []
form_of layout.ExtendedContext = []
form_of layout.Dir = []
form_of layout.Pte = []
form_of layout.Msi = []

title_parts : (layout : Layout) → (is_bare (title_of layout) ≡ true) × (words_of (title_of layout) ≡ name_of (item_of layout) ∷ form_of layout)
unfolding words_of title_of
title_parts layout.Vma = (refl, refl)
title_parts layout.Gvma = (refl, refl)
title_parts layout.Fence = (refl, refl)
title_parts layout.Iodir = (refl, refl)
title_parts layout.Fault = (refl, refl)
title_parts layout.Context = (refl, refl)
title_parts layout.ExtendedContext = (refl, refl)
title_parts layout.Dir = (refl, refl)
title_parts layout.Pte = (refl, refl)
title_parts layout.Msi = (refl, refl)

pub named_as : (format : ContextFormat) (kind : Item) (operands : List (List ℕ)) → words_for format (name_of kind) operands ≡ words_as format kind operands
unfolding words_for item_named
named_as format item.Cmd operands = refl
named_as format item.Fault operands = refl
named_as format item.Context operands = refl
named_as format item.Dir operands = refl
named_as format item.Pte operands = refl
named_as format item.Msi operands = refl
named_as format item.Word operands = refl

reads_layout : (format : ContextFormat) (layout : Layout) (operands : List (List ℕ)) → is_among layout format ≡ true →
    words_as format (item_of layout) (form_of layout ++ operands) ≡ words_laid layout operands
unfolding words_as command command_named
reads_layout format layout.Vma operands among = refl
reads_layout format layout.Gvma operands among = refl
reads_layout format layout.Fence operands among = refl
reads_layout format layout.Iodir operands among = refl
reads_layout format layout.Fault operands among = refl
reads_layout format layout.Context operands among = ap (λ format. words_laid (context_layout format) operands) (base_is format among)
reads_layout format layout.ExtendedContext operands among = ap (λ format. words_laid (context_layout format) operands) (extended_is format among)
reads_layout format layout.Dir operands among = refl
reads_layout format layout.Pte operands among = refl
reads_layout format layout.Msi operands among = refl

-- no key stands there
behind_form : (layout : Layout) (key : List ℕ) (operands : List (List ℕ)) →
    (is_given key (form_of layout ++ operands) ≡ is_given key operands) × (value_of key (form_of layout ++ operands) ≡ value_of key operands)
unfolding operand_of
behind_form layout.Vma key operands = (refl, refl)
behind_form layout.Gvma key operands = (refl, refl)
behind_form layout.Fence key operands = (refl, refl)
behind_form layout.Iodir key operands = (refl, refl)
behind_form layout.Fault key operands = (refl, refl)
behind_form layout.Context key operands = (refl, refl)
behind_form layout.ExtendedContext key operands = (refl, refl)
behind_form layout.Dir key operands = (refl, refl)
behind_form layout.Pte key operands = (refl, refl)
behind_form layout.Msi key operands = (refl, refl)

all_behind : (layout : Layout) (features : Features) (operands : List (List ℕ)) → HasAll features operands → HasAll features (form_of layout ++ operands)
all_behind layout features operands all = record {
  nl = ap (λ given. has_bit features nl_bit || not given) (behind_form layout (codes "nl") operands).0 ∙ all.nl;
  s = ap (λ given. has_bit features s_bit || not given) (behind_form layout (codes "s") operands).0 ∙ all.s;
  first = ap (λ found. has_bit features sv57_bit || not (is_ten found)) (behind_form layout (codes "mode") operands).1 ∙ all.first;
  second = ap (λ found. has_bit features sv57x4_bit || not (is_ten found)) (behind_form layout (codes "gmode") operands).1 ∙ all.second;
}

from_behind : (layout : Layout) (features : Features) (operands : List (List ℕ)) → HasAll features (form_of layout ++ operands) → HasAll features operands
from_behind layout features operands all = record {
  nl = ap (λ given. has_bit features nl_bit || not given) (sym (behind_form layout (codes "nl") operands).0) ∙ all.nl;
  s = ap (λ given. has_bit features s_bit || not given) (sym (behind_form layout (codes "s") operands).0) ∙ all.s;
  first = ap (λ found. has_bit features sv57_bit || not (is_ten found)) (sym (behind_form layout (codes "mode") operands).1) ∙ all.first;
  second = ap (λ found. has_bit features sv57x4_bit || not (is_ten found)) (sym (behind_form layout (codes "gmode") operands).1) ∙ all.second;
}

-- the operands that a line of words with a layout shows
abbrev pub shown_in : Layout → List ℕ → List Pair
shown_in layout words = shown_of (pairs_in (fields_of layout) words)

pairs_keys : (fields : List Field) (words : List ℕ) → list_all is_key (own_keys fields) ≡ true → are_keys (pairs_in fields words) ≡ true
pairs_keys [] words is = refl
pairs_keys (field ∷ fields) words is =
    let parts = and_parts (is_key field.key) (list_all is_key (own_keys fields)) is in
    and_from (is_key field.key) (are_keys (pairs_in fields words)) parts.0 (pairs_keys fields words parts.1)

keys_fine : (layout : Layout) (words : List ℕ) → are_keys (pairs_in (fields_of layout) words) ≡ true
keys_fine layout words = pairs_keys (fields_of layout) words (table layout).keys

once_fine : (layout : Layout) (words : List ℕ) → once (keys_of (pairs_in (fields_of layout) words)) ≡ true
once_fine layout words = ap once (keys_same (fields_of layout) words) ∙ (table layout).once

shown_says : (layout : Layout) (words : List ℕ) → Says (pairs_in (fields_of layout) words) (words_for_all (shown_in layout words))
shown_says layout words =
    shown_say (pairs_in (fields_of layout) words) (shown_in layout words)
    (shown_by (pairs_in (fields_of layout) words) (keys_fine layout words) (once_fine layout words) (small_in (fields_of layout) words (table layout).within))

pub line_taken : (features : Features) (kind : Item) (words : List ℕ) → is_taken features kind words ≡ true →
    line_on features kind words ≡ line_of (context_format features) kind words
line_taken features kind words is = rw is refl

laid_line : (features : Features) (layout : Layout) (words : List ℕ) → is_among layout (context_format features) ≡ true → is_laid layout words ≡ true →
    are_had features (pairs_in (fields_of layout) words) ≡ true → line_on features (item_of layout) words ≡ text_of layout words
laid_line features layout words among laid had = rw (layout_is (context_format features) layout words among laid, had) refl

laid_states : (features : Features) (layout : Layout) (words : List ℕ) → is_among layout (context_format features) ≡ true → is_laid layout words ≡ true →
    are_had features (pairs_in (fields_of layout) words) ≡ true →
    IsStatement features (line_on features (item_of layout) words) words (name_of (item_of layout)) (form_of layout ++ words_for_all (shown_in layout words))
unfolding words_on text_of
laid_states features layout words among laid had =
    let pairs : List Pair = pairs_in (fields_of layout) words in
    let title = title_parts layout in
    let shown = shown_by pairs (keys_fine layout words) (once_fine layout words) (small_in (fields_of layout) words (table layout).within) in
    let says = shown_says layout words in
    let offered : are_offered features (form_of layout ++ words_for_all (shown_in layout words)) ≡ true =
    from_all features (form_of layout ++ words_for_all (shown_in layout words))
    (all_behind layout features (words_for_all (shown_in layout words)) (offered_by features pairs (keys_fine layout words) (once_fine layout words) says had)) in
    record {
      parts =
          ap words_of (laid_line features layout words among laid had) ∙ with_words (title_of layout) (shown_in layout words) title.0 shown.keys
          ∙ ap (λ front. front ++ words_for_all (shown_in layout words)) title.1;
      stands = rw offered (named_as (context_format features) (item_of layout) (form_of layout ++ words_for_all (shown_in layout words))
          ∙ reads_layout (context_format features) layout (words_for_all (shown_in layout words)) among ∙ laid_stated layout (words_for_all (shown_in layout words)) words laid says);
    }

-- A statement of an item has a layout, or it is one of numbers.
pub record IsOfLayout (format : ContextFormat) (kind : Item) (operands : List (List ℕ)) (words : List ℕ) : Type 0 where
  pub layout : Layout
  pub among : is_among layout format ≡ true
  pub rest : List (List ℕ)
  pub item : item_of layout ≡ kind
  pub parts : operands ≡ form_of layout ++ rest
  pub stands : words_laid layout rest ≡ Some words

abbrev AreNamed : ContextFormat → List ℕ → Layout → Type 0
AreNamed format form found = (item_of found ≡ item.Cmd) × (form ∷ [] ≡ form_of found) × (is_among found format ≡ true)

named_is : (format : ContextFormat) (form : List ℕ) (found : Layout) → command_named form ≡ Some found → AreNamed format form found
unfolding command_named
named_is format form found is =
    let Goal : Option Layout → Type 0 = λ made. made ≡ Some found → AreNamed format form found in
    let by : (own : Layout) (name : List ℕ) → item_of own ≡ item.Cmd → name ∷ [] ≡ form_of own → is_among own format ≡ true → bytes_eq form name ≡ true →
    Goal (Some own) =
    λ own name cmd called among same made.
    let is_own : own ≡ found = some_is own found made in
    let named : form ∷ [] ≡ form_of own = ap (λ (form : List ℕ). form ∷ []) ((bytes_eq-Decides form name).0 same) ∙ called in
    subst (AreNamed format form) is_own (cmd, named, among) in
    cond_both (bytes_eq form (codes "vma")) (Some layout.Vma) _ Goal (λ same. by layout.Vma (codes "vma") refl refl refl same) (λ _.
    cond_both (bytes_eq form (codes "gvma")) (Some layout.Gvma) _ Goal (λ same. by layout.Gvma (codes "gvma") refl refl refl same) (λ _.
    cond_both (bytes_eq form (codes "fence")) (Some layout.Fence) _ Goal (λ same. by layout.Fence (codes "fence") refl refl refl same) (λ _.
    cond_both (bytes_eq form (codes "iodir")) (Some layout.Iodir) None Goal (λ same. by layout.Iodir (codes "iodir") refl refl refl same) (λ _ none. absurd cc)))) is

context_split : (format : ContextFormat) (operands : List (List ℕ)) (words : List ℕ) → words_laid (context_layout format) operands ≡ Some words →
    IsOfLayout format item.Context operands words
context_split Base operands words is = record { layout = layout.Context; among = refl; rest = operands; item = refl; parts = refl; stands = is }
context_split Extended operands words is =
    record { layout = layout.ExtendedContext; among = refl; rest = operands; item = refl; parts = refl; stands = is }

pub split : (format : ContextFormat) (kind : Item) (operands : List (List ℕ)) (words : List ℕ) → words_as format kind operands ≡ Some words →
    IsOfLayout format kind operands words ⊎ ((kind ≡ item.Word) × (numbers operands ≡ Some words))
unfolding words_as command
split format item.Cmd [] words is = absurd cc
split format item.Cmd (form ∷ operands) words is =
    let named = found_then (command_named form) (λ (layout : Layout). words_laid layout operands) words is in
    let called = named_is format form named.0 named.1 in
    inl (record {
      layout = named.0;
      among = called.2;
      rest = operands;
      item = called.0;
      parts = ap (λ (front : List (List ℕ)). front ++ operands) called.1;
      stands = named.2;
    })
split format item.Fault operands words is = inl (record { layout = layout.Fault; among = refl; rest = operands; item = refl; parts = refl; stands = is })
split format item.Context operands words is = inl (context_split format operands words is)
split format item.Dir operands words is = inl (record { layout = layout.Dir; among = refl; rest = operands; item = refl; parts = refl; stands = is })
split format item.Pte operands words is = inl (record { layout = layout.Pte; among = refl; rest = operands; item = refl; parts = refl; stands = is })
split format item.Msi operands words is = inl (record { layout = layout.Msi; among = refl; rest = operands; item = refl; parts = refl; stands = is })
split format item.Word operands words is = inr (refl, is)

-- the words of a statement that is offered are had
had_by : (features : Features) (layout : Layout) (rest : List (List ℕ)) (words : List ℕ) → words_laid layout rest ≡ Some words →
    are_offered features (form_of layout ++ rest) ≡ true → are_had features (pairs_in (fields_of layout) words) ≡ true
had_by features layout rest words stands offered =
    had_of features (pairs_in (fields_of layout) words) rest (stated_laid layout rest words stands).says
    (from_all features rest (from_behind layout features rest (all_offered features (form_of layout ++ rest) offered)))

laid_again : (features : Features) (layout : Layout) (rest : List (List ℕ)) (words : List ℕ) → is_among layout (context_format features) ≡ true →
    words_laid layout rest ≡ Some words →
    are_offered features (form_of layout ++ rest) ≡ true → IsToldAgain features (item_of layout) (form_of layout ++ rest) words
laid_again features layout rest words among stands offered =
    let stated = stated_laid layout rest words stands in
    let shown : List (List ℕ) = words_for_all (shown_in layout words) in
    record {
      again = form_of layout ++ shown;
      statement = laid_states features layout words among stated.laid (had_by features layout rest words stands offered);
      numbers = λ key.
          (behind_form layout key shown).1
          ∙ same_values (pairs_in (fields_of layout) words) shown rest (shown_says layout words) stated.says key
          ∙ sym (behind_form layout key rest).1;
    }

-- from a layout to the item, and from the statement's parts to its operands
moved : (P : Item → List (List ℕ) → Type 0) (kind own : Item) (operands parts : List (List ℕ)) → own ≡ kind → operands ≡ parts → P own parts → P kind operands
moved P kind own operands parts same is holds =
    subst (λ (operands : List (List ℕ)). P kind operands) (sym is) (subst (λ (kind : Item). P kind parts) same holds)

pub tells_statements : (features : Features) (kind : Item) (operands : List (List ℕ)) (words : List ℕ) →
    words_on features (name_of kind) operands ≡ Some words → IsToldAgain features kind operands words
unfolding words_on
tells_statements features kind operands words is =
    let format = context_format features in
    let test = under_test (are_offered features operands) (words_for format (name_of kind) operands) words is in
    elim (split format kind operands words (sym (named_as format kind operands) ∙ test.1)) as (λ _. IsToldAgain features kind operands words) [
      | inl own ↦
          let offered : are_offered features (form_of own.layout ++ own.rest) ≡ true = ap (are_offered features) (sym own.parts) ∙ test.0 in
          moved (λ kind operands. IsToldAgain features kind operands words) kind (item_of own.layout) operands (form_of own.layout ++ own.rest) own.item own.parts
          (laid_again features own.layout own.rest words own.among own.stands offered)
      | inr own ↦
          subst (λ (kind : Item). IsToldAgain features kind operands words) (sym own.0) (numbers_again features operands words own.1)
    ]

-- the words of a statement that is offered are taken as its item
pub statement_taken : (features : Features) (kind : Item) (operands : List (List ℕ)) (words : List ℕ) → are_offered features operands ≡ true →
    words_for (context_format features) (name_of kind) operands ≡ Some words → is_taken features kind words ≡ true
statement_taken features kind operands words offered is =
    elim (split (context_format features) kind operands words (sym (named_as (context_format features) kind operands) ∙ is)) as (λ _. is_taken features kind words ≡ true) [
      | inl own ↦
          let had = had_by features own.layout own.rest words own.stands (ap (are_offered features) (sym own.parts) ∙ offered) in
          let taken : is_taken features (item_of own.layout) words ≡ true = rw (layout_is (context_format features) own.layout words own.among (stated_laid own.layout own.rest words own.stands).laid) had in
          subst (λ (kind : Item). is_taken features kind words ≡ true) own.item taken
      | inr own ↦ subst (λ (kind : Item). is_taken features kind words ≡ true) (sym own.0) refl
    ]

-- the line with what operands say
said_is : (fields : List Field) (operands : List (List ℕ)) (words : List ℕ) →
    AllByRecursion (λ pair. value_of pair.0 operands ≡ Some pair.1) (pairs_in fields words) → said_pairs fields operands ≡ Some (pairs_in fields words)
said_is [] operands words says = refl
said_is (field ∷ fields) operands words says = rw (says.0, said_is fields operands words says.1) refl

line_said : (format : ContextFormat) (layout : Layout) (rest : List (List ℕ)) → is_among layout format ≡ true →
    line_of_operands format (item_of layout) (form_of layout ++ rest) ≡ said_line layout rest
unfolding line_of_operands command_named
line_said format layout.Vma rest among = refl
line_said format layout.Gvma rest among = refl
line_said format layout.Fence rest among = refl
line_said format layout.Iodir rest among = refl
line_said format layout.Fault rest among = refl
line_said format layout.Context rest among = ap (λ format. said_line (context_layout format) rest) (base_is format among)
line_said format layout.ExtendedContext rest among = ap (λ format. said_line (context_layout format) rest) (extended_is format among)
line_said format layout.Dir rest among = refl
line_said format layout.Pte rest among = refl
line_said format layout.Msi rest among = refl

laid_said : (features : Features) (layout : Layout) (rest : List (List ℕ)) (words : List ℕ) → is_among layout (context_format features) ≡ true →
    words_laid layout rest ≡ Some words → are_offered features (form_of layout ++ rest) ≡ true →
    line_of_operands (context_format features) (item_of layout) (form_of layout ++ rest) ≡ Some (line_on features (item_of layout) words)
unfolding text_of
laid_said features layout rest words among stands offered =
    let stated = stated_laid layout rest words stands in
    line_said (context_format features) layout rest among
    ∙ ap (λ (found : Option (List Pair)). option_map (λ pairs. with_operands (title_of layout) (shown_of pairs)) found) (said_is (fields_of layout) rest words stated.says.values)
    ∙ ap (λ (line : List ℕ). Some line) (sym (laid_line features layout words among stated.laid (had_by features layout rest words stands offered)))

pub tells_operands : (features : Features) (kind : Item) (operands : List (List ℕ)) (words : List ℕ) →
    words_on features (name_of kind) operands ≡ Some words → line_of_operands (context_format features) kind operands ≡ Some (line_on features kind words)
unfolding words_on line_of_operands
tells_operands features kind operands words is =
    let format = context_format features in
    let test = under_test (are_offered features operands) (words_for format (name_of kind) operands) words is in
    elim (split format kind operands words (sym (named_as format kind operands) ∙ test.1)) as (λ _. line_of_operands (context_format features) kind operands ≡ Some (line_on features kind words)) [
      | inl own ↦
          let offered : are_offered features (form_of own.layout ++ own.rest) ≡ true = ap (are_offered features) (sym own.parts) ∙ test.0 in
          moved (λ kind operands. line_of_operands (context_format features) kind operands ≡ Some (line_on features kind words)) kind (item_of own.layout) operands
          (form_of own.layout ++ own.rest) own.item own.parts (laid_said features own.layout own.rest words own.among own.stands offered)
      | inr own ↦
          subst (λ (kind : Item). line_of_operands (context_format features) kind operands ≡ Some (line_on features kind words)) (sym own.0)
          (ap (option_map words_text) own.1)
    ]

-- Words of any kind.
as_numbers : (features : Features) (kind : Item) (words : List ℕ) → AreWords words → 1 ≤ length words → length words ≤ 8 → line_on features kind words ≡ words_text words →
    HasStatement features kind words
as_numbers features kind words small least most is = record {
  name = codes "u64";
  operands = numbers_of words;
  statement = subst (λ (line : List ℕ). IsStatement features line words (codes "u64") (numbers_of words)) (sym is) (numbers_state features words small least most);
  named = inr refl;
}

abbrev IsOfItem : ContextFormat → Item → Layout → Type 0
IsOfItem format kind layout = (item_of layout ≡ kind) × (is_among layout format ≡ true)

among_item : (format : ContextFormat) (kind : Item) (layouts : List Layout) (words : List ℕ) (layout : Layout) → AllByRecursion (IsOfItem format kind) layouts →
    layout_among layouts words ≡ Some layout → IsOfItem format kind layout
among_item format kind [] words layout all is = absurd cc
among_item format kind (own ∷ layouts) words layout all is = elim (cases_Bool (is_laid own words)) as (λ _. IsOfItem format kind layout) [
  | inl laid ↦ subst (IsOfItem format kind) (some_is own layout (rw laid at is)) all.0
  | inr other ↦ among_item format kind layouts words layout all.1 (rw other at is)
]

found_item : (format : ContextFormat) (kind : Item) (words : List ℕ) (layout : Layout) → layout_in format kind words ≡ Some layout → IsOfItem format kind layout
found_item format item.Cmd words layout is =
    among_item format item.Cmd (layouts_of format item.Cmd) words layout ((refl, refl), ((refl, refl), ((refl, refl), ((refl, refl), tt)))) is
found_item format item.Fault words layout is = among_item format item.Fault (layouts_of format item.Fault) words layout ((refl, refl), tt) is
found_item format item.Context words layout is =
    among_item format item.Context (layouts_of format item.Context) words layout (((own_layout format).item, (own_layout format).among), tt) is
found_item format item.Dir words layout is = among_item format item.Dir (layouts_of format item.Dir) words layout ((refl, refl), tt) is
found_item format item.Pte words layout is = among_item format item.Pte (layouts_of format item.Pte) words layout ((refl, refl), tt) is
found_item format item.Msi words layout is = among_item format item.Msi (layouts_of format item.Msi) words layout ((refl, refl), tt) is
found_item format item.Word words layout is = absurd cc

laid_has : (features : Features) (layout : Layout) (words : List ℕ) → is_among layout (context_format features) ≡ true → is_laid layout words ≡ true →
    are_had features (pairs_in (fields_of layout) words) ≡ true → HasStatement features (item_of layout) words
laid_has features layout words among laid had = record {
  name = name_of (item_of layout);
  operands = form_of layout ++ words_for_all (shown_in layout words);
  statement = laid_states features layout words among laid had;
  named = inl refl;
}

fitting : (features : Features) (kind : Item) (words : List ℕ) → AreWords words → 1 ≤ length words → length words ≤ 8 → HasStatement features kind words
fitting features kind words small least most = by (layout_in (context_format features) kind words) refl
  where
    by : (found : Option Layout) → layout_in (context_format features) kind words ≡ found → HasStatement features kind words
    by None none = as_numbers features kind words small least most (rw none refl)
    by (Some layout) there = elim (cases_Bool (are_had features (pairs_in (fields_of layout) words))) as (λ _. HasStatement features kind words) [
      | inl had ↦
          let own = found_item (context_format features) kind words layout there in
          subst (λ (kind : Item). HasStatement features kind words) own.0
          (laid_has features layout words own.1 (found_is (context_format features) kind words layout there) had)
      | inr lacking ↦ as_numbers features kind words small least most (rw (there, lacking) refl)
    ]

are_words : (words : List ℕ) → All (λ word. word < 2 ^ 64) words → AreWords words
are_words [] all = tt
are_words (word ∷ words) all =
    (all_first (λ word. word < 2 ^ 64) word words all, are_words words (all_rest (λ word. word < 2 ^ 64) word words all))

few_context : (format : ContextFormat) → (1 ≤ context_words format) × (context_words format ≤ 8)
few_context Base = (omega arith, omega arith)
few_context Extended = (omega arith, omega arith)

pub few : (format : ContextFormat) (kind : Item) → (1 ≤ words_in format kind) × (words_in format kind ≤ 8)
few format item.Cmd = (omega arith, omega arith)
few format item.Fault = (omega arith, omega arith)
few format item.Context = few_context format
few format item.Dir = (omega arith, omega arith)
few format item.Pte = (omega arith, omega arith)
few format item.Msi = (omega arith, omega arith)
few format item.Word = (omega arith, omega arith)

pub states_words : (features : Features) (kind : Item) (words : List ℕ) → length words ≡ words_in (context_format features) kind → All (λ word. word < 2 ^ 64) words →
    HasStatement features kind words
states_words features kind words count all =
    let counts = few (context_format features) kind in
    fitting features kind words (are_words words all) (omega (arith, count, counts.0)) (omega (arith, count, counts.1))

-- the words of a statement are words, as many as the item's
laid_many : (format : ContextFormat) (layout : Layout) → is_among layout format ≡ true → length (base_of layout) ≡ words_in format (item_of layout)
unfolding base_of
laid_many format layout.Vma among = refl
laid_many format layout.Gvma among = refl
laid_many format layout.Fence among = refl
laid_many format layout.Iodir among = refl
laid_many format layout.Fault among = refl
laid_many format layout.Context among = ap context_words (sym (base_is format among))
laid_many format layout.ExtendedContext among = ap context_words (sym (extended_is format among))
laid_many format layout.Dir among = refl
laid_many format layout.Pte among = refl
laid_many format layout.Msi among = refl

pub words_fine : (format : ContextFormat) (kind : Item) (operands : List (List ℕ)) (words : List ℕ) → words_for format (name_of kind) operands ≡ Some words →
    AreWords words
words_fine format kind operands words is = elim (split format kind operands words (sym (named_as format kind operands) ∙ is)) as (λ _. AreWords words) [
  | inl own ↦ (stated_laid own.layout own.rest words own.stands).fine
  | inr own ↦ rw own.1 at (numbers_fine operands)
]

pub words_many : (format : ContextFormat) (kind : Item) (operands : List (List ℕ)) (words : List ℕ) → kind ≢ item.Word →
    words_as format kind operands ≡ Some words → length words ≡ words_in format kind
words_many format kind operands words other is = elim (split format kind operands words is) as (λ _. length words ≡ words_in format kind) [
  | inl own ↦ (stated_laid own.layout own.rest words own.stands).many ∙ laid_many format own.layout own.among ∙ ap (words_in format) own.item
  | inr own ↦ absurd (other own.0)
]

-- one at least
pub words_some : (format : ContextFormat) (kind : Item) (operands : List (List ℕ)) (words : List ℕ) → words_as format kind operands ≡ Some words →
    0 < length words
unfolding numbers
words_some format kind operands words is = elim (split format kind operands words is) as (λ _. 0 < length words) [
  | inl own ↦
      let some = few format (item_of own.layout) in
      let many = (stated_laid own.layout own.rest words own.stands).many ∙ laid_many format own.layout own.among in
      omega (arith, some.0, many)
  | inr own ↦
      let test = under_test (nat_le 1 (length operands) && nat_le (length operands) 8) (each_number operands) words own.1 in
      let counts = and_parts (nat_le 1 (length operands)) (nat_le (length operands) 8) test.0 in
      let same : length words ≡ length operands = rw test.1 at (each_length operands) in
      omega (arith, leb-true 1 (length operands) counts.0, same)
]
