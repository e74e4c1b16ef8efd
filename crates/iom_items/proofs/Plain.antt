-- The bytes of a line are ASCII.
use Rattle.std.proofs.Common.{◌≡◌, ◌+◌, ◌<◌, ℕ, ◌==◌, ◌&&◌, Bool, true, false, nat_lt, List, [], ◌∷◌, ◌++◌, map, codes, Option, Some, None, refl, arith, inl, inr}
use Rattle.std.specs.Prelude.{IfSome}
use Rattle.std.specs.List.{AllByRecursion, list_all}
use Rattle.std.specs.Option.{option_map}
use Rattle.std.specs.Fmt.{digit_glyph}
use Rattle.std.specs.Int.Digits.{digits_of}
use Rattle.std.specs.Str.{IsAscii}
use Rattle.std.proofs.lemmas.Bool.{and_parts, and_from, cases_Bool, cond_both, lt-ltb, ltb-true}
use Rattle.std.proofs.lemmas.Int.Digits.{all_below_base_digits_of}
use Rattle.std.proofs.lemmas.Str.Ascii.{IsAscii-nil, IsAscii-cons}
use Rattle.iom_text.specs.Texts.{hexadecimal, numeral, digits_in}
use Rattle.iom_bits.specs.Features.{Features}
use Rattle.iom_mem.specs.Memory.{Memory, words_at}
use Rattle.iom_ddt.specs.Formats.{context_format}
use Rattle.iom_items.specs.declared.item.Item.{Item}
use Rattle.iom_items.specs.Items.{words_in}
use Rattle.iom_items.specs.Layouts.{Field, Layout, fields_of, keys_of, title_of}
use Rattle.iom_items.specs.declared.layouts.Layout.TheVariants as layout
use Rattle.iom_items.specs.Lines.{Pair, operand, with_operands, layout_in, line_of, line_on, is_taken, item_line_on, may_lack, numbers_text, pairs_in, shown_of, text_by, text_of, words_text}

abbrev is_plain : List ℕ → Bool
is_plain text = list_all (λ c. nat_lt c 128) text

abbrev Plain : List ℕ → Type 0
Plain text = is_plain text ≡ true

join : (first second : List ℕ) → Plain first → Plain second → Plain (first ++ second)
join [] second one two = two
join (c ∷ first) second one two =
    let parts = and_parts (nat_lt c 128) (is_plain first) one in
    and_from (nat_lt c 128) (is_plain (first ++ second)) parts.0 (join first second parts.1 two)

glyph : (d : ℕ) → d < 16 → nat_lt (digit_glyph false d) 128 ≡ true
glyph d lt = cond_both (nat_lt d 10) (48 + d) (87 + d) (λ c. nat_lt c 128 ≡ true) (λ _. lt-ltb (48 + d) 128 (omega (arith, lt))) (λ _. lt-ltb (87 + d) 128 (omega (arith, lt)))

glyphs : (digits : List ℕ) → AllByRecursion (λ d. d < 16) digits → Plain (map (digit_glyph false) digits)
glyphs [] small = refl
glyphs (d ∷ digits) small = and_from (nat_lt (digit_glyph false d) 128) (is_plain (map (digit_glyph false) digits)) (glyph d small.0) (glyphs digits small.1)

number_plain : (n : ℕ) → Plain (hexadecimal n)
number_plain n =
    join (codes "0x") (numeral 16 n) refl
    (cond_both (n == 0) (codes "0") (digits_in 16 n) Plain (λ _. refl) (λ _. glyphs (digits_of 16 n) (all_below_base_digits_of 16 n (omega arith))))

op : (key : List ℕ) (n : ℕ) → Plain key → Plain (operand key n)
op [] n plain = number_plain n
op (c ∷ key) n plain =
    let parts = and_parts (nat_lt c 128) (is_plain key) plain in
    and_from (nat_lt c 128) (is_plain (operand key n)) parts.0 (op key n parts.1)

-- texts with operands
keys_plain : List Pair → Bool
keys_plain [] = true
keys_plain (pair ∷ pairs) = is_plain pair.0 && keys_plain pairs

with_plain : (text : List ℕ) (pairs : List Pair) → Plain text → keys_plain pairs ≡ true → Plain (with_operands text pairs)
unfolding keys_plain
with_plain text [] plain keys = plain
with_plain text (pair ∷ pairs) plain keys =
    let parts = and_parts (is_plain pair.0) (keys_plain pairs) keys in
    with_plain (text ++ operand pair.0 pair.1) pairs (join text (operand pair.0 pair.1) plain (op pair.0 pair.1 parts.0)) parts.1

shown_plain : (pairs : List Pair) → keys_plain pairs ≡ true → keys_plain (shown_of pairs) ≡ true
unfolding keys_plain
shown_plain [] keys = refl
shown_plain (pair ∷ pairs) keys =
    let parts = and_parts (is_plain pair.0) (keys_plain pairs) keys in
    elim (cases_Bool (may_lack pair.0 && pair.1 == 0)) as (λ _. keys_plain (shown_of (pair ∷ pairs)) ≡ true) [
      | inl hidden ↦ rw hidden (shown_plain pairs parts.1)
      | inr shown ↦ rw shown (and_from (is_plain pair.0) (keys_plain (shown_of pairs)) parts.0 (shown_plain pairs parts.1))
    ]

pairs_plain : (fields : List Field) (words : List ℕ) → list_all is_plain (keys_of fields) ≡ true → keys_plain (pairs_in fields words) ≡ true
unfolding keys_plain
pairs_plain [] words is = refl
pairs_plain (field ∷ fields) words is =
    let parts = and_parts (is_plain field.key) (list_all is_plain (keys_of fields)) is in
    and_from (is_plain field.key) (keys_plain (pairs_in fields words)) parts.0 (pairs_plain fields words parts.1)

layout_plain : (layout : Layout) → (Plain (title_of layout)) × (list_all is_plain (keys_of (fields_of layout)) ≡ true)
unfolding title_of fields_of
layout_plain layout.Vma = (refl, refl)
layout_plain layout.Gvma = (refl, refl)
layout_plain layout.Fence = (refl, refl)
layout_plain layout.Iodir = (refl, refl)
layout_plain layout.Fault = (refl, refl)
layout_plain layout.Context = (refl, refl)
layout_plain layout.ExtendedContext = (refl, refl)
layout_plain layout.Dir = (refl, refl)
layout_plain layout.Pte = (refl, refl)
layout_plain layout.Msi = (refl, refl)

numbers_plain : (words : List ℕ) → Plain (numbers_text words)
numbers_plain [] = refl
numbers_plain (word ∷ words) = join (codes " " ++ hexadecimal word) (numbers_text words) (join (codes " ") (hexadecimal word) refl (number_plain word)) (numbers_plain words)

words_plain : (words : List ℕ) → Plain (words_text words)
words_plain words = join (codes "u64") (numbers_text words) refl (numbers_plain words)

text_plain : (found : Option Layout) (words : List ℕ) → Plain (text_by found words)
unfolding text_of
text_plain None words = words_plain words
text_plain (Some layout) words =
    let plain = layout_plain layout in
    with_plain (title_of layout) (shown_of (pairs_in (fields_of layout) words)) plain.0
    (shown_plain (pairs_in (fields_of layout) words) (pairs_plain (fields_of layout) words plain.1))

ascii : (text : List ℕ) → Plain text → IsAscii text
ascii [] plain = IsAscii-nil
ascii (c ∷ text) plain =
    let parts = and_parts (nat_lt c 128) (is_plain text) plain in
    IsAscii-cons c text (ltb-true c 128 parts.0) (ascii text parts.1)

on_plain : (features : Features) (kind : Item) (words : List ℕ) → Plain (line_on features kind words)
on_plain features kind words =
    cond_both (is_taken features kind words) (line_of (context_format features) kind words) (words_text words) Plain
    (λ _. text_plain (layout_in (context_format features) kind words) words) (λ _. words_plain words)

found_plain : (features : Features) (kind : Item) (found : Option (List ℕ)) → IfSome (option_map (line_on features kind) found) IsAscii
found_plain features kind None = tt
found_plain features kind (Some words) = ascii (line_on features kind words) (on_plain features kind words)

pub line_ascii : (memory : Memory) (features : Features) (kind : Item) (addr : ℕ) (line : List ℕ) →
    item_line_on memory features kind addr ≡ Some line → IsAscii line
unfolding item_line_on
line_ascii memory features kind addr line is = rw is at (found_plain features kind (words_at memory addr (words_in (context_format features) kind)))
