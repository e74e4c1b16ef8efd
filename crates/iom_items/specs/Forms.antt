-- Statements that stand for words: numbers, and the items with their operands. None: no such statement.
use Rattle.std.specs.Prelude.{ℕ, ◌+◌, ◌==◌, ◌&&◌, ◌||◌, Bool, true, false, not, List, [], ◌∷◌, length, codes, bytes_eq, is_some, nat_le, Option, Some, None, if◌then◌else◌}
use Rattle.std.specs.Result.{result_ok}
use Rattle.iom_text.specs.Words.{number}
use Rattle.iom_bits.specs.Bits.{field_of, has_bit, with_field_of}
use Rattle.iom_bits.specs.Features.{Features, nl_bit, s_bit, sv57_bit, sv57x4_bit}
use Rattle.iom_ddt.specs.Formats.{context_format}
use Rattle.iom_ddt.specs.Words.{context_in}
use Rattle.iom_ddt.specs.declared.formats.ContextFormat.{ContextFormat}
use Rattle.iom_items.specs.declared.item.Item.{Item}
use Rattle.iom_items.specs.declared.item.Item.TheVariants as item
use Rattle.iom_items.specs.Items.{item_named}
use Rattle.iom_items.specs.Layouts.{Field, Layout, base_of, context_layout, fields_of, keys_of}
use Rattle.iom_items.specs.declared.layouts.Layout.TheVariants as layout
use Rattle.iom_items.specs.Operands.{◌>>=◌, is_given, are_operands, value_of}

-- what follows a test
abbrev pub where_so : {A : Type 0} → Bool → Option A → Option A
where_so holds next = if holds then next else None

-- the number that a field tells by its content, and the content that tells a number; None: no content does
abbrev pub told_by : Field → ℕ → ℕ
told_by field content = with_field_of 0 field.zeros field.width content

abbrev pub content_of : Field → ℕ → Option ℕ
content_of field n = where_so (told_by field (field_of n field.zeros field.width) == n) (Some (field_of n field.zeros field.width))

-- a word with the contents of those fields that stand in it, by some operands
unfoldable pub stated_word : List Field → List (List ℕ) → ℕ → ℕ → Option ℕ
stated_word [] operands at word = Some word
stated_word (field ∷ fields) operands at word =
    if field.word == at then (do
      n ← value_of field.key operands
      content ← content_of field n
      stated_word fields operands at (with_field_of word field.low field.width content))
    else stated_word fields operands at word

-- the words from one on, by what they are where all fields are 0
unfoldable pub stated_from : List Field → List (List ℕ) → ℕ → List ℕ → Option (List ℕ)
stated_from fields operands at [] = Some []
stated_from fields operands at (word ∷ words) = do
  first ← stated_word fields operands at word
  others ← stated_from fields operands (at + 1) words
  Some (first ∷ others)

-- words of a context are one that a directory takes
abbrev pub is_sound : Layout → List ℕ → Bool
is_sound layout.Context words = is_some (result_ok (context_in words))
is_sound layout.ExtendedContext words = is_some (result_ok (context_in words))
is_sound _ words = true

-- the words with some operands
unfoldable pub words_laid : Layout → List (List ℕ) → Option (List ℕ)
words_laid layout operands = where_so (are_operands (keys_of (fields_of layout)) operands) (do
  words ← stated_from (fields_of layout) operands 0 (base_of layout)
  where_so (is_sound layout words) (Some words))

-- one number after the other
unfoldable pub each_number : List (List ℕ) → Option (List ℕ)
each_number [] = Some []
each_number (word ∷ words) = do
  first ← number word
  others ← each_number words
  Some (first ∷ others)

-- 1 to 8 of them
unfoldable pub numbers : List (List ℕ) → Option (List ℕ)
numbers words = where_so (nat_le 1 (length words) && nat_le (length words) 8) (each_number words)

-- a command, by its name
unfoldable pub command_named : List ℕ → Option Layout
command_named form =
    if bytes_eq form (codes "vma") then Some layout.Vma
    else if bytes_eq form (codes "gvma") then Some layout.Gvma
    else if bytes_eq form (codes "fence") then Some layout.Fence
    else if bytes_eq form (codes "iodir") then Some layout.Iodir
    else None

unfoldable pub command : List (List ℕ) → Option (List ℕ)
command [] = None
command (form ∷ operands) = do
  layout ← command_named form
  words_laid layout operands

-- the words of an item with these operands, where contexts have this format
unfoldable pub words_as : ContextFormat → Item → List (List ℕ) → Option (List ℕ)
words_as format item.Cmd operands = command operands
words_as format item.Fault operands = words_laid layout.Fault operands
words_as format item.Context operands = words_laid (context_layout format) operands
words_as format item.Dir operands = words_laid layout.Dir operands
words_as format item.Pte operands = words_laid layout.Pte operands
words_as format item.Msi operands = words_laid layout.Msi operands
words_as format item.Word operands = numbers operands

-- the words that a statement stands for, by its first word
unfoldable pub words_for : ContextFormat → List ℕ → List (List ℕ) → Option (List ℕ)
words_for format name operands = do
  item ← item_named name
  words_as format item operands

-- An IOMMU takes the operands nl and s only with the capability of that name, mode 10 of a context only with Sv57, gmode 10 only with
-- Sv57x4.
abbrev pub is_ten : Option ℕ → Bool
is_ten None = false
is_ten (Some n) = n == 10

abbrev pub are_offered : Features → List (List ℕ) → Bool
are_offered features operands =
    (has_bit features nl_bit || not (is_given (codes "nl") operands)) && (has_bit features s_bit || not (is_given (codes "s") operands))
    && (has_bit features sv57_bit || not (is_ten (value_of (codes "mode") operands)))
    && (has_bit features sv57x4_bit || not (is_ten (value_of (codes "gmode") operands)))

-- the words that a statement stands for on an IOMMU with these features
unfoldable pub words_on : Features → List ℕ → List (List ℕ) → Option (List ℕ)
words_on features name operands = where_so (are_offered features operands) (words_for (context_format features) name operands)
