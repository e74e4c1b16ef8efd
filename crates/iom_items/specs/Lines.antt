-- The canonical line of an item: its statement with all operands in order, but for the NL and S of an IOTINVAL that are 0, numbers
-- as `0x` and plain lower-case hex; words that are no such item are printed as words.
use Rattle.std.specs.Prelude.{ℕ, ◌+◌, ◌++◌, ◌==◌, ◌&&◌, ◌||◌, Bool, true, false, not, List, [], ◌∷◌, bytes_eq, get_or, take, codes, Option, Some, None, if◌then◌else◌}
use Rattle.std.specs.Option.{option_map}
use Rattle.iom_bits.specs.Bits.{field_of, has_bit, with_field_of}
use Rattle.iom_bits.specs.Features.{Features, nl_bit, s_bit, sv57_bit, sv57x4_bit}
use Rattle.iom_text.specs.Texts.{hexadecimal}
use Rattle.iom_mem.specs.Memory.{Memory, words_at}
use Rattle.iom_ddt.specs.declared.context.Context.{Context}
use Rattle.iom_ddt.specs.Formats.{context_format}
use Rattle.iom_ddt.specs.Words as ddt
use Rattle.iom_ddt.specs.declared.formats.ContextFormat.{ContextFormat}
use Rattle.iom_items.specs.declared.item.Item.{Item}
use Rattle.iom_items.specs.Items.{context_words, words_in}
use Rattle.iom_items.specs.Layouts.{Field, Layout, base_of, context_layout, fields_of, layouts_of, title_of}
use Rattle.iom_items.specs.Forms.{is_sound, told_by}

abbrev pub operand : List ℕ → ℕ → List ℕ
operand key value = codes " " ++ key ++ codes "=" ++ hexadecimal value

-- an operand's key and its number
abbrev pub Pair : Type 0
Pair = List ℕ × ℕ

-- a text with these operands after it
abbrev pub with_operands : List ℕ → List Pair → List ℕ
with_operands text [] = text
with_operands text (pair ∷ pairs) = with_operands (text ++ operand pair.0 pair.1) pairs

-- what a field of some words holds, and the number that this tells
abbrev pub content_in : Field → List ℕ → ℕ
content_in field words = field_of (get_or words field.word 0) field.low field.width

abbrev pub number_in : Field → List ℕ → ℕ
number_in field words = told_by field (content_in field words)

-- the operands of some words
abbrev pub pairs_in : List Field → List ℕ → List Pair
pairs_in [] words = []
pairs_in (field ∷ fields) words = (field.key, number_in field words) ∷ pairs_in fields words

-- those that their line has: nl and s, which an IOMMU may lack, only where they aren't 0
abbrev pub may_lack : List ℕ → Bool
may_lack key = bytes_eq key (codes "nl") || bytes_eq key (codes "s")

abbrev pub shown_of : List Pair → List Pair
shown_of [] = []
shown_of (pair ∷ pairs) = if may_lack pair.0 && pair.1 == 0 then shown_of pairs else pair ∷ shown_of pairs

-- a word with what another has in a field
abbrev pub filled : Field → ℕ → ℕ → ℕ
filled field word made = with_field_of made field.low field.width (field_of word field.low field.width)

-- Words have a layout if its base, with what they have in its fields, is just these words.
unfoldable pub made_word : List Field → ℕ → ℕ → ℕ → ℕ
made_word [] at word made = made
made_word (field ∷ fields) at word made = if field.word == at then made_word fields at word (filled field word made) else made_word fields at word made

unfoldable pub are_made : List Field → ℕ → List ℕ → List ℕ → Bool
are_made fields at [] [] = true
are_made fields at (base ∷ bases) (word ∷ words) = made_word fields at word base == word && are_made fields (at + 1) bases words
are_made fields at [] (word ∷ words) = false
are_made fields at (base ∷ bases) [] = false

unfoldable pub is_laid : Layout → List ℕ → Bool
is_laid layout words = are_made (fields_of layout) 0 (base_of layout) words && is_sound layout words

-- the layout of an item that words have; None: they are no such item
abbrev pub layout_among : List Layout → List ℕ → Option Layout
layout_among [] words = None
layout_among (layout ∷ layouts) words = if is_laid layout words then Some layout else layout_among layouts words

abbrev pub layout_in : ContextFormat → Item → List ℕ → Option Layout
layout_in format item words = layout_among (layouts_of format item) words

-- words as numbers, a space before each
abbrev pub numbers_text : List ℕ → List ℕ
numbers_text [] = []
numbers_text (word ∷ words) = codes " " ++ hexadecimal word ++ numbers_text words

abbrev pub words_text : List ℕ → List ℕ
words_text words = codes "u64" ++ numbers_text words

unfoldable pub text_of : Layout → List ℕ → List ℕ
text_of layout words = with_operands (title_of layout) (shown_of (pairs_in (fields_of layout) words))

abbrev pub text_by : Option Layout → List ℕ → List ℕ
text_by None words = words_text words
text_by (Some layout) words = text_of layout words

-- the line of words that are looked at as an item
abbrev pub line_of : ContextFormat → Item → List ℕ → List ℕ
line_of format item words = text_by (layout_in format item words) words

-- the words of a context in this format, and its line
abbrev pub words_with : ContextFormat → Context → List ℕ
words_with format c = take (context_words format) (ddt.words_of c)

abbrev pub context_text : ContextFormat → Context → List ℕ
context_text format c = text_of (context_layout format) (words_with format c)

-- the line of the item at a physical address; None: a byte of it is outside
unfoldable pub item_line : Memory → ContextFormat → Item → ℕ → Option (List ℕ)
item_line memory format item addr = option_map (line_of format item) (words_at memory addr (words_in format item))

-- the number that fields of some words have for a key; 0 where none has it
abbrev pub number_for : List ℕ → List Pair → ℕ
number_for key [] = 0
number_for key (pair ∷ pairs) = if bytes_eq pair.0 key then pair.1 else number_for key pairs

-- An IOMMU with these features takes the words as the item that they stand for: a context needs the modes of its stages, a command the
-- capabilities of its bits.
abbrev pub are_had : Features → List Pair → Bool
are_had features pairs =
    (has_bit features nl_bit || number_for (codes "nl") pairs == 0) && (has_bit features s_bit || number_for (codes "s") pairs == 0)
    && (has_bit features sv57_bit || not (number_for (codes "mode") pairs == 10))
    && (has_bit features sv57x4_bit || not (number_for (codes "gmode") pairs == 10))

abbrev pub is_had : Features → List ℕ → Option Layout → Bool
is_had features words None = true
is_had features words (Some layout) = are_had features (pairs_in (fields_of layout) words)

abbrev pub is_taken : Features → Item → List ℕ → Bool
is_taken features item words = is_had features words (layout_in (context_format features) item words)

-- the line there: words that aren't taken so are printed as words
abbrev pub line_on : Features → Item → List ℕ → List ℕ
line_on features item words =
    if is_taken features item words then line_of (context_format features) item words else words_text words

unfoldable pub item_line_on : Memory → Features → Item → ℕ → Option (List ℕ)
item_line_on memory features item addr =
    option_map (line_on features item) (words_at memory addr (words_in (context_format features) item))
