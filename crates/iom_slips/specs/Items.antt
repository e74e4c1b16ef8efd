-- What is wrong with the words of an item.
use Rattle.std.specs.Prelude.{ℕ, ◌+◌, ◌++◌, ◌==◌, ◌||◌, Bool, false, nat_lt, List, [], ◌∷◌, length, codes, bytes_eq, Option, Some, None, is_some, if◌then◌else◌}
use Rattle.iom_bits.specs.Features.{Feature, rows}
use Rattle.iom_text.specs.Words.{number}
use Rattle.iom_items.specs.declared.item.Item.{Item}
use Rattle.iom_items.specs.declared.item.Item.TheVariants as item
use Rattle.iom_items.specs.Items.{item_named}
use Rattle.iom_items.specs.Layouts.{Field, fields_of}
use Rattle.iom_items.specs.declared.layouts.Layout.{Layout}
use Rattle.iom_items.specs.declared.layouts.Layout.TheVariants as layout
use Rattle.iom_items.specs.Operands.{Operand, is_given, operand_of}
use Rattle.iom_ddt.specs.declared.formats.ContextFormat.TheVariants.{Base, Extended}
use Rattle.iom_items.specs.Forms.{command_named, words_for}
use Rattle.iom_slips.specs.Ranges.{is_one_in, unlike_number}
use Rattle.iom_slips.specs.Quoting.{quoted}
use Rattle.iom_slips.specs.declared.items.Keys.{Keys}
use Rattle.iom_slips.specs.declared.items.Keys.TheVariants as keys
use Rattle.iom_slips.specs.declared.ranges.Range.{Range}
use Rattle.iom_slips.specs.declared.ranges.Range.TheVariants.{Any, Bits}

-- the first text, where there is one, and else the second
abbrev pub or_told : List ℕ → List ℕ → List ℕ
or_told first second = if nat_lt 0 (length first) then first else second

-- the numbers that tell a field; and those of the field with a key. None: there is no such key
abbrev pub range_by : Field → Range
range_by field = if field.zeros + field.width == 64 then Any else Bits (field.zeros + field.width)

unfoldable pub range_among : List Field → List ℕ → Option Range
range_among [] name = None
range_among (field ∷ fields) name = if bytes_eq name field.key then Some (range_by field) else range_among fields name

-- those of the keys of `capabilities`
abbrev pub is_feature : List Feature → List ℕ → Bool
is_feature [] name = false
is_feature (row ∷ table) name = bytes_eq name row.name || is_feature table name

unfoldable pub capability_range : List ℕ → Option Range
capability_range name =
    if bytes_eq name (codes "vectors") || bytes_eq name (codes "igs") then Some Any
    else if is_feature rows name then Some (Bits 1) else None

abbrev pub range_of : Keys → List ℕ → Option Range
range_of (keys.Of layout) name = range_among (fields_of layout) name
range_of keys.Capabilities name = capability_range name

-- what is wrong with a value; empty where nothing is
abbrev pub value_slip : Option Range → List ℕ → List ℕ → List ℕ
value_slip None word value = quoted word ++ codes " has an unknown key"
value_slip (Some range) word value =
    if is_one_in range (number value) then [] else quoted word ++ codes ": the value" ++ unlike_number range value

-- what is wrong with an operand, before some others
abbrev pub operand_slip : Keys → List ℕ → Option Operand → List (List ℕ) → List ℕ
operand_slip keys word None others = quoted word ++ codes " isn't KEY=NUMBER"
operand_slip keys word (Some operand) others =
    if is_given operand.key others then quoted word ++ codes " has a key that is given twice"
    else value_slip (range_of keys operand.key) word operand.value

-- what is wrong with the first of some operands that can't stand; else the last text
unfoldable pub operands_slip : Keys → List (List ℕ) → List ℕ → List ℕ
operands_slip keys [] last = last
operands_slip keys (word ∷ words) last = or_told (operand_slip keys word (operand_of word) words) (operands_slip keys words last)

-- what is wrong with the numbers of `u64`
unfoldable pub numbers_slip : List (List ℕ) → List ℕ
numbers_slip [] = codes "u64 wants 1 to 8 numbers"
numbers_slip (word ∷ words) = if is_some (number word) then numbers_slip words else quoted word ++ unlike_number Any word

-- what is told where the operands alone don't show it
abbrev pub unfit : Layout → List ℕ
unfit layout.Fence = codes "addr isn't a multiple of 4"
unfit layout.Context = codes "a context has no such fields together"
unfit layout.ExtendedContext = codes "a context has no such fields together"
unfit _ = codes "the operands don't fit"

abbrev pub laid_slip : Layout → List (List ℕ) → List ℕ
laid_slip layout operands = operands_slip (keys.Of layout) operands (unfit layout)

abbrev pub named_slip : List ℕ → Option Layout → List (List ℕ) → List ℕ
named_slip form None operands = quoted form ++ codes " isn't vma, gvma, fence or iodir"
named_slip form (Some layout) operands = laid_slip layout operands

unfoldable pub command_slip : List (List ℕ) → List ℕ
command_slip [] = codes "cmd wants vma, gvma, fence or iodir"
command_slip (form ∷ operands) = named_slip form (command_named form) operands

-- what is wrong with an item of this name that stands for no words; a context of either format has keys of the extended one
abbrev pub kind_slip : List ℕ → Option Item → List (List ℕ) → List ℕ
kind_slip name None operands = quoted name ++ codes " is no item"
kind_slip name (Some item.Word) operands = numbers_slip operands
kind_slip name (Some item.Cmd) operands = command_slip operands
kind_slip name (Some item.Fault) operands = laid_slip layout.Fault operands
kind_slip name (Some item.Context) operands = laid_slip layout.ExtendedContext operands
kind_slip name (Some item.Dir) operands = laid_slip layout.Dir operands
kind_slip name (Some item.Pte) operands = laid_slip layout.Pte operands
kind_slip name (Some item.Msi) operands = laid_slip layout.Msi operands

unfoldable pub statement_slip : List ℕ → List (List ℕ) → List ℕ
statement_slip name operands = kind_slip name (item_named name) operands

-- whether an item stands for words, where contexts have either format
abbrev pub is_sound_item : List ℕ → List (List ℕ) → Bool
is_sound_item name operands = is_some (words_for Base name operands) || is_some (words_for Extended name operands)

-- what is wrong with an item's words; the last text where the item itself is sound
unfoldable pub item_slip : List (List ℕ) → List ℕ → List ℕ
item_slip [] last = codes "ITEM is missing"
item_slip (name ∷ operands) last =
    if nat_lt 13 (length operands) then codes "an item has at most fourteen words"
    else if is_sound_item name operands then last
    else statement_slip name operands
