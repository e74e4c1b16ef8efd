-- Each bad line has a reason.
use Rattle.std.proofs.Common.{ℕ, suc, arith, ◌≡◌, ◌%◌, ◌==◌, ◌++◌, Bool, true, false, nat_lt, List, [], ◌∷◌, length, take, codes, bytes_eq, Option, Some, None, is_some, if◌then◌else◌, refl}
use Rattle.std.specs.List.{list_any}
use Rattle.iom_text.specs.Words.{number, words_of}
use Rattle.iom_items.specs.declared.item.Item.{Item as Kind}
use Rattle.iom_items.specs.declared.item.Item.TheVariants as item
use Rattle.iom_items.specs.Items.{item_named}
use Rattle.iom_items.specs.declared.layouts.Layout.{Layout}
use Rattle.iom_items.specs.declared.layouts.Layout.TheVariants as layout
use Rattle.iom_items.specs.Forms.{command_named}
use Rattle.iom_items.specs.Operands.{operand_of}
use Rattle.iom_tool.specs.Script.{debug_line_of}
use Rattle.iom_slips.specs.declared.ranges.Range.{Range}
use Rattle.iom_slips.specs.declared.ranges.Range.TheVariants.{Any}
use Rattle.iom_slips.specs.declared.pieces.Operand.{Operand}
use Rattle.iom_slips.specs.declared.pieces.Operand.TheVariants as op
use Rattle.iom_slips.specs.declared.pieces.Choice.{Choice}
use Rattle.iom_slips.specs.declared.pieces.Choice.TheVariants as choice
use Rattle.iom_slips.specs.Ranges.{unlike_number}
use Rattle.iom_slips.specs.Quoting.{quoted}
use Rattle.iom_slips.specs.declared.items.Keys.{Keys}
use Rattle.iom_slips.specs.declared.items.Keys.TheVariants as keys
use Rattle.iom_slips.specs.Items.{command_slip, is_sound_item, item_slip, kind_slip, laid_slip, named_slip, numbers_slip, operand_slip, operands_slip, or_told, statement_slip, unfit}
use Rattle.iom_slips.specs.Patterns.{Among, BlockRegister, Data, Hex, Item, Number, Piece, Register, Word, name_of, patterns, words_among}
use Rattle.iom_slips.specs.Slips.{closest, data_slip, include_slip, is_bad, is_hex, is_piece, left_at, left_over, missing, reason, slip_of, unlike, verb_slip, words_slip}

abbrev is_more : List ℕ → Bool
is_more [] = false
is_more (c ∷ text) = true

abbrev Told : List ℕ → Type 0
Told text = is_more text ≡ true

some_more : (n : ℕ) → nat_lt 0 (suc n) ≡ true
some_more n = grind arith

long : (text : List ℕ) → Told text → nat_lt 0 (length text) ≡ true
long [] p = p
long (c ∷ text) p = some_more (length text)

by_both : (b : Bool) (one other : List ℕ) → Told one → Told other → Told (if b then one else other)
by_both true one other p q = p
by_both false one other p q = q

one_told : (one other : List ℕ) → Told other → Told (or_told one other)
one_told [] other q = q
one_told (c ∷ text) other q = by_both (nat_lt 0 (length (c ∷ text))) (c ∷ text) other refl q

word_told : (word more : List ℕ) → Told (quoted word ++ more)
unfolding quoted
word_told word more = refl

pub word_long : (word more : List ℕ) → nat_lt 0 (length (quoted word ++ more)) ≡ true
word_long word more = long (quoted word ++ more) (word_told word more)

pub word_longer : (word first more : List ℕ) → nat_lt 0 (length (quoted word ++ first ++ more)) ≡ true
unfolding quoted
word_longer word first more = long (quoted word ++ first ++ more) refl

name_told : (operand : Operand) (more : List ℕ) → Told (name_of operand ++ more)
unfolding name_of
name_told op.Address more = refl
name_told op.Size more = refl
name_told op.Value more = refl
name_told op.Offset more = refl
name_told op.DeviceId more = refl
name_told op.Iova more = refl
name_told op.Length more = refl
name_told op.Device more = refl
name_told op.Byte more = refl
name_told op.Place more = refl
name_told op.Most more = refl
name_told op.Base more = refl
name_told op.Sectors more = refl

among_told : (choice : Choice) (more : List ℕ) → Told (words_among choice ++ more)
unfolding words_among
among_told choice.Access more = refl
among_told choice.Device more = refl
among_told choice.Kind more = refl
among_told choice.Cache more = refl
among_told choice.Queue more = refl
among_told choice.Stale more = refl
among_told choice.Run more = refl
among_told choice.Busy more = refl

operands_told : (keys : Keys) (words : List (List ℕ)) (last : List ℕ) → Told last → Told (operands_slip keys words last)
unfolding operands_slip
operands_told keys [] last p = p
operands_told keys (word ∷ words) last p =
    one_told (operand_slip keys word (operand_of word) words) (operands_slip keys words last) (operands_told keys words last p)

numbers_told : (words : List (List ℕ)) → Told (numbers_slip words)
unfolding numbers_slip
numbers_told [] = refl
numbers_told (word ∷ words) =
    by_both (is_some (number word)) _ _ (numbers_told words) (word_told word (unlike_number Any word))

unfit_told : (layout : Layout) → Told (unfit layout)
unfit_told layout.Vma = refl
unfit_told layout.Gvma = refl
unfit_told layout.Fence = refl
unfit_told layout.Iodir = refl
unfit_told layout.Fault = refl
unfit_told layout.Context = refl
unfit_told layout.ExtendedContext = refl
unfit_told layout.Dir = refl
unfit_told layout.Pte = refl
unfit_told layout.Msi = refl

laid_told : (layout : Layout) (operands : List (List ℕ)) → Told (laid_slip layout operands)
laid_told layout operands = operands_told (keys.Of layout) operands (unfit layout) (unfit_told layout)

named_told : (form : List ℕ) (found : Option Layout) (operands : List (List ℕ)) → Told (named_slip form found operands)
named_told form None operands = word_told form _
named_told form (Some layout) operands = laid_told layout operands

command_told : (words : List (List ℕ)) → Told (command_slip words)
unfolding command_slip
command_told [] = refl
command_told (form ∷ words) = named_told form (command_named form) words

kind_told : (name : List ℕ) (kind : Option Kind) (operands : List (List ℕ)) → Told (kind_slip name kind operands)
kind_told name None operands = word_told name _
kind_told name (Some item.Word) operands = numbers_told operands
kind_told name (Some item.Cmd) operands = command_told operands
kind_told name (Some item.Fault) operands = laid_told layout.Fault operands
kind_told name (Some item.Context) operands = laid_told layout.ExtendedContext operands
kind_told name (Some item.Dir) operands = laid_told layout.Dir operands
kind_told name (Some item.Pte) operands = laid_told layout.Pte operands
kind_told name (Some item.Msi) operands = laid_told layout.Msi operands

statement_told : (name : List ℕ) (operands : List (List ℕ)) → Told (statement_slip name operands)
unfolding statement_slip
statement_told name operands = kind_told name (item_named name) operands

item_told : (words : List (List ℕ)) (last : List ℕ) → Told last → Told (item_slip words last)
unfolding item_slip
item_told [] last p = refl
item_told (name ∷ operands) last p =
    by_both (nat_lt 13 (length operands)) _ _ refl
    (by_both (is_sound_item name operands) _ _ p (statement_told name operands))

missing_told : (piece : Piece) → Told (missing piece)
unfolding missing
missing_told (Word name) = refl
missing_told (Among name choice) = among_told choice _
missing_told (Number operand range) = name_told operand _
missing_told Register = refl
missing_told BlockRegister = refl
missing_told Data = refl
missing_told Hex = refl
missing_told Item = refl

data_told : (c : ℕ) (name word : List ℕ) → Told (data_slip (c ∷ name) word)
unfolding data_slip
data_told c name word =
    by_both (is_hex word) _ _ (by_both (length word % 2 == 1) _ _ refl refl) refl

unlike_number_told : (operand : Operand) (range : Range) (word : List ℕ) → Told (unlike (Number operand range) word)
unfolding unlike name_of
unlike_number_told op.Address range word = refl
unlike_number_told op.Size range word = refl
unlike_number_told op.Value range word = refl
unlike_number_told op.Offset range word = refl
unlike_number_told op.DeviceId range word = refl
unlike_number_told op.Iova range word = refl
unlike_number_told op.Length range word = refl
unlike_number_told op.Device range word = refl
unlike_number_told op.Byte range word = refl
unlike_number_told op.Place range word = refl
unlike_number_told op.Most range word = refl
unlike_number_told op.Base range word = refl
unlike_number_told op.Sectors range word = refl

unlike_told : (piece : Piece) (word : List ℕ) → Told (unlike piece word)
unfolding unlike quoted
unlike_told (Word name) word = refl
unlike_told (Among name choice) word = refl
unlike_told (Number operand range) word = unlike_number_told operand range word
unlike_told Register word = refl
unlike_told BlockRegister word = refl
unlike_told Data word = data_told _ _ word
unlike_told Hex word = data_told _ _ word
unlike_told Item word = refl

left_over_told : (words : List (List ℕ)) (last : List ℕ) → Told last → Told (left_over words last)
left_over_told [] last p = p
left_over_told (word ∷ words) last p = word_told word (codes " is one word too many")

left_at_told : (pieces : List Piece) (words : List (List ℕ)) (last : List ℕ) → Told last → Told (left_at pieces words last)
unfolding left_at
left_at_told [] words last p = left_over_told words last p
left_at_told (Item ∷ pieces) words last p = item_told (take 15 words) _ refl
left_at_told (Word name ∷ pieces) [] last p = missing_told (Word name)
left_at_told (Among name choice ∷ pieces) [] last p = missing_told (Among name choice)
left_at_told (Number operand range ∷ pieces) [] last p = missing_told (Number operand range)
left_at_told (Register ∷ pieces) [] last p = missing_told Register
left_at_told (BlockRegister ∷ pieces) [] last p = missing_told BlockRegister
left_at_told (Data ∷ pieces) [] last p = missing_told Data
left_at_told (Hex ∷ pieces) [] last p = missing_told Hex
left_at_told (Word name ∷ pieces) (word ∷ words) last p =
    by_both (is_piece (Word name) word) _ _ (left_at_told pieces words last p) (unlike_told (Word name) word)
left_at_told (Among name choice ∷ pieces) (word ∷ words) last p =
    by_both (is_piece (Among name choice) word) _ _ (left_at_told pieces words last p) (unlike_told (Among name choice) word)
left_at_told (Number operand range ∷ pieces) (word ∷ words) last p =
    by_both (is_piece (Number operand range) word) _ _ (left_at_told pieces words last p) (unlike_told (Number operand range) word)
left_at_told (Register ∷ pieces) (word ∷ words) last p =
    by_both (is_piece Register word) _ _ (left_at_told pieces words last p) (unlike_told Register word)
left_at_told (BlockRegister ∷ pieces) (word ∷ words) last p =
    by_both (is_piece BlockRegister word) _ _ (left_at_told pieces words last p) (unlike_told BlockRegister word)
left_at_told (Data ∷ pieces) (word ∷ words) last p =
    by_both (is_piece Data word) _ _ (left_at_told pieces words last p) (unlike_told Data word)
left_at_told (Hex ∷ pieces) (word ∷ words) last p =
    by_both (is_piece Hex word) _ _ (left_at_told pieces words last p) (unlike_told Hex word)

include_told : (words : List (List ℕ)) → Told (include_slip words)
include_told [] = refl
include_told (file ∷ []) = refl
include_told (file ∷ word ∷ words) = refl

words_told : (pieces : List Piece) (words : List (List ℕ)) → Told (words_slip pieces words)
unfolding words_slip
words_told [] [] = refl
words_told [] (word ∷ words) = by_both (bytes_eq word (codes "include")) (include_slip words) (verb_slip word) (include_told words) refl
words_told (piece ∷ pieces) words = left_at_told (piece ∷ pieces) words _ refl

reason_told : (line : List ℕ) → Told (reason line)
unfolding reason
reason_told line =
    by_both (nat_lt 512 (length line)) _ _ refl
    (by_both (list_any (λ c. c == 10) line) _ _ refl (words_told (closest [] patterns (words_of line)) (words_of line)))

pub are_told : (line : List ℕ) → nat_lt 0 (length (slip_of line)) ≡ is_bad (debug_line_of line)
unfolding slip_of
are_told line = by (is_bad (debug_line_of line)) where
  by : (b : Bool) → nat_lt 0 (length (if b then reason line else [])) ≡ b
  by true = long (reason line) (reason_told line)
  by false = refl
