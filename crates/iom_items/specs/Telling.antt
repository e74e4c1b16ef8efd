-- The line of the words of a statement says again what the statement says, on an IOMMU with any features.
use Rattle.std.specs.Prelude.{ℕ, ◌≡◌, ◌<◌, ◌^◌, ◌⊎◌, All, List, [], ◌∷◌, codes, length, Option, Some, None}
use Rattle.std.specs.Option.{option_map}
use Rattle.iom_bits.specs.Features.{Features}
use Rattle.iom_ddt.specs.Formats.{context_format}
use Rattle.iom_ddt.specs.declared.formats.ContextFormat.{ContextFormat}
use Rattle.iom_text.specs.Words.{words_of}
use Rattle.iom_items.specs.declared.item.Item.{Item}
use Rattle.iom_items.specs.declared.item.Item.TheVariants as item
use Rattle.iom_items.specs.Items.{IsDirEncoding, IsMsiEncoding, IsPteEncoding, PageTableEntry, dir_of, msi_of, name_of, pte_of, words_in}
use Rattle.iom_items.specs.Layouts.{Field, Layout, context_layout, fields_of, title_of}
use Rattle.iom_items.specs.declared.layouts.Layout.TheVariants as layout
use Rattle.iom_items.specs.Operands.{◌>>=◌, value_of}
use Rattle.iom_items.specs.Forms.{command_named, numbers, words_on}
use Rattle.iom_items.specs.Lines.{Pair, line_on, shown_of, with_operands, words_text}

-- what a statement's operands say of these fields, in order
abbrev pub said_pairs : List Field → List (List ℕ) → Option (List Pair)
said_pairs [] operands = Some []
said_pairs (field ∷ fields) operands = do
  n ← value_of field.key operands
  pairs ← said_pairs fields operands
  Some ((field.key, n) ∷ pairs)

abbrev pub said_line : Layout → List (List ℕ) → Option (List ℕ)
said_line layout operands = option_map (λ pairs. with_operands (title_of layout) (shown_of pairs)) (said_pairs (fields_of layout) operands)

-- the line with what a statement's operands say, all of them in order
unfoldable pub line_of_operands : ContextFormat → Item → List (List ℕ) → Option (List ℕ)
line_of_operands format item.Cmd [] = None
line_of_operands format item.Cmd (form ∷ operands) = do
  layout ← command_named form
  said_line layout operands
line_of_operands format item.Fault operands = said_line layout.Fault operands
line_of_operands format item.Context operands = said_line (context_layout format) operands
line_of_operands format item.Dir operands = said_line layout.Dir operands
line_of_operands format item.Pte operands = said_line layout.Pte operands
line_of_operands format item.Msi operands = said_line layout.Msi operands
line_of_operands format item.Word operands = option_map words_text (numbers operands)

-- The line of the words that a statement stands for has the statement's own operands.
abbrev pub TellsOperands : Type 0
TellsOperands =
    (features : Features) (kind : Item) (operands : List (List ℕ)) (words : List ℕ) → words_on features (name_of kind) operands ≡ Some words →
    line_of_operands (context_format features) kind operands ≡ Some (line_on features kind words)

-- A line is a statement of words: it has this name and these operands, and they stand for those words.
pub record IsStatement (features : Features) (line words name : List ℕ) (operands : List (List ℕ)) : Type 0 where
  pub parts : words_of line ≡ name ∷ operands
  pub stands : words_on features name operands ≡ Some words

-- The line of some words is a statement of the same words, with the same number for each key as these operands.
pub record IsToldAgain (features : Features) (kind : Item) (operands : List (List ℕ)) (words : List ℕ) : Type 0 where
  pub again : List (List ℕ)
  pub statement : IsStatement features (line_on features kind words) words (name_of kind) again
  pub numbers : (key : List ℕ) → value_of key again ≡ value_of key operands

-- The line of a statement's words is again a statement of them, with the same numbers.
abbrev pub TellsStatements : Type 0
TellsStatements =
    (features : Features) (kind : Item) (operands : List (List ℕ)) (words : List ℕ) → words_on features (name_of kind) operands ≡ Some words →
    IsToldAgain features kind operands words

-- The line of some words is a statement of them, by the item's name or by `u64`.
pub record HasStatement (features : Features) (kind : Item) (words : List ℕ) : Type 0 where
  pub name : List ℕ
  pub operands : List (List ℕ)
  pub statement : IsStatement features (line_on features kind words) words name operands
  pub named : (name ≡ name_of kind) ⊎ (name ≡ codes "u64")

-- The line of any words is a statement of them, if they are as many as the item has.
abbrev pub StatesWords : Type 0
StatesWords =
    (features : Features) (kind : Item) (words : List ℕ) → length words ≡ words_in (context_format features) kind → All (λ word. word < 2 ^ 64) words →
    HasStatement features kind words

-- An entry of a directory and its word stand for each other.
abbrev pub ReadsDirs : Type 0
ReadsDirs =
    (ppn word : ℕ) → word < 2 ^ 64 → (IsDirEncoding ppn word → dir_of word ≡ Some ppn) × (dir_of word ≡ Some ppn → IsDirEncoding ppn word)

-- An entry of a page table and its word stand for each other.
abbrev pub ReadsPtes : Type 0
ReadsPtes =
    (entry : PageTableEntry) (word : ℕ) → word < 2 ^ 64 →
    (IsPteEncoding entry word → pte_of word ≡ Some entry) × (pte_of word ≡ Some entry → IsPteEncoding entry word)

-- An entry of an MSI page table and its words stand for each other.
abbrev pub ReadsMsis : Type 0
ReadsMsis =
    (ppn first second : ℕ) → first < 2 ^ 64 →
    (IsMsiEncoding ppn first second → msi_of first second ≡ Some ppn) × (msi_of first second ≡ Some ppn → IsMsiEncoding ppn first second)
