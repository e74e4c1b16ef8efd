-- The words of items, and items of one word or two.
use Rattle.std.specs.Prelude.{ℕ, ◌≡◌, ◌+◌, ◌*◌, ◌^◌, ◌<◌, ◌==◌, ◌&&◌, List, codes, bytes_eq, Option, Some, None, if◌then◌else◌}
use Rattle.iom_bits.specs.Bits.{field_of}
use Rattle.iom_ddt.specs.declared.formats.ContextFormat.{ContextFormat}
use Rattle.iom_ddt.specs.declared.formats.ContextFormat.TheVariants.{Base, Extended}
use Rattle.iom_items.specs.declared.item.Item.{Item}
use Rattle.iom_items.specs.declared.item.Item.TheVariants as item

-- the name of an item's statements, and the item of a name
abbrev pub name_of : Item → List ℕ
name_of item.Cmd = codes "cmd"
name_of item.Fault = codes "fault"
name_of item.Context = codes "context"
name_of item.Dir = codes "dir"
name_of item.Pte = codes "pte"
name_of item.Msi = codes "msi"
name_of item.Word = codes "u64"

unfoldable pub item_named : List ℕ → Option Item
item_named name =
    if bytes_eq name (codes "cmd") then Some item.Cmd
    else if bytes_eq name (codes "fault") then Some item.Fault
    else if bytes_eq name (codes "context") then Some item.Context
    else if bytes_eq name (codes "dir") then Some item.Dir
    else if bytes_eq name (codes "pte") then Some item.Pte
    else if bytes_eq name (codes "msi") then Some item.Msi
    else if bytes_eq name (codes "u64") then Some item.Word
    else None

-- how many words an item has, a context by its format
abbrev pub context_words : ContextFormat → ℕ
context_words Base = 4
context_words Extended = 8

abbrev pub words_in : ContextFormat → Item → ℕ
words_in format item.Cmd = 2
words_in format item.Fault = 4
words_in format item.Context = context_words format
words_in format item.Dir = 1
words_in format item.Pte = 1
words_in format item.Msi = 2
words_in format item.Word = 1

-- An entry of a device directory that is no leaf: V 0, PPN 53:10, all other bits 0 (RISC-V IOMMU Architecture 1.0, "Non-leaf
-- DDT entry"). Its PPN, where a word is one.
abbrev pub dir_word : ℕ → ℕ
dir_word ppn = 1 + 2 ^ 10 * ppn

abbrev pub dir_of : ℕ → Option ℕ
dir_of word = if field_of word 0 10 == 1 && field_of word 54 10 == 0 then Some (field_of word 10 44) else None

-- the word stands for the entry with this PPN
pub record IsDirEncoding (ppn word : ℕ) : Type 0 where
  pub fits : ppn < 2 ^ 44
  pub word_is : word ≡ dir_word ppn

-- An entry of a page table: flags 9:0, PPN 53:10, all other bits 0 (RISC-V Privileged Architecture, "Sv39"). PPN and flags,
-- where a word is one.
abbrev pub pte_word : ℕ → ℕ → ℕ
pte_word ppn flags = flags + 2 ^ 10 * ppn

pub record PageTableEntry : Type 0 where
  pub ppn : ℕ
  pub flags : ℕ

abbrev pub pte_of : ℕ → Option PageTableEntry
pte_of word =
    if field_of word 54 10 == 0 then Some (record { ppn = field_of word 10 44; flags = field_of word 0 10 }) else None

-- the word stands for the entry
pub record IsPteEncoding (entry : PageTableEntry) (word : ℕ) : Type 0 where
  pub ppn_fits : entry.ppn < 2 ^ 44
  pub flags_fit : entry.flags < 2 ^ 10
  pub word_is : word ≡ pte_word entry.ppn entry.flags

-- A basic entry of an MSI page table, of two words: V 1, M 3, which stands in bits 2:1, PPN 53:10, all other bits 0, and 0 (RISC-V
-- Advanced Interrupt Architecture 1.0, "MSI page tables"). Its PPN, where words are one.
abbrev pub msi_word : ℕ → ℕ
msi_word ppn = 7 + 2 ^ 10 * ppn

abbrev pub msi_of : ℕ → ℕ → Option ℕ
msi_of first second =
    if field_of first 0 10 == 7 && field_of first 54 10 == 0 && second == 0 then Some (field_of first 10 44) else None

-- the words stand for the entry with this PPN
pub record IsMsiEncoding (ppn first second : ℕ) : Type 0 where
  pub fits : ppn < 2 ^ 44
  pub first_is : first ≡ msi_word ppn
  pub second_is : second ≡ 0
