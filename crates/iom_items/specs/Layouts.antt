-- How the words of items are laid out, field by field. RISC-V IOMMU Architecture 1.0, "IOTINVAL", "IOFENCE.C", "IODIR", "Fault record",
-- "Base-format device-context", "Extended-format device-context", "Non-leaf DDT entry"; RISC-V Privileged Architecture, "Sv39"; RISC-V
-- Advanced Interrupt Architecture 1.0, "MSI page tables".
use Rattle.std.specs.Prelude.{ℕ, ◌+◌, ◌/◌, ◌≤◌, ◌++◌, List, [], ◌∷◌, codes, length, map}
use Rattle.iom_ddt.specs.declared.formats.ContextFormat.{ContextFormat}
use Rattle.iom_ddt.specs.declared.formats.ContextFormat.TheVariants.{Base, Extended}
use Rattle.iom_items.specs.declared.item.Item.{Item}
use Rattle.iom_items.specs.declared.item.Item.TheVariants as item
use Rattle.iom_items.specs.declared.layouts.Field.{Field as OwnField}
pub use Rattle.iom_items.specs.declared.layouts.Layout.{Layout}
use Rattle.iom_items.specs.declared.layouts.Layout.TheVariants as layout

-- A field has a key in statements; it stands in a word, of which the first is 0, at `width` bits from bit `low` on. The number that it tells has
-- its bits above so many zeros.
pub record Field : Type 0 where
  pub key : List ℕ
  pub word : ℕ
  pub low : ℕ
  pub width : ℕ
  pub zeros : ℕ

abbrev pub field_as : OwnField → Field
field_as own = record { key = own.key.now; word = own.word; low = own.low; width = own.width; zeros = own.zeros }

-- it lies within a word, and its number within 64 bits
pub record FieldFits (field : Field) : Type 0 where
  pub some : 1 ≤ field.width
  pub within : field.low + field.width ≤ 64
  pub told : field.zeros + field.width ≤ 64

-- key, word, lowest bit and width
abbrev pub row : List ℕ → ℕ → ℕ → ℕ → Field
row key word low width = record { key = key; word = word; low = low; width = width; zeros = 0 }

-- an address whose lowest two bits aren't stored
abbrev pub quarter : List ℕ → ℕ → ℕ → ℕ → Field
quarter key word low width = record { key = key; word = word; low = low; width = width; zeros = 2 }

-- the fields of a context; one of the extended format has those of its MSI page table behind them
abbrev pub context_fields : List Field
context_fields =
    row (codes "dtf") 0 4 1
    ∷ row (codes "custom") 0 24 8
    ∷ row (codes "gmode") 1 60 4
    ∷ row (codes "gppn") 1 0 44
    ∷ row (codes "gscid") 1 44 16
    ∷ row (codes "tav") 2 0 1
    ∷ row (codes "pscid") 2 12 20
    ∷ row (codes "mode") 3 60 4
    ∷ row (codes "ppn") 3 0 44
    ∷ []

-- the fields, in the order of a line's operands
unfoldable pub fields_of : Layout → List Field
fields_of layout.Vma =
    row (codes "av") 0 10 1
    ∷ row (codes "page") 1 10 52
    ∷ row (codes "pscv") 0 32 1
    ∷ row (codes "pscid") 0 12 20
    ∷ row (codes "gv") 0 33 1
    ∷ row (codes "gscid") 0 44 16
    ∷ row (codes "nl") 0 34 1
    ∷ row (codes "s") 1 9 1
    ∷ []
fields_of layout.Gvma =
    row (codes "av") 0 10 1
    ∷ row (codes "page") 1 10 52
    ∷ row (codes "pscid") 0 12 20
    ∷ row (codes "gv") 0 33 1
    ∷ row (codes "gscid") 0 44 16
    ∷ row (codes "nl") 0 34 1
    ∷ row (codes "s") 1 9 1
    ∷ []
fields_of layout.Fence =
    row (codes "av") 0 10 1
    ∷ row (codes "wsi") 0 11 1
    ∷ row (codes "pr") 0 12 1
    ∷ row (codes "pw") 0 13 1
    ∷ row (codes "data") 0 32 32
    ∷ quarter (codes "addr") 1 0 62
    ∷ []
fields_of layout.Iodir =
    row (codes "dv") 0 33 1
    ∷ row (codes "did") 0 40 24
    ∷ []
fields_of layout.Fault =
    row (codes "cause") 0 0 12
    ∷ row (codes "pid") 0 12 20
    ∷ row (codes "pv") 0 32 1
    ∷ row (codes "priv") 0 33 1
    ∷ row (codes "ttyp") 0 34 6
    ∷ row (codes "did") 0 40 24
    ∷ row (codes "iotval") 2 0 64
    ∷ row (codes "iotval2") 3 0 64
    ∷ []
fields_of layout.Context = context_fields
fields_of layout.ExtendedContext =
    context_fields
    ++ row (codes "msimode") 4 60 4
    ∷ row (codes "msippn") 4 0 44
    ∷ row (codes "msimask") 5 0 52
    ∷ row (codes "msipattern") 6 0 52
    ∷ []
fields_of layout.Dir = row (codes "ppn") 0 10 44 ∷ []
fields_of layout.Pte =
    row (codes "ppn") 0 10 44
    ∷ row (codes "flags") 0 0 10
    ∷ []
fields_of layout.Msi = row (codes "ppn") 0 10 44 ∷ []

-- The words whose fields are all 0. A command has its opcode in bits 6:0 and func3 in 9:7: 129 is opcode 1 with func3 1. A context and an entry of
-- a directory have V, bit 0; an entry of an MSI page table has V and M 3, which stands in bits 2:1.
unfoldable pub base_of : Layout → List ℕ
base_of layout.Vma = 1 ∷ 0 ∷ []
base_of layout.Gvma = 129 ∷ 0 ∷ []
base_of layout.Fence = 2 ∷ 0 ∷ []
base_of layout.Iodir = 3 ∷ 0 ∷ []
base_of layout.Fault = 0 ∷ 0 ∷ 0 ∷ 0 ∷ []
base_of layout.Context = 1 ∷ 0 ∷ 0 ∷ 0 ∷ []
base_of layout.ExtendedContext = 1 ∷ 0 ∷ 0 ∷ 0 ∷ 0 ∷ 0 ∷ 0 ∷ 0 ∷ []
base_of layout.Dir = 1 ∷ []
base_of layout.Pte = 0 ∷ []
base_of layout.Msi = 7 ∷ 0 ∷ []

-- what a line of such words begins with
unfoldable pub title_of : Layout → List ℕ
title_of layout.Vma = codes "cmd vma"
title_of layout.Gvma = codes "cmd gvma"
title_of layout.Fence = codes "cmd fence"
title_of layout.Iodir = codes "cmd iodir"
title_of layout.Fault = codes "fault"
title_of layout.Context = codes "context"
title_of layout.ExtendedContext = codes "context"
title_of layout.Dir = codes "dir"
title_of layout.Pte = codes "pte"
title_of layout.Msi = codes "msi"

-- the layout of a context of this format
abbrev pub context_layout : ContextFormat → Layout
context_layout Base = layout.Context
context_layout Extended = layout.ExtendedContext

-- the layouts that an item's words may have, where contexts have this format
abbrev pub layouts_of : ContextFormat → Item → List Layout
layouts_of format item.Cmd = layout.Vma ∷ layout.Gvma ∷ layout.Fence ∷ layout.Iodir ∷ []
layouts_of format item.Fault = layout.Fault ∷ []
layouts_of format item.Context = context_layout format ∷ []
layouts_of format item.Dir = layout.Dir ∷ []
layouts_of format item.Pte = layout.Pte ∷ []
layouts_of format item.Msi = layout.Msi ∷ []
layouts_of format item.Word = []

abbrev pub keys_of : List Field → List (List ℕ)
keys_of fields = map (λ (field : Field). field.key) fields

-- the most bytes that the operands of these fields have on a line, each a blank, the key, `=0x` and a digit for four bits
abbrev pub room_of : List Field → ℕ
room_of [] = 0
room_of (field ∷ fields) = length field.key + 4 + (field.zeros + field.width + 3) / 4 + room_of fields
