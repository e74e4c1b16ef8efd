-- What an IOMMU reads in an item's words is what their line tells, part by part.
use Rattle.std.specs.Prelude.{ℕ, ◌≡◌, ◌<◌, ◌^◌, ◌++◌, List, [], ◌∷◌, codes, Option, Some, None}
use Rattle.std.specs.Result.{result_ok}
use Rattle.iom_bits.specs.Bits.{flag}
use Rattle.iom_ddt.specs.declared.context.Context.{Context}
use Rattle.iom_ddt.specs.Words.{context_in}
use Rattle.iom_ddt.specs.declared.formats.ContextFormat.{ContextFormat}
use Rattle.iom_ddt.specs.declared.formats.ContextFormat.TheVariants.{Base, Extended}
use Rattle.iom_queue.specs.Commands.{command_of}
use Rattle.iom_queue.specs.Records.{record_of}
use Rattle.iom_queue.specs.declared.command.Command.{Command}
use Rattle.iom_queue.specs.declared.command.Command.TheVariants.{Vma, Gvma, Fence, Iodir}
use Rattle.iom_queue.specs.declared.record.Record.{Record}
use Rattle.iom_items.specs.declared.item.Item.{Item}
use Rattle.iom_items.specs.declared.item.Item.TheVariants as item
use Rattle.iom_items.specs.Items.{PageTableEntry, dir_of, msi_of, pte_of}
use Rattle.iom_items.specs.Layouts.{Layout, fields_of, title_of}
use Rattle.iom_items.specs.declared.layouts.Layout.TheVariants as layout
use Rattle.iom_items.specs.Lines.{Pair, layout_in, pairs_in, shown_of, with_operands}

abbrev pub command_layout : Command → Layout
command_layout (Vma av page pscv pscid gv gscid nl s) = layout.Vma
command_layout (Gvma av page pscid gv gscid nl s) = layout.Gvma
command_layout (Fence av wsi pr pw value addr) = layout.Fence
command_layout (Iodir dv did) = layout.Iodir

-- the operands that tell a command, a fault record, a context, an entry of a directory, one of a page table and one of an MSI page table
abbrev pub command_pairs : Command → List Pair
command_pairs (Vma av page pscv pscid gv gscid nl s) =
    (codes "av", flag av) ∷ (codes "page", page) ∷ (codes "pscv", flag pscv) ∷ (codes "pscid", pscid) ∷ (codes "gv", flag gv)
    ∷ (codes "gscid", gscid) ∷ (codes "nl", flag nl) ∷ (codes "s", flag s) ∷ []
command_pairs (Gvma av page pscid gv gscid nl s) =
    (codes "av", flag av) ∷ (codes "page", page) ∷ (codes "pscid", pscid) ∷ (codes "gv", flag gv) ∷ (codes "gscid", gscid)
    ∷ (codes "nl", flag nl) ∷ (codes "s", flag s) ∷ []
command_pairs (Fence av wsi pr pw value addr) =
    (codes "av", flag av) ∷ (codes "wsi", flag wsi) ∷ (codes "pr", flag pr) ∷ (codes "pw", flag pw) ∷ (codes "data", value)
    ∷ (codes "addr", addr) ∷ []
command_pairs (Iodir dv did) = (codes "dv", flag dv) ∷ (codes "did", did) ∷ []

-- the line of a command, which is that of its words
unfoldable pub command_text : Command → List ℕ
command_text command = with_operands (title_of (command_layout command)) (shown_of (command_pairs command))

abbrev pub record_pairs : Record → List Pair
record_pairs fault =
    (codes "cause", fault.cause) ∷ (codes "pid", fault.pid) ∷ (codes "pv", flag fault.pv) ∷ (codes "priv", flag fault.privileged)
    ∷ (codes "ttyp", fault.ttyp) ∷ (codes "did", fault.did) ∷ (codes "iotval", fault.iotval) ∷ (codes "iotval2", fault.iotval2) ∷ []

abbrev pub context_pairs : Context → List Pair
context_pairs c =
    (codes "dtf", flag c.dtf) ∷ (codes "custom", c.custom) ∷ (codes "gmode", c.gmode) ∷ (codes "gppn", c.gppn)
    ∷ (codes "gscid", c.gscid) ∷ (codes "tav", flag c.tav) ∷ (codes "pscid", c.pscid) ∷ (codes "mode", c.mode) ∷ (codes "ppn", c.ppn)
    ∷ []

abbrev pub extended_pairs : Context → List Pair
extended_pairs c =
    context_pairs c
    ++ (codes "msimode", flag c.msi.flat) ∷ (codes "msippn", c.msi.ppn) ∷ (codes "msimask", c.msi.mask) ∷ (codes "msipattern", c.msi.pattern)
    ∷ []

abbrev pub dir_pairs : ℕ → List Pair
dir_pairs ppn = (codes "ppn", ppn) ∷ []

abbrev pub pte_pairs : PageTableEntry → List Pair
pte_pairs entry = (codes "ppn", entry.ppn) ∷ (codes "flags", entry.flags) ∷ []

abbrev pub msi_pairs : ℕ → List Pair
msi_pairs ppn = (codes "ppn", ppn) ∷ []

-- Words have the layout of what is read in them, and tell its parts; if nothing is read in them, they have none.
abbrev pub AreTold : {A : Type 0} → (A → Layout) → (A → List Pair) → ContextFormat → Item → List ℕ → Option A → Type 0
AreTold layout pairs format kind words None = layout_in format kind words ≡ None
AreTold layout pairs format kind words (Some x) = (layout_in format kind words ≡ Some (layout x)) × (pairs_in (fields_of (layout x)) words ≡ pairs x)

-- of two words as a command, of four as a fault record, of four or eight as a context, of one as an entry of a directory and of a page
-- table, and of two as one of an MSI page table
abbrev pub ReadsCommands : Type 0
ReadsCommands =
    (format : ContextFormat) (first second : ℕ) →
    AreTold command_layout command_pairs format item.Cmd (first ∷ second ∷ []) (command_of (first ∷ second ∷ []))

abbrev pub ReadsRecords : Type 0
ReadsRecords =
    (format : ContextFormat) (first second third fourth : ℕ) → first < 2 ^ 64 → third < 2 ^ 64 → fourth < 2 ^ 64 →
    AreTold (λ (fault : Record). layout.Fault) record_pairs format item.Fault (first ∷ second ∷ third ∷ fourth ∷ []) (record_of (first ∷ second ∷ third ∷ fourth ∷ []))

abbrev pub ReadsContexts : Type 0
ReadsContexts =
    (first second third fourth : ℕ) →
    AreTold (λ (c : Context). layout.Context) context_pairs Base item.Context (first ∷ second ∷ third ∷ fourth ∷ [])
    (result_ok (context_in (first ∷ second ∷ third ∷ fourth ∷ [])))

abbrev pub ReadsExtended : Type 0
ReadsExtended =
    (first second third fourth fifth sixth seventh last : ℕ) →
    AreTold (λ (c : Context). layout.ExtendedContext) extended_pairs Extended item.Context
    (first ∷ second ∷ third ∷ fourth ∷ fifth ∷ sixth ∷ seventh ∷ last ∷ [])
    (result_ok (context_in (first ∷ second ∷ third ∷ fourth ∷ fifth ∷ sixth ∷ seventh ∷ last ∷ [])))

abbrev pub ReadsEntries : Type 0
ReadsEntries =
    (format : ContextFormat) (word : ℕ) → word < 2 ^ 64 →
    AreTold (λ (ppn : ℕ). layout.Dir) dir_pairs format item.Dir (word ∷ []) (dir_of word)
    × AreTold (λ (entry : PageTableEntry). layout.Pte) pte_pairs format item.Pte (word ∷ []) (pte_of word)

abbrev pub ReadsMsiEntries : Type 0
ReadsMsiEntries =
    (format : ContextFormat) (first second : ℕ) → first < 2 ^ 64 →
    AreTold (λ (ppn : ℕ). layout.Msi) msi_pairs format item.Msi (first ∷ second ∷ []) (msi_of first second)
