-- Where a request is granted, nothing that is looked at refuses it; where it is denied, something does: RISC-V IOMMU Architecture 1.0,
-- "Process to locate the Device-context", "Process to translate an IOVA" and "Process to translate addresses of MSIs".
use Rattle.std.specs.Prelude.{ℕ, ◌≡◌, ◌≢◌, ◌⊎◌, ◌%◌, true, false, Option, Some, None, Result, Ok, Err}
use Rattle.iom_bits.specs.declared.causes.Cause.{Cause}
use Rattle.iom_bits.specs.Features.{Features}
use Rattle.iom_regs.specs.Views.{mode_of}
use Rattle.iom_regs.specs.declared.views.Mode.TheVariants as mode
use Rattle.iom_ddt.specs.Directory.{decided_by, is_too_wide, levels_of, located}
use Rattle.iom_ddt.specs.Formats.{context_format}
use Rattle.iom_ddt.specs.declared.context.Context.{Context}
use Rattle.iom_walk.specs.Shape.{is_in_width}
use Rattle.iom_walk.specs.declared.entry.Ruling.{Ruling}
use Rattle.iom_walk.specs.declared.entry.Ruling.TheVariants as ruling
use Rattle.iom_walk.specs.declared.shape.Shape.{Shape}
use Rattle.iom_nested.specs.Files.{file_ruling}
use Rattle.iom_nested.specs.Stages.{first_shape_of, second_shape_of}
use Rattle.iom_nested.specs.declared.files.FileRuling.TheVariants as file
use Rattle.iom_core.specs.State.{Machine, device_id_end}
use Rattle.iom_core.specs.declared.access.Request.{Request}
use Rattle.iom_tables.specs.declared.part.Part.{Part}
use Rattle.iom_tables.specs.declared.part.Part.TheVariants as part
use Rattle.iom_tables.specs.declared.part.Wide.{Wide}
use Rattle.iom_tables.specs.declared.part.Wide.TheVariants as wide
use Rattle.iom_core.specs.declared.way.Way.{Way}
use Rattle.iom_core.specs.declared.way.Way.TheVariants as way

abbrev pub IsGranted : Way → Type 0
IsGranted way.Register = Unit {0}
IsGranted (way.Context context) = Unit {0}
IsGranted (way.Walked context hit) = Unit {0}
IsGranted (way.Denied denial) = ⊥

-- an item of the directory points on, or is a context
abbrev pub IsNoFault : Option (Result Context Cause) → Type 0
IsNoFault None = Unit {0}
IsNoFault (Some (Ok context)) = Unit {0}
IsNoFault (Some (Err cause)) = ⊥

-- an entry of a page table points on, or maps
abbrev pub Lets : Ruling → Type 0
Lets row = (row ≡ ruling.Pointer) ⊎ (row ≡ ruling.Leaf)

abbrev pub Passes : Features → Part → Type 0
Passes features (part.Ddtp own root) = own ≢ mode.Off
Passes features (part.Directory met) = IsNoFault (decided_by features met)
Passes features (part.Wide what) = ⊥
Passes features (part.First entry addr) = Lets entry.ruling
Passes features (part.Second guest entry) = Lets entry.ruling
Passes features (part.File guest place word) = file_ruling word ≡ file.Leads
Passes features (part.End end) = IsGranted end

-- an address breaks the width rule of a stage; a Bare one has none
abbrev pub IsBeyond : Option Shape → ℕ → Type 0
IsBeyond None address = ⊥
IsBeyond (Some shape) address = is_in_width shape address ≡ false

-- the request's own id breaks the rule of the directory, its IOVA that of the first stage of the context that the directory has for it,
-- or a guest-physical address that of the second
abbrev pub Breaks : Machine → Request → Wide → Type 0
Breaks m request (wide.Directory did) =
    (did ≡ request.did % device_id_end) × (is_too_wide (context_format m.registers.features) (levels_of (mode_of m.registers)) request.did ≡ true)
Breaks m request (wide.First iova) =
    (iova ≡ request.iova)
    × ((context : Context) × ((located m.memory m.registers request.did ≡ Ok context) × IsBeyond (first_shape_of context) iova))
Breaks m request (wide.Second guest) =
    (context : Context) × ((located m.memory m.registers request.did ≡ Ok context) × IsBeyond (second_shape_of context) guest)

-- a part refuses the request; the end never does, it only shows that a part did
abbrev pub Refuses : Machine → Request → Part → Type 0
Refuses m request (part.Ddtp own root) = own ≡ mode.Off
Refuses m request (part.Directory met) = ¬ IsNoFault (decided_by m.registers.features met)
Refuses m request (part.Wide what) = Breaks m request what
Refuses m request (part.First entry addr) = ¬ Lets entry.ruling
Refuses m request (part.Second guest entry) = ¬ Lets entry.ruling
Refuses m request (part.File guest place word) = file_ruling word ≢ file.Leads
Refuses m request (part.End end) = ⊥
