-- All that is looked at to lead a request where nothing is cached, in order: RISC-V IOMMU Architecture 1.0, "Process to locate the
-- Device-context", "Process to translate an IOVA" and "Process to translate addresses of MSIs"; RISC-V Privileged Architecture 1.12,
-- "Two-Stage Address Translation".
-- An id or an address that breaks the width rule of a table stands in place of the table's entries.
use Rattle.std.specs.Prelude.{ℕ, ◌+◌, ◌*◌, ◌%◌, Bool, true, false, not, List, [], ◌∷◌, ◌++◌, map, flat_map, Option, Some, None, Result, Ok, Err}
use Rattle.iom_bits.specs.declared.causes.Cause.{Cause}
use Rattle.iom_bits.specs.declared.causes.Kind.{Kind}
use Rattle.iom_bits.specs.declared.causes.Kind.TheVariants.{Read}
use Rattle.iom_bits.specs.Features.{Features}
use Rattle.iom_mem.specs.Memory.{Memory}
use Rattle.iom_regs.specs.Views.{mode_of, root_of}
use Rattle.iom_regs.specs.declared.views.Mode.{Mode}
use Rattle.iom_regs.specs.declared.views.Mode.TheVariants as mode
use Rattle.iom_ddt.specs.Directory.{is_too_wide, levels_of, located, path_of}
use Rattle.iom_ddt.specs.Formats.{context_format}
use Rattle.iom_ddt.specs.declared.context.Context.{Context}
use Rattle.iom_ddt.specs.declared.context.MsiTable.{MsiTable}
use Rattle.iom_walk.specs.Outcome.{outcome_of}
use Rattle.iom_walk.specs.Shape.{is_in_width}
use Rattle.iom_walk.specs.Told.{path_told}
use Rattle.iom_walk.specs.declared.listing.PathEntry.{PathEntry}
use Rattle.iom_walk.specs.declared.outcome.Outcome.{Outcome}
use Rattle.iom_walk.specs.declared.outcome.Outcome.TheVariants as outcome
use Rattle.iom_walk.specs.declared.shape.Shape.{Shape}
use Rattle.iom_nested.specs.Faults.{Failure}
use Rattle.iom_nested.specs.Files.{file_place, file_word, is_of_file}
use Rattle.iom_nested.specs.Nested.{first_stage}
use Rattle.iom_nested.specs.Stages.{first_shape_of, format_of, ram_got, second_shape_of, table_got}
use Rattle.iom_nested.specs.declared.translation.Reached.{Reached}
use Rattle.iom_core.specs.State.{Machine, device_id_end}
use Rattle.iom_core.specs.declared.access.Request.{Request}
use Rattle.iom_core.specs.Access.{led_under}
use Rattle.iom_core.specs.Looking.{by_tables}
use Rattle.iom_tables.specs.declared.part.Part.{Part}
use Rattle.iom_tables.specs.declared.part.Part.TheVariants as part
use Rattle.iom_tables.specs.declared.part.Wide.{Wide}
use Rattle.iom_tables.specs.declared.part.Wide.TheVariants as wide

-- the entries of a table where its width rule is kept, else what breaks the rule
abbrev pub by_width : Bool → Wide → List Part → List Part
by_width true what entries = entries
by_width false what entries = part.Wide what ∷ []

-- the entries of the second stage on the way from a guest-physical address; none where that stage is Bare
abbrev pub second_by : Memory → Features → ℕ → Kind → ℕ → Option Shape → List Part
second_by memory features root kind guest None = []
second_by memory features root kind guest (Some shape) =
    by_width (is_in_width shape guest) (wide.Second guest) (map (part.Second guest) (path_told (ram_got memory) (format_of features shape) root guest kind))

unfoldable pub second_parts : Memory → Features → Context → Kind → ℕ → List Part
second_parts memory features context kind guest = second_by memory features context.gppn kind guest (second_shape_of context)

-- the physical address that a walk of the second stage leads to
abbrev pub address_by : ℕ → Outcome → Option ℕ
address_by guest (outcome.Leaf leaf) = Some (leaf.frame * 4096 + guest % 4096)
address_by guest outcome.Outside = None
address_by guest (outcome.Guest place) = None
address_by guest outcome.Fault = None

-- the physical address that an entry of the first stage is read at: its place, or where the second stage leads that for a read
abbrev pub read_by : Memory → Features → ℕ → ℕ → Option Shape → Option ℕ
read_by memory features root place None = Some place
read_by memory features root place (Some shape) = address_by place (outcome_of (ram_got memory) (format_of features shape) root place Read)

unfoldable pub read_at : Memory → Features → Context → ℕ → Option ℕ
read_at memory features context place = read_by memory features context.gppn place (second_shape_of context)

-- an entry of the first stage, behind those of the second that its place is translated by
abbrev pub entry_parts : Memory → Features → Context → PathEntry → List Part
entry_parts memory features context entry =
    second_parts memory features context Read entry.place ++ part.First entry (read_at memory features context entry.place) ∷ []

-- the first stage, entry by entry; nothing where it is Bare
abbrev pub first_by : Memory → Features → Context → ℕ → Kind → Option Shape → List Part
first_by memory features context iova kind None = []
first_by memory features context iova kind (Some shape) =
    by_width (is_in_width shape iova) (wide.First iova)
    (flat_map (entry_parts memory features context) (path_told (table_got memory features context) (format_of features shape) context.ppn iova kind))

unfoldable pub first_parts : Memory → Features → Context → ℕ → Kind → List Part
first_parts memory features context iova kind = first_by memory features context iova kind (first_shape_of context)

-- the entry of an interrupt file, in the MSI page table
abbrev pub file_part : Memory → MsiTable → ℕ → Part
file_part memory msi guest = part.File guest (file_place msi guest) (file_word memory (file_place msi guest))

-- an address of an interrupt file goes by its entry, every other one by those of the second stage for the access's own kind
abbrev pub reached_parts : Memory → Features → Context → Kind → Bool → ℕ → List Part
reached_parts memory features context kind true guest = file_part memory context.msi guest ∷ []
reached_parts memory features context kind false guest = second_parts memory features context kind guest

-- the access itself, from the address that the first stage reached
abbrev pub access_parts : Memory → Features → Context → Kind → Result Reached Failure → List Part
access_parts memory features context kind (Ok reached) =
    reached_parts memory features context kind (is_of_file context.msi reached.addr) reached.addr
access_parts memory features context kind (Err failure) = []

-- both stages of the context that was found; nothing where none was
abbrev pub stage_parts : Memory → Features → ℕ → Kind → Result Context Cause → List Part
stage_parts memory features iova kind (Ok context) =
    first_parts memory features context iova kind
    ++ access_parts memory features context kind (first_stage memory features context iova kind (first_shape_of context))
stage_parts memory features iova kind (Err why) = []

-- the directory, item by item; a device id has 24 bits
abbrev pub directory_parts : Machine → ℕ → List Part
directory_parts m did =
    by_width (not (is_too_wide (context_format m.registers.features) (levels_of (mode_of m.registers)) did)) (wide.Directory (did % device_id_end))
    (map part.Directory (path_of m.memory m.registers did))

-- what is behind ddtp: the directory and the stages, where its mode has a directory
abbrev pub parts_by : Mode → Machine → Request → List Part
parts_by mode.Off m request = []
parts_by mode.Bare m request = []
parts_by (mode.Levels levels) m request =
    directory_parts m request.did
    ++ stage_parts m.memory m.registers.features request.iova request.kind (located m.memory m.registers request.did)

-- ddtp first, and last the way that the request is led
unfoldable pub parts_of : Machine → Request → List Part
parts_of m request =
    part.Ddtp (mode_of m.registers) (root_of m.registers)
    ∷ parts_by (mode_of m.registers) m request
    ++ part.End (by_tables m request) ∷ []

-- below a context that is cached: both stages as the tables stand now, and the way that they lead the request
unfoldable pub parts_under : Memory → Features → Request → Context → List Part
parts_under memory features request context =
    stage_parts memory features request.iova request.kind (Ok context) ++ part.End (led_under memory features [] request context).way ∷ []
