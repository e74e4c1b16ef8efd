-- The translation by both stages of a context and its MSI page table: RISC-V IOMMU Architecture 1.0, "Process to translate an IOVA"; RISC-V
-- Privileged Architecture 1.12, "Two-Stage Address Translation".
use Rattle.std.specs.Prelude.{ℕ, ◌+◌, ◌*◌, ◌/◌, ◌%◌, ◌^◌, ◌<◌, Bool, true, false, List, [], Option, Some, None, Result, Ok, Err}
use Rattle.iom_bits.specs.declared.causes.Kind.{Kind}
use Rattle.iom_bits.specs.Features.{Features}
use Rattle.iom_mem.specs.Memory.{Memory}
use Rattle.iom_ddt.specs.declared.context.Context.{Context}
use Rattle.iom_walk.specs.Outcome.{outcome_of}
use Rattle.iom_walk.specs.Told.{path_told}
use Rattle.iom_walk.specs.declared.listing.PathEntry.{PathEntry}
use Rattle.iom_walk.specs.declared.shape.Shape.{Shape}
use Rattle.iom_walk.specs.declared.outcome.Outcome.{Outcome}
use Rattle.iom_walk.specs.declared.outcome.Outcome.TheVariants as outcome
use Rattle.iom_nested.specs.Stages.{first_shape_of, format_of, second_shape_of, ram_got, table_got}
use Rattle.iom_nested.specs.Files.{file_stage, is_of_file}
use Rattle.iom_nested.specs.Faults.{Failure, EntryOutside, FirstStage, SecondForEntry, SecondForAccess, fault_of}
use Rattle.iom_nested.specs.declared.translation.Fault.{Fault}
use Rattle.iom_nested.specs.declared.translation.Hit.{Hit}
use Rattle.iom_nested.specs.declared.translation.Reached.{Reached}

-- where the first stage leads
abbrev pub reached_by : ℕ → Outcome → Result Reached Failure
reached_by iova (outcome.Leaf leaf) =
    Ok (record { addr = leaf.frame * 4096 + iova % 4096; level = leaf.level; global = leaf.global; napot = leaf.napot })
reached_by iova outcome.Outside = Err EntryOutside
reached_by iova (outcome.Guest place) = Err (SecondForEntry place)
reached_by iova outcome.Fault = Err FirstStage

-- the bounds of a leaf of the first stage
abbrev pub LeafReaches : Outcome → Type 0
LeafReaches (outcome.Leaf leaf) = (leaf.frame < 2 ^ 44) × (leaf.level < 5)
LeafReaches outcome.Outside = Unit {0}
LeafReaches (outcome.Guest place) = Unit {0}
LeafReaches outcome.Fault = Unit {0}

-- the entries that the first stage meets; none where it is Bare
abbrev pub first_path : Memory → Features → Context → ℕ → Kind → Option Shape → List PathEntry
first_path memory features context iova kind None = []
first_path memory features context iova kind (Some shape) = path_told (table_got memory features context) (format_of features shape) context.ppn iova kind

-- a Bare first stage leads to the IOVA itself
abbrev pub first_stage : Memory → Features → Context → ℕ → Kind → Option Shape → Result Reached Failure
first_stage memory features context iova kind None = Ok (record { addr = iova; level = 0; global = false; napot = false })
first_stage memory features context iova kind (Some shape) =
    reached_by iova (outcome_of (table_got memory features context) (format_of features shape) context.ppn iova kind)

-- the second stage's frame, for the access's own kind; the first stage's level, global and napot
abbrev pub hit_by : Reached → Outcome → Result Hit Failure
hit_by reached (outcome.Leaf leaf) = Ok (record { frame = leaf.frame; level = reached.level; global = reached.global; napot = reached.napot })
hit_by reached outcome.Outside = Err EntryOutside
hit_by reached (outcome.Guest place) = Err (SecondForAccess reached.addr)
hit_by reached outcome.Fault = Err (SecondForAccess reached.addr)

abbrev pub second_stage : Memory → Features → Context → Kind → Option Shape → Reached → Result Hit Failure
second_stage memory features context kind None reached =
    Ok (record { frame = reached.addr / 4096; level = reached.level; global = reached.global; napot = reached.napot })
second_stage memory features context kind (Some shape) reached =
    hit_by reached (outcome_of (ram_got memory) (format_of features shape) context.gppn reached.addr kind)

-- an address of an interrupt file goes by the MSI page table, also where the second stage is Bare, every other one by the second stage
abbrev pub access_stage : Memory → Features → Context → Kind → Bool → Reached → Result Hit Failure
access_stage memory features context kind true reached = file_stage memory context.msi reached
access_stage memory features context kind false reached = second_stage memory features context kind (second_shape_of context) reached

abbrev pub behind_first : Memory → Features → Context → Kind → Result Reached Failure → Result Hit Failure
behind_first memory features context kind (Ok reached) = access_stage memory features context kind (is_of_file context.msi reached.addr) reached
behind_first memory features context kind (Err failure) = Err failure

abbrev pub told_of : {A : Type 0} → Kind → Result A Failure → Result A Fault
told_of kind (Ok found) = Ok found
told_of kind (Err failure) = Err (fault_of kind failure)

unfoldable pub translation : Memory → Features → Context → ℕ → Kind → Result Hit Fault
translation memory features context iova kind =
    told_of kind (behind_first memory features context kind (first_stage memory features context iova kind (first_shape_of context)))
