-- The device directory: RISC-V IOMMU Architecture 1.0, "Device-directory-table" and "Process to locate the
-- Device-context".
use Rattle.std.specs.Prelude.{ℕ, zero, suc, ◌≡◌, ◌+◌, ◌-◌, ◌*◌, ◌==◌, ◌&&◌, ◌||◌, ◌++◌, Bool, true, false, not, IsTrue, List, [], ◌∷◌, filter_map, get_or, Option, Some, None, Result, Ok, Err, nat_lt, if◌then◌else◌}
use Rattle.arrayvec.specs.ArrayVec.{ArrayVec, array_vec_len}
use Rattle.iom_bits.specs.Bits.{has_bit, field_of}
use Rattle.iom_bits.specs.declared.causes.Cause.{Cause}
use Rattle.iom_bits.specs.declared.causes.Cause.TheVariants.{DirAccess, DirInvalid, DirBad, TooWide}
use Rattle.iom_bits.specs.Features.{Features}
use Rattle.iom_mem.specs.Memory.{Memory, word}
use Rattle.iom_regs.specs.Table.{Registers}
use Rattle.iom_regs.specs.Views.{mode_of, root_of}
use Rattle.iom_regs.specs.declared.views.Mode.{Mode}
use Rattle.iom_regs.specs.declared.views.Mode.TheVariants as mode
use Rattle.iom_ddt.specs.declared.context.Context.{Context}
use Rattle.iom_ddt.specs.declared.met.Met.{Met}
use Rattle.iom_ddt.specs.declared.met.Met.TheVariants.{Entry, Leaf}
use Rattle.iom_ddt.specs.declared.formats.ContextFormat.{ContextFormat}
use Rattle.iom_ddt.specs.Contexts.{has_modes}
use Rattle.iom_ddt.specs.Formats.{context_bytes, ddi, context_format, words_in}
use Rattle.iom_ddt.specs.Words.{context_in, IsEncoding}

-- an id with a part above the directory's levels that isn't 0
abbrev pub is_too_wide : ContextFormat → ℕ → ℕ → Bool
is_too_wide format levels did =
    nat_lt levels 3 && not (ddi format did 2 == 0) || nat_lt levels 2 && not (ddi format did 1 == 0)

-- the table that an entry points to, by its PPN, bits 53:10; or the fault that it is: outside memory, V = 0, or a bit set
-- beside V and the PPN
abbrev pub pointed_by : Option ℕ → Result ℕ Cause
pointed_by None = Err DirAccess
pointed_by (Some entry) =
    if not (has_bit entry 0) then Err DirInvalid
    else if not (field_of entry 1 9 == 0 && field_of entry 54 10 == 0) then Err DirBad
    else Ok (field_of entry 10 44)

-- what is met behind an entry, in the table that it points to; nothing behind a fault
abbrev pub behind : Result ℕ Cause → (ℕ → List Met) → List Met
behind (Ok table) from = from table
behind (Err cause) from = []

-- where the context is met in the last table, and an entry in a table above it
abbrev pub leaf_place : ContextFormat → ℕ → ℕ → ℕ
leaf_place format did table = table * 4096 + ddi format did 0 * context_bytes format

abbrev pub entry_place : ContextFormat → ℕ → ℕ → ℕ → ℕ
entry_place format did level table = table * 4096 + ddi format did level * 8

-- the path from a table on, with so many levels of tables below it: entries of tables of 8 bytes each, then the words of the context,
-- each at its physical address
abbrev pub path_from : ContextFormat → Memory → ℕ → ℕ → ℕ → List Met
path_from format memory did zero table =
    let place : ℕ = leaf_place format did table in
    Leaf place (words_in format memory place) ∷ []
path_from format memory did (suc level) table =
    let place : ℕ = entry_place format did (suc level) table in
    Entry place (word memory place) ∷ behind (pointed_by (word memory place)) (path_from format memory did level)

abbrev pub fault_in : Result ℕ Cause → Option (Result Context Cause)
fault_in (Ok table) = None
fault_in (Err cause) = Some (Err cause)

-- a context is misconfigured where the IOMMU lacks one of its modes
abbrev pub with_modes : Features → Result Context Cause → Result Context Cause
with_modes features (Ok context) = if has_modes features context then Ok context else Err DirBad
with_modes features (Err cause) = Err cause

-- what one of them decides; an entry that points on decides nothing
abbrev pub decided_by : Features → Met → Option (Result Context Cause)
decided_by features (Entry place entry) = fault_in (pointed_by entry)
decided_by features (Leaf place None) = Some (Err DirAccess)
decided_by features (Leaf place (Some words)) = Some (with_modes features (context_in words))

-- The verdict: the first that decides. The last of a path always does.
abbrev pub first_of : List (Result Context Cause) → Result Context Cause
first_of [] = Err DirAccess
first_of (first ∷ more) = first

unfoldable pub verdict_on : Features → List Met → Result Context Cause
verdict_on features path = first_of (filter_map (decided_by features) path)

-- whether the mode has a directory, and how many levels
abbrev pub levels_of : Mode → ℕ
levels_of mode.Off = 0
levels_of mode.Bare = 0
levels_of (mode.Levels levels) = levels

-- the path of a device id from the root on; one that is too wide has none
unfoldable pub path_of : Memory → Registers → ℕ → List Met
path_of memory registers did =
    if is_too_wide (context_format registers.features) (levels_of (mode_of registers)) did then []
    else path_from (context_format registers.features) memory did (levels_of (mode_of registers) - 1) (root_of registers)

-- a list of at most three notes one item more
abbrev pub kept : ArrayVec Met → Met → ArrayVec Met
kept list met = if nat_lt (array_vec_len list) 3 then record { items = list.items ++ met ∷ [] } else list

-- the context of a device id, or the cause of the fault
unfoldable pub located : Memory → Registers → ℕ → Result Context Cause
located memory registers did =
    if is_too_wide (context_format registers.features) (levels_of (mode_of registers)) did then Err TooWide
    else verdict_on registers.features (path_from (context_format registers.features) memory did (levels_of (mode_of registers) - 1) (root_of registers))

-- What is found at the words of a context, without a decoder: the context that they encode, if the IOMMU has its modes; or the fault,
-- if there is no such context, or a byte of them is outside memory.
abbrev pub IsOf : Features → Context → List ℕ → Type 0
IsOf features context words = IsEncoding context words × IsTrue (has_modes features context)

abbrev pub IsContextOf : Features → Option (List ℕ) → Result Context Cause → Type 0
IsContextOf features None found = found ≡ Err DirAccess
IsContextOf features (Some words) (Ok context) = IsOf features context words
IsContextOf features (Some words) (Err cause) =
    ((context : Context) → ¬ IsOf features context words)
    × (cause ≡ (if has_bit (get_or words 0 0) 0 then DirBad else DirInvalid))

-- The last of a path says what is found: the words of the context, or an entry that is a fault. Those before it point on.
abbrev pub IsEnd : Features → List Met → Result Context Cause → Type 0
IsEnd features [] found = ⊥
IsEnd features (Leaf place words ∷ more) found = IsContextOf features words found
IsEnd features (Entry place entry ∷ []) found = (cause : Cause) × (pointed_by entry ≡ Err cause) × (found ≡ Err cause)
IsEnd features (Entry place entry ∷ next ∷ more) found = IsEnd features (next ∷ more) found

pub record IsLocated (memory : Memory) (registers : Registers) (did : ℕ) (found : Result Context Cause) : Type 0 where
  pub too_wide : is_too_wide (context_format registers.features) (levels_of (mode_of registers)) did ≡ true → found ≡ Err TooWide
  pub on_path : is_too_wide (context_format registers.features) (levels_of (mode_of registers)) did ≡ false →
      IsEnd registers.features (path_from (context_format registers.features) memory did (levels_of (mode_of registers) - 1) (root_of registers)) found
