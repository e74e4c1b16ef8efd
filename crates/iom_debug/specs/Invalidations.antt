-- The last invalidation that steps carried out, and what is told of the invalidations behind the step that read an entry: RISC-V IOMMU Architecture 1.0,
-- "IOTINVAL", "IODIR" and "IOFENCE.C".
use Rattle.std.specs.Prelude.{ℕ, ◌++◌, ◌&&◌, Bool, true, false, not, nat_lt, List, [], codes, Option, Some, None, if◌then◌else◌}
use Rattle.iom_queue.specs.declared.command.Command.{Command}
use Rattle.iom_queue.specs.declared.command.Command.TheVariants.{Fence}
use Rattle.iom_items.specs.Reading.{command_text}
use Rattle.iom_every.specs.Drops.{drops_entry}
use Rattle.iom_every.specs.declared.entry.Entry.{Entry}
use Rattle.iom_held.specs.declared.kept.Kept.{Kept}
use Rattle.iom_debug.specs.Entries.{entry_text}
use Rattle.iom_debug.specs.declared.invalidations.Invalidation.{Invalidation}

-- IOTINVAL.VMA, IOTINVAL.GVMA and IODIR.INVAL_DDT: each command but IOFENCE.C
abbrev pub is_invalidation : Command → Bool
is_invalidation (Fence av wsi pr pw value addr) = false
is_invalidation _ = true

-- the last invalidation behind a step of the line of this number that executes this command, if it executes one: the command, or else the last one
-- before it
abbrev pub invalidation_after : ℕ → Option Command → Option Invalidation → Option Invalidation
invalidation_after number None last = last
invalidation_after number (Some command) last = if is_invalidation command then Some (record { command = command; number = number }) else last

-- It misses an entry: it was carried out in a later line than the one that read the entry, and doesn't drop it.
abbrev pub misses : Invalidation → Kept → Bool
misses last kept = nat_lt kept.number last.number && not (drops_entry last.command kept.entry)

-- the last invalidation, if there is one and it misses the entry
abbrev pub missed_by : Option Invalidation → Kept → Option Invalidation
missed_by None kept = None
missed_by (Some last) kept = if misses last kept then Some last else None

-- the line of a command that names an entry and isn't fenced yet, as it is named
abbrev pub fence_text : Option (List ℕ) → List ℕ
fence_text None = []
fence_text (Some line) = codes ", the invalidation of " ++ line ++ codes " isn't fenced yet"

-- of an invalidation that misses an entry, as `, cmd vma av=0x0 page=0x0 pscv=0x1 pscid=0x4 gv=0x0 gscid=0x0 of line 9 misses the entry: a leaf of
-- the first stage, level=0 page=0x40201 pscid=0x3 global=0x0`; its line has this name
abbrev pub missed_text : (ℕ → List ℕ) → Entry → Option Invalidation → List ℕ
missed_text named entry None = []
missed_text named entry (Some last) =
    codes ", " ++ command_text last.command ++ codes " of " ++ named last.number ++ codes " misses the entry: " ++ entry_text entry

-- of an entry by the number of the command that names it and isn't fenced yet: that command; and of one that no command names the last invalidation, if
-- that misses it
abbrev pub command_told : (ℕ → List ℕ) → Option Invalidation → Kept → Option ℕ → List ℕ
command_told named last kept (Some number) = fence_text (Some (named number))
command_told named last kept None = missed_text named kept.entry (missed_by last kept)

-- the same of the entry that alone leads a request elsewhere, if there is one
unfoldable pub invalidation_text : (ℕ → List ℕ) → Option Invalidation → Option Kept → List ℕ
invalidation_text named last None = []
invalidation_text named last (Some kept) = command_told named last kept kept.unfenced
