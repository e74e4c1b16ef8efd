-- The physical memory that an entry names: the frames of a leaf, and the table that it leads a walk to. An IOMMU that holds the entry may read or
-- write there. RISC-V Privileged Architecture 1.12, "Virtual Address Translation Process" and "Svnapot"; RISC-V IOMMU Architecture 1.0,
-- "Device-directory-table", "Device-context fields" and "Process to translate addresses of MSIs". An entry counts by its PPN also where its form is reserved or its PPN isn't aligned:
-- then it only denies, and names less.
use Rattle.std.specs.Prelude.{ℕ, zero, suc, ◌+◌, ◌-◌, ◌*◌, ◌/◌, ◌%◌, ◌^◌, ◌==◌, ◌&&◌, ◌||◌, Bool, false, not, Some, None, Ok, Err, if◌then◌else◌}
use Rattle.std.specs.List.{list_any, range_with_len}
use Rattle.iom_ddt.specs.declared.context.Context.{Context}
use Rattle.iom_ddt.specs.declared.context.MsiTable.{MsiTable}
use Rattle.iom_nested.specs.Files.{entry_frame}
use Rattle.iom_walk.specs.Outcome.{frame_in}
use Rattle.iom_walk.specs.Verdict.{is_napot, ppn}
use Rattle.iom_every.specs.Drops.{is_leaf}
use Rattle.iom_every.specs.Entries.{Entry, Held, OfDirectory, OfDevice, OfFirst, OfSecond, OfFile, OfPage}

-- a page of 4096 bytes, by its number, is a frame of a leaf: with N that of the one page of the sixteen for which the entry stands
abbrev pub is_frame : Held → ℕ → Bool
is_frame held page =
    if is_napot held.word then page == frame_in (held.part * 4096) (2 ^ 4) (ppn held.word)
    else page / 2 ^ (9 * held.level) == ppn held.word / 2 ^ (9 * held.level)

-- of a pointer it is the next table
abbrev pub is_reached : Held → ℕ → Bool
is_reached held page = if is_leaf held then is_frame held page else page == ppn held.word

-- It is of a root table of a context: the second stage's has four pages. Under a second stage the first stage's is the guest's. A context without
-- stages, whose device reaches all memory, has none.
abbrev pub is_root : Context → ℕ → Bool
is_root context page = if context.gmode == 0 then not (context.mode == 0) && page == context.ppn else page / 4 == context.gppn / 4

-- the number of ones in a mask of so many bits
abbrev pub ones : ℕ → ℕ → ℕ
ones zero mask = 0
ones (suc count) mask = mask % 2 + ones count (mask / 2)

-- It is of an MSI page table, of 16 bytes for each interrupt file; one above a page is naturally aligned.
abbrev pub is_of_table : MsiTable → ℕ → Bool
is_of_table msi page = let width : ℕ = ones 52 msi.mask - 8 in msi.flat && page / 2 ^ width == msi.ppn / 2 ^ width

-- An entry names a page of physical memory. What an entry of a first stage under a second one has is guest-physical.
abbrev pub names_page : Entry → ℕ → Bool
names_page (OfDirectory level part word) page = page == ppn word
names_page (OfDevice did (Ok context)) page = is_root context page || is_of_table context.msi page
names_page (OfDevice did (Err why)) page = false
names_page (OfFirst None pscid held) page = is_reached held page
names_page (OfFirst (Some gscid) pscid held) page = false
names_page (OfSecond gscid held) page = is_reached held page
names_page (OfFile gscid own word) page = page == entry_frame word
names_page (OfPage key hit) page = page == hit.frame

-- It names a byte of the `len` ones from `addr` on.
unfoldable pub names_memory : ℕ → ℕ → Entry → Bool
names_memory addr len entry = list_any (λ byte. names_page entry (byte / 4096)) (range_with_len addr len)
