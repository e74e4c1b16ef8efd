-- The bounds of the numbers in a part. A PPN has 44 bits, so a frame's address and that of an entry in its page have 56: RISC-V IOMMU
-- Architecture 1.0, "Device-directory-table"; RISC-V Privileged Architecture 1.12, "Sv39: Page-Based 39-bit Virtual-Memory System".
-- A guest-physical address that the second stage translates has at most 59: the same, "Guest Physical Address Translation". One that the
-- MSI page table translates may be an IOVA, of 64.
use Rattle.std.specs.Prelude.{ℕ, ◌<◌, ◌≤◌, ◌^◌, IfSome}
use Rattle.iom_ddt.specs.declared.met.Met.{Met}
use Rattle.iom_ddt.specs.declared.met.Met.TheVariants as met
use Rattle.iom_regs.specs.declared.views.Mode.{Mode}
use Rattle.iom_regs.specs.declared.views.Mode.TheVariants as mode
use Rattle.iom_walk.specs.declared.listing.PathEntry.{PathEntry}
use Rattle.iom_core.specs.State.{device_id_end}
use Rattle.iom_tables.specs.declared.part.Part.{Part}
use Rattle.iom_tables.specs.declared.part.Part.TheVariants as part
use Rattle.iom_tables.specs.declared.part.Wide.{Wide}
use Rattle.iom_tables.specs.declared.part.Wide.TheVariants as wide

abbrev pub physical_end : ℕ
physical_end = 2 ^ 56

-- how many levels a directory and a page table have at most, and how many parts a walk
abbrev pub directory_levels : ℕ
directory_levels = 3

abbrev pub most_levels : ℕ
most_levels = 5

abbrev pub most_parts : ℕ
most_parts = 40

-- a directory has one to three levels
abbrev pub ModeFits : Mode → Type 0
ModeFits mode.Off = Unit {0}
ModeFits mode.Bare = Unit {0}
ModeFits (mode.Levels levels) = (1 ≤ levels) × (levels ≤ directory_levels)

-- where an item of the directory stands
abbrev pub MetFits : Met → Type 0
MetFits (met.Entry place word) = place < physical_end
MetFits (met.Leaf place words) = place < physical_end

-- where an entry of a page table stands, and its level
abbrev pub EntryFits : PathEntry → Type 0
EntryFits entry = (entry.place < physical_end) × (entry.level < most_levels)

-- a device id has 24 bits, an address 64
abbrev pub WideFits : Wide → Type 0
WideFits (wide.Directory did) = did < device_id_end
WideFits (wide.First iova) = iova < 2 ^ 64
WideFits (wide.Second guest) = guest < 2 ^ 64

abbrev pub PartFits : Part → Type 0
PartFits (part.Ddtp own root) = ModeFits own × (root < 2 ^ 44)
PartFits (part.Directory met) = MetFits met
PartFits (part.Wide what) = WideFits what
PartFits (part.First entry addr) = EntryFits entry × IfSome addr (λ addr. addr < physical_end)
PartFits (part.Second guest entry) = (guest < 2 ^ 59) × EntryFits entry
PartFits (part.File guest place word) = (guest < 2 ^ 64) × (place < physical_end)
PartFits (part.End way) = Unit {0}
