-- Device contexts: RISC-V IOMMU Architecture 1.0, "Device-context fields" and "Device-context configuration checks".
use Rattle.std.specs.Prelude.{ℕ, ◌≡◌, ◌≢◌, ◌<◌, ◌^◌, ◌%◌, ◌==◌, ◌&&◌, ◌||◌, Bool, not, IsTrue}
use Rattle.iom_bits.specs.Bits.{has_bit}
use Rattle.iom_bits.specs.Features.{Features, sv57_bit, sv57x4_bit}
use Rattle.iom_ddt.specs.declared.context.ContextFields.{ContextFields}
use Rattle.iom_ddt.specs.declared.context.MsiTable.{MsiTable}

-- the modes of a stage: 0 is Bare; for the first stage 8 is Sv39, 9 Sv48 and 10 Sv57, for the second 8 is Sv39x4, 9 Sv48x4 and 10
-- Sv57x4
abbrev pub is_mode : ℕ → Bool
is_mode mode = mode == 0 || mode == 8 || mode == 9 || mode == 10

-- the modes of msiptp: 0 is Off, 1 is Flat
abbrev pub is_msi_mode : ℕ → Bool
is_msi_mode mode = mode == 0 || mode == 1

-- the IOMMU has both modes: those of five levels only where it offers them
abbrev pub has_modes : Features → ContextFields → Bool
has_modes features c = (has_bit features sv57_bit || not (c.mode == 10)) && (has_bit features sv57x4_bit || not (c.gmode == 10))

-- neither stage translates, and no address is one of an MSI page table: the IOVA is the physical address
abbrev pub is_bare : ContextFields → Bool
is_bare c = c.mode == 0 && c.gmode == 0 && not c.msi.flat

-- the fields of an MSI page table fit
pub record IsMsiFitting (msi : MsiTable) : Type 0 where
  pub root : msi.ppn < 2 ^ 44
  pub mask : msi.mask < 2 ^ 52
  pub pattern : msi.pattern < 2 ^ 52

-- its fields fit, its modes are 0, 8, 9 or 10, and the second stage's root table is aligned to its 16 KiB
pub record IsWellFormed (c : ContextFields) : Type 0 where
  pub custom : c.custom < 2 ^ 8
  pub second_mode : IsTrue (is_mode c.gmode)
  pub second_root : c.gppn < 2 ^ 44
  pub second_root_aligned : c.gmode ≢ 0 → c.gppn % 4 ≡ 0
  pub guest : c.gscid < 2 ^ 16
  pub process : c.pscid < 2 ^ 20
  pub first_mode : IsTrue (is_mode c.mode)
  pub first_root : c.ppn < 2 ^ 44
  pub msi : IsMsiFitting c.msi

-- a test for `IsWellFormed`, of a context whose fields fit
abbrev pub is_well_formed : ContextFields → Bool
is_well_formed c = is_mode c.mode && is_mode c.gmode && (c.gmode == 0 || c.gppn % 4 == 0)
