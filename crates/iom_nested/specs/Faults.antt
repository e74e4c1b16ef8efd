-- What may fail in a translation, and the fault that it is: RISC-V IOMMU Architecture 1.0, "Fault/Event-Queue", CAUSE and
-- iotval2.
use Rattle.std.specs.Prelude.{ℕ, ◌+◌, ◌-◌, ◌%◌}
use Rattle.iom_bits.specs.declared.causes.Kind.{Kind}
use Rattle.iom_bits.specs.declared.causes.Cause.TheVariants.{Access, Page, Guest, MsiAccess, MsiInvalid, MsiBad}
use Rattle.iom_nested.specs.declared.translation.Fault.{Fault}

pub data Failure : Type 0 where
  -- an entry of either stage is outside memory
  EntryOutside : Failure
  -- the first stage refuses the IOVA
  FirstStage : Failure
  -- the second stage refuses the guest-physical address of an entry of the first
  SecondForEntry : ℕ → Failure
  -- the second stage refuses the guest-physical address of the access itself
  SecondForAccess : ℕ → Failure
  -- an entry of the MSI page table is outside memory
  FileOutside : Failure
  -- it isn't valid, or is one of custom use
  FileInvalid : Failure
  -- it is misconfigured
  FileBad : Failure

-- a guest-physical address with bits 1:0 cleared
abbrev pub without_low_bits : ℕ → ℕ
without_low_bits addr = addr - addr % 4

-- the cause, of reads or of writes, and iotval2: for a guest page fault the guest-physical address, whose bit 0 marks an
-- implicit access, that to an entry
abbrev pub fault_of : Kind → Failure → Fault
fault_of kind EntryOutside = record { cause = Access kind; iotval2 = 0 }
fault_of kind FirstStage = record { cause = Page kind; iotval2 = 0 }
fault_of kind (SecondForEntry addr) = record { cause = Guest kind; iotval2 = without_low_bits addr + 1 }
fault_of kind (SecondForAccess addr) = record { cause = Guest kind; iotval2 = without_low_bits addr }
fault_of kind FileOutside = record { cause = MsiAccess; iotval2 = 0 }
fault_of kind FileInvalid = record { cause = MsiInvalid; iotval2 = 0 }
fault_of kind FileBad = record { cause = MsiBad; iotval2 = 0 }
