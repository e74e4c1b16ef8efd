-- Causes of faults: RISC-V IOMMU Architecture 1.0, "Fault/Event-Queue", table of CAUSE encodings.
-- A fault of an access has one number for reads and one for writes.
use Rattle.std.specs.Prelude.{ℕ}
use Rattle.iom_bits.specs.declared.causes.Kind.TheVariants.{Read, Write}
use Rattle.iom_bits.specs.declared.causes.Cause.{Cause}
use Rattle.iom_bits.specs.declared.causes.Cause.TheVariants.{Access, Page, Guest, Off, DirAccess, DirInvalid, DirBad, TooWide, MsiAccess, MsiInvalid, MsiBad}

abbrev pub cause_number : Cause → ℕ
cause_number (Access Read) = 5
cause_number (Access Write) = 7
cause_number (Page Read) = 13
cause_number (Page Write) = 15
cause_number (Guest Read) = 21
cause_number (Guest Write) = 23
cause_number Off = 256
cause_number DirAccess = 257
cause_number DirInvalid = 258
cause_number DirBad = 259
cause_number TooWide = 260
cause_number MsiAccess = 261
cause_number MsiInvalid = 262
cause_number MsiBad = 263
