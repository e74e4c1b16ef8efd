-- Which denied accesses are recorded, and how: RISC-V IOMMU Architecture 1.0, "Fault/Event-Queue (FQ)", "Fault record" and the
-- column of the CAUSE encodings on DTF.
use Rattle.std.specs.Prelude.{ℕ, Bool, true, false, not, if◌then◌else◌}
use Rattle.iom_bits.specs.Causes.{cause_number}
use Rattle.iom_bits.specs.declared.causes.Kind.{Kind}
use Rattle.iom_bits.specs.declared.causes.Kind.TheVariants.{Read, Write}
use Rattle.iom_bits.specs.declared.causes.Cause.{Cause}
use Rattle.iom_bits.specs.declared.causes.Cause.TheVariants.{Access, Page, Guest, Off, DirAccess, DirInvalid, DirBad, TooWide, MsiAccess, MsiInvalid, MsiBad}
use Rattle.iom_queue.specs.declared.record.Record.{Record}

-- TTYP of an untranslated read and of an untranslated write
abbrev pub transaction_type : Kind → ℕ
transaction_type Read = 2
transaction_type Write = 3

-- iotval2: the guest-physical address of a guest page fault, and 0 for every other cause
abbrev pub iotval2_for : Cause → ℕ → ℕ
iotval2_for (Access kind) addr = 0
iotval2_for (Page kind) addr = 0
iotval2_for (Guest kind) addr = addr
iotval2_for Off addr = 0
iotval2_for DirAccess addr = 0
iotval2_for DirInvalid addr = 0
iotval2_for DirBad addr = 0
iotval2_for TooWide addr = 0
iotval2_for MsiAccess addr = 0
iotval2_for MsiInvalid addr = 0
iotval2_for MsiBad addr = 0

-- the record of a denied access: no process id, the whole IOVA as iotval
unfoldable pub denial_record : Cause → Kind → ℕ → ℕ → ℕ → Record
denial_record cause kind did iova iotval2 = record {
  cause = cause_number cause;
  pid = 0;
  pv = false;
  privileged = false;
  ttyp = transaction_type kind;
  did = did;
  iotval = iova;
  iotval2 = iotval2_for cause iotval2;
}

-- the causes that a device context with DTF = 1 keeps from being recorded: those of the two stages of translation, and of the
-- MSI page table
abbrev pub is_silenced : Cause → Bool
is_silenced (Access kind) = true
is_silenced (Page kind) = true
is_silenced (Guest kind) = true
is_silenced Off = false
is_silenced DirAccess = false
is_silenced DirInvalid = false
is_silenced DirBad = false
is_silenced TooWide = false
is_silenced MsiAccess = true
is_silenced MsiInvalid = true
is_silenced MsiBad = true

-- whether a denial for this cause is recorded
unfoldable pub is_reported : Cause → Bool → Bool
is_reported cause dtf = if dtf then not (is_silenced cause) else true
