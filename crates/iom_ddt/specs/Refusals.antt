-- Why the directory refuses an entry or a context: RISC-V IOMMU Architecture 1.0, "Non-leaf DDT entry", "Device-context fields" and
-- "Device-context configuration checks". A table for each: the first row that applies is the reason.
use Rattle.std.specs.Prelude.{ℕ, ◌≡◌, ◌≢◌, ◌+◌, ◌-◌, ◌%◌, ◌==◌, ◌&&◌, ◌||◌, ◌++◌, Bool, not, List, [], ◌∷◌, get_or, Option, Some, None, Result, Err, if◌then◌else◌}
use Rattle.iom_bits.specs.Bits.{has_bit, field_of}
use Rattle.iom_bits.specs.declared.causes.Cause.{Cause}
use Rattle.iom_bits.specs.declared.causes.Cause.TheVariants.{DirAccess, DirInvalid, DirBad}
use Rattle.iom_bits.specs.Features.{Features, sv57_bit, sv57x4_bit}
use Rattle.iom_ddt.specs.declared.context.Context.{Context}
use Rattle.iom_ddt.specs.declared.met.Met.{Met}
use Rattle.iom_ddt.specs.declared.met.Met.TheVariants.{Entry, Leaf}
use Rattle.iom_ddt.specs.declared.refusal.DirectoryWord.{DirectoryWord}
use Rattle.iom_ddt.specs.declared.refusal.DirectoryWord.TheVariants as the
use Rattle.iom_ddt.specs.declared.refusal.Refusal.{Refusal}
use Rattle.iom_ddt.specs.declared.refusal.Refusal.TheVariants as refusal
use Rattle.iom_ddt.specs.Contexts.{is_mode, is_msi_mode}

-- a row of a table: whether it applies, and the reason that it gives
pub record Row : Type 0 where
  pub applies : Bool
  pub reason : Refusal

abbrev pub row : Bool → Refusal → Row
row test why = record { applies = test; reason = why }

-- bits high:low of a word must be 0
abbrev pub reserved : DirectoryWord → ℕ → ℕ → ℕ → Row
reserved which word high low = row (not (field_of word low (high + 1 - low) == 0)) (refusal.Reserved which high low)

-- a non-leaf entry: V 0, PPN 53:10
abbrev pub entry_rows : ℕ → List Row
entry_rows entry =
    row (not (has_bit entry 0)) refusal.Invalid
    ∷ reserved the.Entry entry 9 1
    ∷ reserved the.Entry entry 63 54
    ∷ []

-- the IOMMU has this mode of a stage: 10 only if it offers it
abbrev pub has_mode : Bool → ℕ → Bool
has_mode offered mode = is_mode mode && (offered || not (mode == 10))

-- the stages of a context, by fsc and iohgatp: their modes, and a root of the second stage on a boundary of 16 KiB
abbrev pub stage_rows : Features → ℕ → ℕ → List Row
stage_rows features fsc iohgatp =
    row (not (has_mode (has_bit features sv57_bit) (field_of fsc 60 4))) (refusal.Mode (field_of fsc 60 4))
    ∷ row (not (has_mode (has_bit features sv57x4_bit) (field_of iohgatp 60 4))) (refusal.SecondMode (field_of iohgatp 60 4))
    ∷ row (not (field_of iohgatp 60 4 == 0) && not (field_of iohgatp 0 44 % 4 == 0)) refusal.Misaligned
    ∷ []

-- the MSI page table of a context, by the words msiptp, msi_addr_mask, msi_addr_pattern and the last one, also where its mode is Off
abbrev pub msi_rows : ℕ → ℕ → ℕ → ℕ → List Row
msi_rows msiptp mask pattern last =
    reserved the.Msiptp msiptp 59 44
    ∷ row (not (is_msi_mode (field_of msiptp 60 4))) (refusal.MsiMode (field_of msiptp 60 4))
    ∷ reserved the.MsiAddrMask mask 63 52
    ∷ reserved the.MsiAddrPattern pattern 63 52
    ∷ reserved the.Last last 63 0
    ∷ []

-- The words tc, ta and fsc of a context. Bits 3:1 of tc (EN_ATS, EN_PRI, T2GPA) and 11:5 (PDTV, PRPR, GADE, SADE, DPE, SBE, SXL)
-- belong to features that no IOMMU here offers.
abbrev pub word_rows : ℕ → ℕ → ℕ → List Row
word_rows tc ta fsc =
    row (not (has_bit tc 0)) refusal.Invalid
    ∷ reserved the.Tc tc 3 1
    ∷ reserved the.Tc tc 11 5
    ∷ reserved the.Tc tc 23 12
    ∷ reserved the.Tc tc 63 32
    ∷ reserved the.Ta ta 11 1
    ∷ reserved the.Ta ta 63 32
    ∷ reserved the.Fsc fsc 59 44
    ∷ []

abbrev pub first_row : List Row → Option Refusal
first_row [] = None
first_row (one ∷ more) = if one.applies then Some one.reason else first_row more

unfoldable pub entry_refusal : ℕ → Option Refusal
entry_refusal entry = first_row (entry_rows entry)

unfoldable pub context_refusal : Features → List ℕ → Option Refusal
context_refusal features words =
    first_row (word_rows (get_or words 0 0) (get_or words 2 0) (get_or words 3 0)
    ++ msi_rows (get_or words 4 0) (get_or words 5 0) (get_or words 6 0) (get_or words 7 0)
    ++ stage_rows features (get_or words 3 0) (get_or words 1 0))

-- the reason why what is met is refused, if it is
abbrev pub why_refused : Features → Met → Option Refusal
why_refused features (Entry place None) = Some refusal.Outside
why_refused features (Entry place (Some entry)) = entry_refusal entry
why_refused features (Leaf place None) = Some refusal.Outside
why_refused features (Leaf place (Some words)) = context_refusal features words

-- "Fault/Event-Queue": the cause of each
abbrev pub cause_by : Refusal → Cause
cause_by refusal.Outside = DirAccess
cause_by refusal.Invalid = DirInvalid
cause_by (refusal.Reserved which high low) = DirBad
cause_by (refusal.Mode mode) = DirBad
cause_by (refusal.SecondMode mode) = DirBad
cause_by refusal.Misaligned = DirBad
cause_by (refusal.MsiMode mode) = DirBad

-- A reason stands exactly where the directory's own judgement is a fault, and has its cause.
abbrev pub IsReasonOf : {X : Type 0} → Option Refusal → Result X Cause → Type 0
IsReasonOf None judged = (cause : Cause) → judged ≢ Err cause
IsReasonOf (Some why) judged = judged ≡ Err (cause_by why)

abbrev pub IsReasonFor : Option Refusal → Option (Result Context Cause) → Type 0
IsReasonFor None decided = (cause : Cause) → decided ≢ Some (Err cause)
IsReasonFor (Some why) decided = decided ≡ Some (Err (cause_by why))
