-- The eight words of a device context: RISC-V IOMMU Architecture 1.0, "Extended-format device-context" and "Device-context fields".
-- A bit that no field names is reserved, and is 0.
use Rattle.std.specs.Prelude.{ℕ, ◌≡◌, ◌+◌, ◌*◌, ◌^◌, ◌==◌, ◌&&◌, Bool, not, List, [], ◌∷◌, get_or, Result, Ok, Err, if◌then◌else◌}
use Rattle.iom_bits.specs.Bits.{has_bit, field_of, flag}
use Rattle.iom_bits.specs.declared.causes.Cause.{Cause}
use Rattle.iom_bits.specs.declared.causes.Cause.TheVariants.{DirInvalid, DirBad}
use Rattle.iom_ddt.specs.declared.context.Context.{Context}
use Rattle.iom_ddt.specs.declared.context.MsiTable.{MsiTable}
use Rattle.iom_ddt.specs.Contexts.{is_well_formed, IsWellFormed}

-- Translation control: V 0, DTF 4, custom 31:24.
abbrev pub tc : Context → ℕ
tc c = 1 + 2 ^ 4 * flag c.dtf + 2 ^ 24 * c.custom

-- IO hypervisor guest address translation and protection: PPN 43:0, GSCID 59:44, MODE 63:60.
abbrev pub iohgatp : Context → ℕ
iohgatp c = c.gppn + 2 ^ 44 * c.gscid + 2 ^ 60 * c.gmode

-- Translation attributes: bit 0, PSCID 31:12.
abbrev pub ta : Context → ℕ
ta c = flag c.tav + 2 ^ 12 * c.pscid

-- First-stage context: PPN 43:0, MODE 63:60.
abbrev pub fsc : Context → ℕ
fsc c = c.ppn + 2 ^ 60 * c.mode

-- MSI page table pointer: PPN 43:0, MODE 63:60, 0 Off or 1 Flat. The MSI address mask and pattern have bits 51:0 each.
abbrev pub msiptp : MsiTable → ℕ
msiptp msi = msi.ppn + 2 ^ 60 * flag msi.flat

-- the last word is reserved
abbrev pub words_of : Context → List ℕ
words_of c = tc c ∷ iohgatp c ∷ ta c ∷ fsc c ∷ msiptp c.msi ∷ c.msi.mask ∷ c.msi.pattern ∷ 0 ∷ []

-- a well-formed context and its words
pub record IsEncoding (c : Context) (words : List ℕ) : Type 0 where
  pub well_formed : IsWellFormed c
  pub words_are : words ≡ words_of c

-- the MSI page table whose fields stand in its three words
abbrev pub msi_in : ℕ → ℕ → ℕ → MsiTable
msi_in pointer mask pattern = record {
  flat = has_bit pointer 60;
  ppn = field_of pointer 0 44;
  mask = field_of mask 0 52;
  pattern = field_of pattern 0 52;
}

-- the context whose fields stand in some words
abbrev pub fields_in : List ℕ → Context
fields_in words = record {
  dtf = has_bit (get_or words 0 0) 4;
  custom = field_of (get_or words 0 0) 24 8;
  gmode = field_of (get_or words 1 0) 60 4;
  gppn = field_of (get_or words 1 0) 0 44;
  gscid = field_of (get_or words 1 0) 44 16;
  tav = has_bit (get_or words 2 0) 0;
  pscid = field_of (get_or words 2 0) 12 20;
  mode = field_of (get_or words 3 0) 60 4;
  ppn = field_of (get_or words 3 0) 0 44;
  msi = msi_in (get_or words 4 0) (get_or words 5 0) (get_or words 6 0);
}

abbrev pub are_words_of : List ℕ → Context → Bool
are_words_of words c =
    get_or words 0 0 == tc c && get_or words 1 0 == iohgatp c && get_or words 2 0 == ta c && get_or words 3 0 == fsc c
    && get_or words 4 0 == msiptp c.msi && get_or words 5 0 == c.msi.mask && get_or words 6 0 == c.msi.pattern && get_or words 7 0 == 0

-- What words are to the directory: the context that they encode; those that encode none are invalid where V is 0, and
-- misconfigured otherwise.
unfoldable pub context_in : List ℕ → Result Context Cause
context_in words =
    if not (has_bit (get_or words 0 0) 0) then Err DirInvalid
    else if is_well_formed (fields_in words) && are_words_of words (fields_in words) then Ok (fields_in words)
    else Err DirBad
