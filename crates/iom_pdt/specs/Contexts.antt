-- Process contexts: RISC-V IOMMU Architecture 1.0, "Process-context" and "Process-context configuration checks". A bit that no field
-- names is reserved, and is 0.
use Rattle.std.specs.Prelude.{ℕ, ◌≡◌, ◌+◌, ◌*◌, ◌^◌, ◌<◌, not, IsTrue, List, [], ◌∷◌, get_or, Option, Some, None, Result, Ok, Err}
use Rattle.iom_bits.specs.Bits.{has_bit, field_of, flag}
use Rattle.iom_bits.specs.Features.{Features, sv57_bit}
use Rattle.iom_ddt.specs.declared.refusal.DirectoryWord.TheVariants as the
use Rattle.iom_ddt.specs.declared.refusal.Refusal.{Refusal}
use Rattle.iom_ddt.specs.declared.refusal.Refusal.TheVariants as refusal
use Rattle.iom_ddt.specs.Contexts.{is_mode}
use Rattle.iom_ddt.specs.Refusals.{Row, first_row, has_mode, reserved, row}
use Rattle.iom_pdt.specs.declared.context.ProcessFields.{ProcessFields}

-- its fields fit, and its mode is 0, 8, 9 or 10
pub record IsWellFormed (c : ProcessFields) : Type 0 where
  pub process : c.pscid < 2 ^ 20
  pub mode : IsTrue (is_mode c.mode)
  pub root : c.ppn < 2 ^ 44

-- Translation attributes: V 0, ENS 1, SUM 2, PSCID 31:12.
abbrev pub ta : ProcessFields → ℕ
ta c = 1 + 2 * flag c.ens + 2 ^ 2 * flag c.sum + 2 ^ 12 * c.pscid

-- First-stage context: PPN 43:0, MODE 63:60.
abbrev pub fsc : ProcessFields → ℕ
fsc c = c.ppn + 2 ^ 60 * c.mode

abbrev pub words_of : ProcessFields → List ℕ
words_of c = ta c ∷ fsc c ∷ []

-- a well-formed context whose mode the IOMMU has, and its words
pub record IsEncoding (features : Features) (c : ProcessFields) (words : List ℕ) : Type 0 where
  pub well_formed : IsWellFormed c
  pub offered : IsTrue (has_mode (has_bit features sv57_bit) c.mode)
  pub words_are : words ≡ words_of c

-- why the words ta and fsc are refused: the first row that applies
abbrev pub context_rows : Features → ℕ → ℕ → List Row
context_rows features ta fsc =
    row (not (has_bit ta 0)) refusal.Invalid
    ∷ reserved the.Ta ta 11 3
    ∷ reserved the.Ta ta 63 32
    ∷ reserved the.Fsc fsc 59 44
    ∷ row (not (has_mode (has_bit features sv57_bit) (field_of fsc 60 4))) (refusal.Mode (field_of fsc 60 4))
    ∷ []

-- the fields that stand in the two words
abbrev pub fields_in : ℕ → ℕ → ProcessFields
fields_in ta fsc = record {
  ens = has_bit ta 1;
  sum = has_bit ta 2;
  pscid = field_of ta 12 20;
  mode = field_of fsc 60 4;
  ppn = field_of fsc 0 44;
}

abbrev pub unless : {X : Type 0} → Option Refusal → X → Result X Refusal
unless None found = Ok found
unless (Some why) found = Err why

unfoldable pub context_in : Features → List ℕ → Result ProcessFields Refusal
context_in features words =
    unless (first_row (context_rows features (get_or words 0 0) (get_or words 1 0))) (fields_in (get_or words 0 0) (get_or words 1 0))
