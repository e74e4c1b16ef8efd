-- Fault records and the four words that stand for each in the fault queue: RISC-V IOMMU Architecture 1.0, "Fault/Event-Queue
-- (FQ)", "Fault record". A word is the sum of its fields at their places; all other bits are 0.
use Rattle.std.specs.Prelude.{ℕ, ◌≡◌, ◌+◌, ◌*◌, ◌^◌, ◌<◌, ◌==◌, List, [], ◌∷◌, Option, Some, None, if◌then◌else◌}
use Rattle.iom_bits.specs.Bits.{has_bit, flag, field_of}
use Rattle.iom_queue.specs.declared.record.Record.{Record}

-- CAUSE 11:0, PID 31:12, PV 32, PRIV 33, TTYP 39:34, DID 63:40
abbrev pub summary_word : Record → ℕ
summary_word fault =
    fault.cause + 2 ^ 12 * fault.pid + 2 ^ 32 * flag fault.pv + 2 ^ 33 * flag fault.privileged + 2 ^ 34 * fault.ttyp
    + 2 ^ 40 * fault.did

-- the second word, of which the standard reserves one half and leaves the other to custom use, is 0; then iotval and iotval2
abbrev pub record_words : Record → List ℕ
record_words fault = summary_word fault ∷ 0 ∷ fault.iotval ∷ fault.iotval2 ∷ []

-- each field of the record fits its place
pub record RecordFits (fault : Record) : Type 0 where
  pub cause : fault.cause < 2 ^ 12
  pub pid : fault.pid < 2 ^ 20
  pub ttyp : fault.ttyp < 2 ^ 6
  pub did : fault.did < 2 ^ 24
  pub iotval : fault.iotval < 2 ^ 64
  pub iotval2 : fault.iotval2 < 2 ^ 64

-- the words stand for the record
pub record IsRecordEncoding (fault : Record) (words : List ℕ) : Type 0 where
  pub fits : RecordFits fault
  pub words_are : words ≡ record_words fault

-- the fields of a record, as they stand in its words
abbrev pub record_in : ℕ → ℕ → ℕ → Record
record_in first third fourth = record {
  cause = field_of first 0 12;
  pid = field_of first 12 20;
  pv = has_bit first 32;
  privileged = has_bit first 33;
  ttyp = field_of first 34 6;
  did = field_of first 40 24;
  iotval = third;
  iotval2 = fourth;
}

-- the record that four words stand for; None: the second is not 0
unfoldable pub record_of : List ℕ → Option Record
record_of [] = None
record_of (first ∷ []) = None
record_of (first ∷ second ∷ []) = None
record_of (first ∷ second ∷ third ∷ []) = None
record_of (first ∷ second ∷ third ∷ fourth ∷ []) = if second == 0 then Some (record_in first third fourth) else None
record_of (first ∷ second ∷ third ∷ fourth ∷ fifth ∷ more) = None
