-- The facts that hold of the registers in every state.
use Rattle.std.specs.Prelude.{ℕ, Bool, true, false, ◌≡◌, ◌+◌, ◌*◌, ◌<◌, ◌≤◌, ◌^◌, ◌==◌, ◌&&◌, ◌||◌, length}
use Rattle.std.specs.Int.{bit_at}
use Rattle.iom_bits.specs.Bits.{field_of}
use Rattle.iom_regs.specs.Offers.{icvec_of}
use Rattle.iom_bits.specs.Features.{Features, has_messages, has_wires, is_offer, vectors_of}
use Rattle.iom_regs.specs.Vectors.{are_kept, table_room}
use Rattle.iom_regs.specs.Table.{Registers, ddtp_of, queue_base_of, entries_of, is_busy, is_ddtp_busy, is_slow, with_pending}

-- a control and status register without its reserved bits: bits 1:0, `count` flags from bit 8 on, and bits 17:16
abbrev pub named_bits : ℕ → ℕ → ℕ
named_bits control count = field_of control 0 2 + 2 ^ 8 * field_of control 8 count + 2 ^ 16 * field_of control 16 2

-- fctl is 2 where interrupts go by wire, and 0 where they are messages
abbrev pub is_fctl : Features → ℕ → Bool
is_fctl features fctl = fctl == 2 && has_wires features || fctl == 0 && has_messages features

-- nothing is busy, and requests go by ddtp
pub record IsAtOnce (r : Registers) : Type 0 where
  pub directory : is_ddtp_busy r.ddtp ≡ false
  pub acting : r.acting ≡ r.ddtp
  pub commands : is_busy r.cqcsr ≡ false
  pub faults : is_busy r.fqcsr ≡ false

pub record IsSound (r : Registers) : Type 0 where
  pub offer : is_offer r.features ≡ true
  -- the reserved bits of ddtp, cqb and fqb are 0
  pub mode : field_of r.ddtp 0 4 ≤ 4
  pub ddtp : ddtp_of r.ddtp + 2 ^ 4 * bit_at r.ddtp 4 ≡ r.ddtp
  pub acting_mode : field_of r.acting 0 4 ≤ 4
  pub acting : ddtp_of r.acting ≡ r.acting
  pub cqb : queue_base_of r.cqb ≡ r.cqb
  pub fqb : queue_base_of r.fqb ≡ r.fqb
  -- the indexes of a queue are below the number of its entries
  pub cqh_below : r.cqh < entries_of r.cqb
  pub cqt_below : r.cqt < entries_of r.cqb
  pub fqh_below : r.fqh < entries_of r.fqb
  pub fqt_below : r.fqt < entries_of r.fqb
  -- cqon is cqen, fqon is fqen, unless busy; reserved bits are 0, and so is cmd_to
  pub cqcsr : named_bits r.cqcsr 4 ≡ r.cqcsr
  pub cqon : is_busy r.cqcsr ≡ false → bit_at r.cqcsr 16 ≡ bit_at r.cqcsr 0
  pub cmd_to : bit_at r.cqcsr 9 ≡ 0
  pub fqcsr : named_bits r.fqcsr 2 ≡ r.fqcsr
  pub fqon : is_busy r.fqcsr ≡ false → bit_at r.fqcsr 16 ≡ bit_at r.fqcsr 0
  -- without delays nothing is busy, and ddtp acts
  pub at_once : is_slow r ≡ false → IsAtOnce r
  pub ipsr : r.ipsr < 4
  -- icvec has only the bits that number a vector
  pub icvec : icvec_of (vectors_of r.features) r.icvec ≡ r.icvec
  -- fctl has WSI alone, as IGS allows; msi_addr has bits 55:2, and a vector that isn't there is as at reset
  pub fctl : is_fctl r.features r.fctl ≡ true
  pub room : length r.table ≡ table_room
  pub table : are_kept r.features 0 r.table ≡ true

-- sound, and an enabled interrupt is pending while one of its causes is set
pub record IsSettled (r : Registers) : Type 0 where
  pub sound : IsSound r
  pub settled : with_pending r ≡ r
