-- The register table: RISC-V IOMMU Architecture 1.0, "Memory-mapped register interface". Sections named below are of it.
-- A register that is not named here reads 0 and ignores writes.
use Rattle.std.specs.Prelude.{ℕ, ◌≡◌, ◌+◌, ◌*◌, ◌/◌, ◌%◌, ◌^◌, ◌==◌, ◌&&◌, ◌||◌, ◌-◌, Bool, not, List, slice_set, Option, Some, None, nat_le, nat_lt, if◌then◌else◌}
use Rattle.std.specs.Int.{bit_at}
use Rattle.iom_bits.specs.Bits.{field_of, flag, has_bit}
use Rattle.iom_bits.specs.Features.{Features, delays_bit, has_messages, has_wires, vectors_of}
use Rattle.iom_regs.specs.Offers.{capabilities_of, icvec_of}
use Rattle.iom_regs.specs.Vectors.{blank_table, is_vector, msi_addr_of, vector_at}
use Rattle.iom_regs.specs.declared.vectors.MsiVector.{MsiVector}

-- the features that the IOMMU was made with, and a number for each register that can change, as a read shows it
pub record Registers : Type 0 where
  pub features : Features
  pub ddtp : ℕ
  -- what ddtp was when it last settled: requests go by it
  pub acting : ℕ
  pub cqb : ℕ
  pub cqh : ℕ
  pub cqt : ℕ
  pub fqb : ℕ
  pub fqh : ℕ
  pub fqt : ℕ
  pub cqcsr : ℕ
  pub fqcsr : ℕ
  pub ipsr : ℕ
  pub icvec : ℕ
  pub fctl : ℕ
  -- the vectors of interrupts by message, each as its registers show it, and whether it owes a message
  pub table : List MsiVector

pub data Name : Type 0 where
  Capabilities : Name
  Fctl : Name
  Ddtp : Name
  Cqb : Name
  Cqh : Name
  Cqt : Name
  Fqb : Name
  Fqh : Name
  Fqt : Name
  Cqcsr : Name
  Fqcsr : Name
  Ipsr : Name
  Icvec : Name
  MsiAddr : (vector : ℕ) → Name
  MsiData : (vector : ℕ) → Name
  MsiControl : (vector : ℕ) → Name

-- four aligned bytes are a register, a half of one, or nothing
pub data Slot : Type 0 where
  Whole : Name → Slot
  Low : Name → Slot
  High : Name → Slot
  Free : Slot

-- "MSI configuration table", where interrupts may be messages: sixteen bytes for each vector, msi_addr, msi_data and msi_vec_ctl
unfoldable pub table_slot : Features → ℕ → Slot
table_slot features off =
    if not (has_messages features) || nat_lt off 768 || nat_le 1024 off then Free
    else if off % 16 == 0 then Low (MsiAddr ((off - 768) / 16))
    else if off % 16 == 4 then High (MsiAddr ((off - 768) / 16))
    else if off % 16 == 8 then Whole (MsiData ((off - 768) / 16))
    else Whole (MsiControl ((off - 768) / 16))

-- a register with a name of its own, or else another place
abbrev pub named_or : Slot → ℕ → Slot
named_or other off =
    if off == 0 then Low Capabilities
    else if off == 4 then High Capabilities
    else if off == 8 then Whole Fctl
    else if off == 16 then Low Ddtp
    else if off == 20 then High Ddtp
    else if off == 24 then Low Cqb
    else if off == 28 then High Cqb
    else if off == 32 then Whole Cqh
    else if off == 36 then Whole Cqt
    else if off == 40 then Low Fqb
    else if off == 44 then High Fqb
    else if off == 48 then Whole Fqh
    else if off == 52 then Whole Fqt
    else if off == 72 then Whole Cqcsr
    else if off == 76 then Whole Fqcsr
    else if off == 84 then Whole Ipsr
    else if off == 760 then Low Icvec
    else if off == 764 then High Icvec
    else other

abbrev pub slot_at : Features → ℕ → Slot
slot_at features off = named_or (table_slot features off) off

-- the value of a register as a read gives it
abbrev pub read_value : Registers → Name → ℕ
read_value r Capabilities = capabilities_of r.features
read_value r Fctl = r.fctl
read_value r Ddtp = r.ddtp
read_value r Cqb = r.cqb
read_value r Cqh = r.cqh
read_value r Cqt = r.cqt
read_value r Fqb = r.fqb
read_value r Fqh = r.fqh
read_value r Fqt = r.fqt
read_value r Cqcsr = r.cqcsr
read_value r Fqcsr = r.fqcsr
read_value r Ipsr = r.ipsr
read_value r Icvec = r.icvec
read_value r (MsiAddr x) = (vector_at r.table x).addr
read_value r (MsiData x) = (vector_at r.table x).value
read_value r (MsiControl x) = flag (vector_at r.table x).masked

-- "Device-directory-table pointer": the mode, bits 3:0 (0 Off, 1 Bare, 2 to 4 for one to three levels), and the PPN, bits 53:10
abbrev pub ddtp_of : ℕ → ℕ
ddtp_of value = field_of value 0 4 + 2 ^ 10 * field_of value 10 44

-- a mode that ddtp takes
abbrev pub is_mode : ℕ → Bool
is_mode value = nat_le (field_of value 0 4) 4

-- "Command-queue base" and "Fault-queue base": LOG2SZ-1, bits 4:0, and the PPN, bits 53:10
abbrev pub queue_base_of : ℕ → ℕ
queue_base_of value = field_of value 0 5 + 2 ^ 10 * field_of value 10 44

-- how many entries a queue of this base has: 2 to the power of LOG2SZ
abbrev pub entries_of : ℕ → ℕ
entries_of base = 2 ^ (field_of base 0 5 + 1)

-- a queue is on if bit 16 of its control and status register is set
abbrev pub is_on : ℕ → Bool
is_on control = bit_at control 16 == 1

-- a written number turns a queue on: bit 0 of it is set, and the queue was off
abbrev pub turns_on : ℕ → ℕ → Bool
turns_on control value = bit_at value 0 == 1 && bit_at control 0 == 0

-- a flag that a written 1 clears
abbrev pub flag_after : ℕ → ℕ → ℕ → ℕ
flag_after old value bit = if bit_at value bit == 1 then 0 else 2 ^ bit * bit_at old bit

-- busy: a write isn't carried out yet. It is bit 4 of ddtp, bit 17 of cqcsr and fqcsr
abbrev pub is_ddtp_busy : ℕ → Bool
is_ddtp_busy ddtp = has_bit ddtp 4

abbrev pub is_busy : ℕ → Bool
is_busy control = has_bit control 17

-- bits 16 and 17 after a write of a control and status register: at once it is on if it is enabled; with delays it stays on or off,
-- and is busy
abbrev pub on_after : Bool → ℕ → ℕ → ℕ
on_after delays old value = if delays then 2 ^ 16 * bit_at old 16 + 2 ^ 17 else 2 ^ 16 * bit_at value 0

-- "Command-queue control and status": cqen 0 and cie 1 are written; cqmf 8, cmd_to 9, cmd_ill 10 and fence_w_ip 11 are
-- cleared by 1, and by the rise of cqen; cqon 16 and busy 17
abbrev pub cqcsr_of : Bool → ℕ → ℕ → ℕ
cqcsr_of delays old value =
    (if turns_on old value then field_of value 0 2
    else field_of value 0 2 + (flag_after old value 8 + flag_after old value 9 + flag_after old value 10 + flag_after old value 11))
    + on_after delays old value

-- "Fault-queue control and status": fqen 0 and fie 1 are written; fqmf 8 and fqof 9 are cleared by 1, and by the rise of fqen;
-- fqon 16 and busy 17
abbrev pub fqcsr_of : Bool → ℕ → ℕ → ℕ
fqcsr_of delays old value =
    (if turns_on old value then field_of value 0 2
    else field_of value 0 2 + (flag_after old value 8 + flag_after old value 9))
    + on_after delays old value

-- the IOMMU takes its time: a write of ddtp, cqcsr or fqcsr acts when it settles
abbrev pub is_slow : Registers → Bool
is_slow r = has_bit r.features delays_bit

-- ddtp after a write that may act at once: a mode above 4 isn't taken
abbrev pub ddtp_after : ℕ → ℕ → ℕ
ddtp_after old value = if is_mode value then ddtp_of value else old

-- a write of ddtp, or of its low half. With delays it is ignored while ddtp is busy, which the standard leaves open, and else makes it
-- busy
abbrev pub with_ddtp : ℕ → Registers → Registers
with_ddtp value r =
    if is_slow r then if is_ddtp_busy r.ddtp then r else record r { ddtp = ddtp_after r.ddtp value + 2 ^ 4 }
    else if is_mode value then record r { ddtp = ddtp_of value; acting = ddtp_of value }
    else r

-- a write of its high half: with delays nothing acts before the low half is written
abbrev pub with_ddtp_high : ℕ → Registers → Registers
with_ddtp_high value r =
    if is_slow r then if is_ddtp_busy r.ddtp then r else record r { ddtp = ddtp_after r.ddtp value }
    else with_ddtp value r

-- "Features-control register": WSI, bit 1, can be written if IGS is 2, while ddtp's mode is Off and neither it nor a queue is busy, on or
-- enabled. The standard leaves open what another write does
abbrev pub is_off : ℕ → Bool
is_off control = not (has_bit control 0) && not (is_on control) && not (is_busy control)

abbrev pub is_quiet : Registers → Bool
is_quiet r = field_of r.ddtp 0 5 == 0 && is_off r.cqcsr && is_off r.fqcsr

abbrev pub takes_wsi : Registers → Bool
takes_wsi r = has_wires r.features && has_messages r.features && is_quiet r

-- a write of a vector that isn't there is ignored
abbrev pub with_vector : ℕ → MsiVector → Registers → Registers
with_vector x vector r = if is_vector r.features x then record r { table = slice_set r.table x vector } else r

-- "MSI vector control register (msi_vec_ctl)": M, bit 0, masks. A message that is owed is no longer where it is cleared
abbrev pub controlled : ℕ → MsiVector → MsiVector
controlled value vector = record vector { masked = has_bit value 0; owed = vector.owed && has_bit value 0 }

-- the registers after a write of a whole register: "IOMMU capabilities", "Features-control register",
-- "Device-directory-table pointer", "Command-queue base", "Command-queue head", "Command-queue tail", "Fault-queue base",
-- "Fault-queue head", "Fault-queue tail", "Command-queue control and status", "Fault-queue control and status",
-- "Interrupt pending status", "Interrupt-cause-to-vector register" and "MSI configuration table", in this order
abbrev pub with_write : Name → ℕ → Registers → Registers
with_write Capabilities value r = r
with_write Fctl value r = if takes_wsi r then record r { fctl = if has_bit value 1 then 2 else 0 } else r
with_write Ddtp value r = with_ddtp value r
with_write Cqb value r =
    if is_on r.cqcsr || is_busy r.cqcsr then r
    else record r { cqb = queue_base_of value; cqh = r.cqh % entries_of value; cqt = r.cqt % entries_of value }
with_write Cqh value r = r
with_write Cqt value r = record r { cqt = value % entries_of r.cqb }
with_write Fqb value r =
    if is_on r.fqcsr || is_busy r.fqcsr then r
    else record r { fqb = queue_base_of value; fqh = r.fqh % entries_of value; fqt = r.fqt % entries_of value }
with_write Fqh value r = record r { fqh = value % entries_of r.fqb }
with_write Fqt value r = r
with_write Cqcsr value r =
    if is_busy r.cqcsr then r
    else record r { cqcsr = cqcsr_of (is_slow r) r.cqcsr value; cqh = if turns_on r.cqcsr value then 0 else r.cqh }
with_write Fqcsr value r =
    if is_busy r.fqcsr then r
    else record r { fqcsr = fqcsr_of (is_slow r) r.fqcsr value; fqt = if turns_on r.fqcsr value then 0 else r.fqt }
with_write Ipsr value r = record r { ipsr = flag_after r.ipsr value 0 + flag_after r.ipsr value 1 }
with_write Icvec value r = record r { icvec = icvec_of (vectors_of r.features) value }
with_write (MsiAddr x) value r = with_vector x (record (vector_at r.table x) { addr = msi_addr_of value }) r
with_write (MsiData x) value r = with_vector x (record (vector_at r.table x) { value = value }) r
with_write (MsiControl x) value r = with_vector x (controlled value (vector_at r.table x)) r

-- the high half of a register is written as the whole, but for ddtp
abbrev pub with_high : Name → ℕ → Registers → Registers
with_high Ddtp value r = with_ddtp_high value r
with_high name value r = with_write name value r

-- "Interrupt pending status": cip, bit 0, is set if cie is and one of cqmf, cmd_to, cmd_ill and fence_w_ip is; fip, bit 1, if
-- fie is and fqmf or fqof is. Only a write clears them
abbrev pub asks_command : ℕ → Bool
asks_command control = bit_at control 1 == 1 && not (field_of control 8 4 == 0)

abbrev pub asks_fault : ℕ → Bool
asks_fault control = bit_at control 1 == 1 && not (field_of control 8 2 == 0)

abbrev pub pending_after : ℕ → ℕ → Bool → ℕ
pending_after ipsr bit asked = if asked then 2 ^ bit else 2 ^ bit * bit_at ipsr bit

abbrev pub with_pending : Registers → Registers
with_pending r = record r {
  ipsr =
      pending_after r.ipsr 0 (asks_command r.cqcsr) + pending_after r.ipsr 1 (asks_fault r.fqcsr);
}

-- eight bytes from here on have a register of four among them: also in the table of vectors, where interrupts may be messages
abbrev pub has_four : Features → ℕ → Bool
has_four features off =
    off == 8 || off == 32 || off == 48 || off == 72 || off == 80
    || (has_messages features && nat_le 768 off && nat_lt off 1024 && off % 16 == 8)

-- an access: four or eight bytes at a multiple of their number, within the 4096 bytes of registers; eight bytes are refused if a
-- register of four is among them
abbrev pub is_legal : Features → ℕ → ℕ → Bool
is_legal features off size =
    (size == 4 || size == 8) && off % size == 0 && nat_le (off + size) 4096 && not (size == 8 && has_four features off)

-- eight aligned bytes are one register, or nothing
abbrev pub IsOneRegister : Slot → Slot → Type 0
IsOneRegister (Low name) (High other) = name ≡ other
IsOneRegister Free Free = Unit
IsOneRegister first second = ⊥

abbrev pub shown_at : Registers → Slot → ℕ
shown_at r (Whole name) = read_value r name
shown_at r (Low name) = read_value r name % 2 ^ 32
shown_at r (High name) = read_value r name / 2 ^ 32
shown_at r Free = 0

abbrev pub shown_wide : Registers → ℕ → ℕ
shown_wide r off = shown_at r (slot_at r.features off) + 2 ^ 32 * shown_at r (slot_at r.features (off + 4))

-- None: the access is not legal
abbrev pub read : Registers → ℕ → ℕ → Option ℕ
read r off size =
    if is_legal r.features off size then Some (if size == 4 then shown_at r (slot_at r.features off) else shown_wide r off) else None

-- a write of four bytes: half of a register is written as the whole, with the other half as it reads
abbrev pub written_at : Slot → ℕ → Registers → Registers
written_at (Whole name) value r = with_write name value r
written_at (Low name) value r = with_write name (value + 2 ^ 32 * (read_value r name / 2 ^ 32)) r
written_at (High name) value r = with_high name (read_value r name % 2 ^ 32 + 2 ^ 32 * value) r
written_at Free value r = r

-- a write of eight bytes
abbrev pub written_wide : Slot → ℕ → Registers → Registers
written_wide (Whole name) value r = r
written_wide (Low name) value r = with_write name value r
written_wide (High name) value r = r
written_wide Free value r = r

-- a write, and then the rule of pending interrupts
abbrev pub with_access : Registers → ℕ → ℕ → ℕ → Registers
with_access r off size value = if size == 4 then written_at (slot_at r.features off) value r else written_wide (slot_at r.features off) value r

abbrev pub after_write : Registers → ℕ → ℕ → ℕ → Registers
after_write r off size value = with_pending (with_access r off size value)

abbrev pub reset : Features → Registers
reset features = record {
  features = features;
  ddtp = 0;
  acting = 0;
  cqb = 0;
  cqh = 0;
  cqt = 0;
  fqb = 0;
  fqh = 0;
  fqt = 0;
  cqcsr = 0;
  fqcsr = 0;
  ipsr = 0;
  icvec = 0;
  fctl = if has_wires features then 2 else 0;
  table = blank_table;
}
