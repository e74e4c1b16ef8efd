-- Which interrupt lines are high, and which vectors owe a message: RISC-V IOMMU Architecture 1.0, "Features-control register",
-- "Interrupt pending status", "Interrupt-cause-to-vector register" and "MSI configuration table".
use Rattle.std.specs.Prelude.{ℕ, ◌+◌, ◌-◌, ◌/◌, ◌%◌, ◌==◌, ◌&&◌, ◌||◌, Bool, true, not, Option, Some, None, slice_get, nat_le, nat_lt, if◌then◌else◌}
use Rattle.iom_bits.specs.Bits.{has_bit, field_of}
use Rattle.iom_bits.specs.Features.{Features, has_messages}
use Rattle.iom_regs.specs.Table.{Registers, flag_after, with_vector}
use Rattle.iom_regs.specs.Vectors.{is_vector, vector_at}
use Rattle.iom_regs.specs.declared.vectors.MsiVector.{MsiVector}
use Rattle.iom_regs.specs.declared.views.Which.{Which}
use Rattle.iom_regs.specs.declared.views.Which.TheVariants as which

-- the command queue's interrupt is pending (cip, bit 0), and its vector (civ, bits 3:0) is this one
abbrev pub is_asked_by_commands : Registers → ℕ → Bool
is_asked_by_commands r vector = has_bit r.ipsr 0 && field_of r.icvec 0 4 == vector

-- the fault queue's interrupt is pending (fip, bit 1), and its vector (fiv, bits 7:4) is this one
abbrev pub is_asked_by_faults : Registers → ℕ → Bool
is_asked_by_faults r vector = has_bit r.ipsr 1 && field_of r.icvec 4 4 == vector

-- interrupts go by wire where WSI, bit 1 of fctl, is set; else they are messages
abbrev pub is_wired : Registers → Bool
is_wired r = has_bit r.fctl 1

-- the line of a vector is high while one of them asks for it
abbrev pub is_high : Registers → ℕ → Bool
is_high r vector = is_wired r && (is_asked_by_commands r vector || is_asked_by_faults r vector)

-- the vector of a queue's interrupt: civ, bits 3:0 of icvec, and fiv, bits 7:4
abbrev pub vector_of : Registers → Which → ℕ
vector_of r which.Commands = field_of r.icvec 0 4
vector_of r which.Faults = field_of r.icvec 4 4

-- the vector of a number; None: there is none
abbrev pub vector_in : Registers → ℕ → Option MsiVector
vector_in r x = if is_vector r.features x then slice_get r.table x else None

-- "MSI vector control register (msi_vec_ctl)": a write that clears M lets the message go that the vector owes, if it owes one
abbrev pub is_control_at : Features → ℕ → Bool
is_control_at features off = has_messages features && nat_le 768 off && nat_lt off 1024 && off % 16 == 12

abbrev pub freed : Registers → ℕ → ℕ → ℕ → Option ℕ
freed r off size value =
    if size == 4 && is_control_at r.features off && not (has_bit value 0) && (vector_at r.table ((off - 768) / 16)).owed
    then Some ((off - 768) / 16)
    else None

-- what a write leaves of the pending interrupts, before the rule of pending interrupts: only one of ipsr clears some
abbrev pub pending_left : Registers → ℕ → ℕ → ℕ → ℕ
pending_left r off size value =
    if size == 4 && off == 84 then flag_after r.ipsr value 0 + flag_after r.ipsr value 1 else r.ipsr

-- a masked vector owes the message of an interrupt
abbrev pub owing : ℕ → Registers → Registers
owing x r = with_vector x (record (vector_at r.table x) { owed = true }) r
