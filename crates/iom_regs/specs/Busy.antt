-- A busy register settles: its last write acts. "Device-directory-table pointer", "Command-queue control and status" and "Fault-queue
-- control and status": busy.
use Rattle.std.specs.Prelude.{ℕ, ◌+◌, ◌*◌, ◌^◌, Bool}
use Rattle.std.specs.Int.{bit_at}
use Rattle.iom_bits.specs.Bits.{field_of}
use Rattle.iom_regs.specs.Table.{Registers, ddtp_of, is_busy, is_ddtp_busy}
use Rattle.iom_regs.specs.declared.busy.Busy.{Busy}
use Rattle.iom_regs.specs.declared.busy.Busy.TheVariants as busy

abbrev pub is_busy_at : Registers → Busy → Bool
is_busy_at r busy.Directory = is_ddtp_busy r.ddtp
is_busy_at r busy.Commands = is_busy r.cqcsr
is_busy_at r busy.Faults = is_busy r.fqcsr

-- on becomes what is enabled, and busy becomes 0
abbrev pub control_settled : ℕ → ℕ
control_settled control = field_of control 0 16 + 2 ^ 16 * bit_at control 0

abbrev pub settled : Busy → Registers → Registers
settled busy.Directory r = record r { ddtp = ddtp_of r.ddtp; acting = ddtp_of r.ddtp }
settled busy.Commands r = record r { cqcsr = control_settled r.cqcsr }
settled busy.Faults r = record r { fqcsr = control_settled r.fqcsr }
