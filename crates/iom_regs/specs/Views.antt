-- The registers as the rest of the IOMMU sees them.
use Rattle.std.specs.Prelude.{ℕ, ◌-◌, ◌==◌, if◌then◌else◌}
use Rattle.iom_bits.specs.Bits.{field_of, has_bit}
use Rattle.iom_regs.specs.Table.{Registers, entries_of, is_on}
use Rattle.iom_regs.specs.declared.views.Mode.{Mode}
use Rattle.iom_regs.specs.declared.views.Mode.TheVariants as mode
use Rattle.iom_regs.specs.declared.views.Which.{Which}
use Rattle.iom_regs.specs.declared.views.Which.TheVariants as which
use Rattle.iom_regs.specs.declared.views.Queue.{Queue}
use Rattle.iom_regs.specs.declared.views.CommandErrors.{CommandErrors}
use Rattle.iom_regs.specs.declared.views.FaultErrors.{FaultErrors}

-- "Device-directory-table pointer": the mode, and the PPN of the root, as they act
abbrev pub mode_of : Registers → Mode
mode_of r =
    if field_of r.acting 0 4 == 0 then mode.Off
    else if field_of r.acting 0 4 == 1 then mode.Bare
    else mode.Levels (field_of r.acting 0 4 - 1)

abbrev pub root_of : Registers → ℕ
root_of r = field_of r.acting 10 44

abbrev pub queue_of : Registers → Which → Queue
queue_of r which.Commands = record {
  on = is_on r.cqcsr;
  base = field_of r.cqb 10 44;
  entries = entries_of r.cqb;
  head = r.cqh;
  tail = r.cqt;
}
queue_of r which.Faults = record {
  on = is_on r.fqcsr;
  base = field_of r.fqb 10 44;
  entries = entries_of r.fqb;
  head = r.fqh;
  tail = r.fqt;
}

-- "Command-queue CSR (cqcsr)": cqmf (8) and cmd_ill (10); "Fault queue CSR (fqcsr)": fqmf (8) and fqof (9)
abbrev pub command_errors_of : Registers → CommandErrors
command_errors_of r = record { memory_fault = has_bit r.cqcsr 8; illegal = has_bit r.cqcsr 10 }

abbrev pub fault_errors_of : Registers → FaultErrors
fault_errors_of r = record { memory_fault = has_bit r.fqcsr 8; overflow = has_bit r.fqcsr 9 }
