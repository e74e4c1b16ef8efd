-- Writes that the IOMMU ignores since a register is busy: RISC-V IOMMU Architecture 1.0, "Device-directory-table pointer", "Command-queue
-- control and status" and "Fault-queue control and status": busy.
use Rattle.std.specs.Prelude.{ℕ, ◌==◌, ◌&&◌, ◌||◌, Bool, true, false, List, [], ◌∷◌}
use Rattle.iom_regs.specs.Table.{Registers, is_busy, is_ddtp_busy}
use Rattle.iom_core.specs.State.{State}
use Rattle.iom_core.specs.Table.{next}
use Rattle.iom_core.specs.declared.step.Step.{Step}
use Rattle.iom_core.specs.declared.step.Step.TheVariants as step
use Rattle.iom_core.specs.declared.step.Answer.{Answer}
use Rattle.iom_core.specs.declared.step.Answer.TheVariants as answer

-- a register at this offset takes no write while ddtp, cqcsr or fqcsr is busy, and that is busy
abbrev pub is_held : Registers → ℕ → Bool
is_held r off =
    ((off == 16 || off == 20) && is_ddtp_busy r.ddtp)
    || (((off == 24 || off == 28 || off == 72) && is_busy r.cqcsr)
    || ((off == 40 || off == 44 || off == 76) && is_busy r.fqcsr))

abbrev pub writes_held : State → Step → Bool
writes_held state (step.RegWrite off size value) = is_held state.machine.registers off
writes_held state _ = false

abbrev pub is_carried_out : Answer → Bool
is_carried_out answer.Done = true
is_carried_out _ = false

-- whether a step is such a write, and is answered all the same that it is done
abbrev pub is_ignored : State → Step → Bool
is_ignored state taken = writes_held state taken && is_carried_out (next state taken).answer

-- whether one of some steps, one after the other, is one
abbrev pub have_ignored : State → List Step → Bool
have_ignored state [] = false
have_ignored state (step ∷ steps) = is_ignored state step || have_ignored (next state step).state steps
