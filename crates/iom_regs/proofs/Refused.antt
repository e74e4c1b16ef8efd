-- A write that isn't legal lets no message go, and clears no pending interrupt.
use Rattle.std.proofs.Common.{◌≡◌, ℕ, false, None, arith}
use Rattle.std.proofs.lemmas.Grind.{common_steps}
use Rattle.iom_regs.specs.Interrupts.{freed, pending_left}
use Rattle.iom_regs.specs.Table.{Registers, is_legal}

pub frees_nothing : (r : Registers) (off size value : ℕ) → is_legal r.features off size ≡ false → freed r off size value ≡ None
frees_nothing r off size value refused = grind (arith, common_steps, refused)

pub clears_nothing : (r : Registers) (off size value : ℕ) → is_legal r.features off size ≡ false → pending_left r off size value ≡ r.ipsr
clears_nothing r off size value refused = grind (arith, common_steps, refused)
