-- The control and status registers bit by bit, from the sums that they are.
use Rattle.std.proofs.Common.{◌≡◌, ℕ, Bool, true, false, arith}
use Rattle.std.proofs.lemmas.Grind.{common_steps}
use Rattle.iom_regs.specs.Table.{Registers, cqcsr_of, fqcsr_of, is_busy, is_legal, is_slow, after_write}
use Rattle.iom_regs.specs.Controls.{IsCqcsr, IsFqcsr}

pub cqcsr_bits : (delays : Bool) (old value : ℕ) → IsCqcsr delays old value (cqcsr_of delays old value)
cqcsr_bits delays old value = record {
  cqen = grind (arith, common_steps);
  cie = grind (arith, common_steps);
  reserved_low = grind (arith, common_steps);
  cqmf = grind (arith, common_steps);
  cmd_to = grind (arith, common_steps);
  cmd_ill = grind (arith, common_steps);
  fence_w_ip = grind (arith, common_steps);
  reserved_middle = grind (arith, common_steps);
  cqon = grind (arith, common_steps);
  busy = grind (arith, common_steps);
  above = grind (arith, common_steps);
}

pub fqcsr_bits : (delays : Bool) (old value : ℕ) → IsFqcsr delays old value (fqcsr_of delays old value)
fqcsr_bits delays old value = record {
  fqen = grind (arith, common_steps);
  fie = grind (arith, common_steps);
  reserved_low = grind (arith, common_steps);
  fqmf = grind (arith, common_steps);
  fqof = grind (arith, common_steps);
  reserved_middle = grind (arith, common_steps);
  fqon = grind (arith, common_steps);
  busy = grind (arith, common_steps);
  above = grind (arith, common_steps);
}

pub cqcsr_written : (r : Registers) (off size value : ℕ) → is_legal r.features off size ≡ true → off ≡ 72 → is_busy r.cqcsr ≡ false →
    (after_write r off size value).cqcsr ≡ cqcsr_of (is_slow r) r.cqcsr value
cqcsr_written r off size value legal at idle = grind (arith, common_steps)

pub fqcsr_written : (r : Registers) (off size value : ℕ) → is_legal r.features off size ≡ true → off ≡ 76 → is_busy r.fqcsr ≡ false →
    (after_write r off size value).fqcsr ≡ fqcsr_of (is_slow r) r.fqcsr value
fqcsr_written r off size value legal at idle = grind (arith, common_steps)

pub cqcsr_ignored : (r : Registers) (off size value : ℕ) → is_legal r.features off size ≡ true → off ≡ 72 → is_busy r.cqcsr ≡ true →
    (after_write r off size value).cqcsr ≡ r.cqcsr
cqcsr_ignored r off size value legal at busy = grind (arith, common_steps)

pub fqcsr_ignored : (r : Registers) (off size value : ℕ) → is_legal r.features off size ≡ true → off ≡ 76 → is_busy r.fqcsr ≡ true →
    (after_write r off size value).fqcsr ≡ r.fqcsr
fqcsr_ignored r off size value legal at busy = grind (arith, common_steps)
