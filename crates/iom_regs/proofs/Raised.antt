-- A flag that is raised in a control and status register keeps what holds of the registers.
use Rattle.std.proofs.Common.{◌≡◌, ◌∙◌, ℕ, sym, arith}
use Rattle.std.proofs.lemmas.Grind.{common_steps}
use Rattle.std.specs.Int.{bit_at}
use Rattle.iom_bits.specs.Bits.{has_bit, with_bit}
use Rattle.iom_regs.specs.Sound.{IsSound, named_bits}
use Rattle.iom_regs.specs.Table.{Registers, is_busy}

-- a control and status register of `count` flags after one of them is raised
record Keeps (count old new : ℕ) : Type 0 where
  named : named_bits old count ≡ old → named_bits new count ≡ new
  busy : is_busy new ≡ is_busy old
  on : bit_at new 16 ≡ bit_at old 16
  enabled : bit_at new 0 ≡ bit_at old 0

keeps_cqmf : (control : ℕ) → Keeps 4 control (with_bit control 8)
unfolding has_bit
keeps_cqmf control = record {
  named = λ named. omega (arith, named);
  busy = grind (arith, common_steps);
  on = omega arith;
  enabled = omega arith;
}

keeps_cmd_ill : (control : ℕ) → Keeps 4 control (with_bit control 10)
unfolding has_bit
keeps_cmd_ill control = record {
  named = λ named. omega (arith, named);
  busy = grind (arith, common_steps);
  on = omega arith;
  enabled = omega arith;
}

keeps_fence : (control : ℕ) → Keeps 4 control (with_bit control 11)
unfolding has_bit
keeps_fence control = record {
  named = λ named. omega (arith, named);
  busy = grind (arith, common_steps);
  on = omega arith;
  enabled = omega arith;
}

keeps_fqmf : (control : ℕ) → Keeps 2 control (with_bit control 8)
unfolding has_bit
keeps_fqmf control = record {
  named = λ named. omega (arith, named);
  busy = grind (arith, common_steps);
  on = omega arith;
  enabled = omega arith;
}

keeps_fqof : (control : ℕ) → Keeps 2 control (with_bit control 9)
unfolding has_bit
keeps_fqof control = record {
  named = λ named. omega (arith, named);
  busy = grind (arith, common_steps);
  on = omega arith;
  enabled = omega arith;
}

commands_raised : (r : Registers) (control : ℕ) → IsSound r → Keeps 4 r.cqcsr control → bit_at control 9 ≡ bit_at r.cqcsr 9 → IsSound (record r { cqcsr = control })
commands_raised r control sound keeps second = record {
  offer = sound.offer;
  mode = sound.mode;
  ddtp = sound.ddtp;
  acting_mode = sound.acting_mode;
  acting = sound.acting;
  cqb = sound.cqb;
  fqb = sound.fqb;
  cqh_below = sound.cqh_below;
  cqt_below = sound.cqt_below;
  fqh_below = sound.fqh_below;
  fqt_below = sound.fqt_below;
  cqcsr = keeps.named sound.cqcsr;
  cqon = λ idle. keeps.on ∙ sound.cqon (sym keeps.busy ∙ idle) ∙ sym keeps.enabled;
  cmd_to = second ∙ sound.cmd_to;
  fqcsr = sound.fqcsr;
  fqon = sound.fqon;
  at_once = λ quick. record { directory = (sound.at_once quick).directory; acting = (sound.at_once quick).acting; commands = keeps.busy ∙ (sound.at_once quick).commands; faults = (sound.at_once quick).faults };
  ipsr = sound.ipsr;
  icvec = sound.icvec;
  fctl = sound.fctl;
  room = sound.room;
  table = sound.table;
}

faults_raised : (r : Registers) (control : ℕ) → IsSound r → Keeps 2 r.fqcsr control → IsSound (record r { fqcsr = control })
faults_raised r control sound keeps = record {
  offer = sound.offer;
  mode = sound.mode;
  ddtp = sound.ddtp;
  acting_mode = sound.acting_mode;
  acting = sound.acting;
  cqb = sound.cqb;
  fqb = sound.fqb;
  cqh_below = sound.cqh_below;
  cqt_below = sound.cqt_below;
  fqh_below = sound.fqh_below;
  fqt_below = sound.fqt_below;
  cqcsr = sound.cqcsr;
  cqon = sound.cqon;
  cmd_to = sound.cmd_to;
  fqcsr = keeps.named sound.fqcsr;
  fqon = λ idle. keeps.on ∙ sound.fqon (sym keeps.busy ∙ idle) ∙ sym keeps.enabled;
  at_once = λ quick. record { directory = (sound.at_once quick).directory; acting = (sound.at_once quick).acting; commands = (sound.at_once quick).commands; faults = keeps.busy ∙ (sound.at_once quick).faults };
  ipsr = sound.ipsr;
  icvec = sound.icvec;
  fctl = sound.fctl;
  room = sound.room;
  table = sound.table;
}

pub cqmf_raised : (r : Registers) → IsSound r → IsSound (record r { cqcsr = with_bit r.cqcsr 8 })
cqmf_raised r sound = commands_raised r _ sound (keeps_cqmf r.cqcsr) (omega arith)

pub cmd_ill_raised : (r : Registers) → IsSound r → IsSound (record r { cqcsr = with_bit r.cqcsr 10 })
cmd_ill_raised r sound = commands_raised r _ sound (keeps_cmd_ill r.cqcsr) (omega arith)

pub fence_raised : (r : Registers) → IsSound r → IsSound (record r { cqcsr = with_bit r.cqcsr 11 })
fence_raised r sound = commands_raised r _ sound (keeps_fence r.cqcsr) (omega arith)

pub fqmf_raised : (r : Registers) → IsSound r → IsSound (record r { fqcsr = with_bit r.fqcsr 8 })
fqmf_raised r sound = faults_raised r _ sound (keeps_fqmf r.fqcsr)

pub fqof_raised : (r : Registers) → IsSound r → IsSound (record r { fqcsr = with_bit r.fqcsr 9 })
fqof_raised r sound = faults_raised r _ sound (keeps_fqof r.fqcsr)
