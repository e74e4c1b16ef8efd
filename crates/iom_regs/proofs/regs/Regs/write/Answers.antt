use Rattle.std.proofs.Common.{sym, ap, subst, ◌∙◌, ◌≡◌, true, arith, rules}
use Rattle.std.proofs.lemmas.Grind.{common_steps}
use Rattle.iom_regs.specs.Controls.{IsCqcsr, IsFqcsr}
use Rattle.iom_regs.specs.Table.{Registers, is_legal, is_slow}
use Rattle.iom_regs.proofs.Controls.{cqcsr_bits, cqcsr_ignored, cqcsr_written, fqcsr_bits, fqcsr_ignored, fqcsr_written}
use Rattle.iom_regs.proofs.Features.{features_kept}
use Rattle.iom_regs.proofs.Wholes.{one_register}
use Rattle.iom_regs.proofs.regs.Regs.write.Goals as goal

pub returns-clause-written : goal.returns-clause-written
returns-clause-written c = grind (arith, common_steps)

pub returns-clause-cqcsr : goal.returns-clause-cqcsr
returns-clause-cqcsr c = λ at idle.
    subst (IsCqcsr (is_slow c.args.self.now) c.args.self.now.cqcsr c.args.value)
    (sym (ap (λ (r : Registers). r.cqcsr) (returns-clause-written c)
    ∙ cqcsr_written c.args.self.now c.args.off c.args.size c.args.value (ap (λ (r : Registers). is_legal r.features c.args.off c.args.size) (sym c.self.view_is) ∙ sym c.is_legal.ensures ∙ c.if-not-is_legal.false) at idle))
    (cqcsr_bits (is_slow c.args.self.now) c.args.self.now.cqcsr c.args.value)

pub returns-clause-fqcsr : goal.returns-clause-fqcsr
returns-clause-fqcsr c = λ at idle.
    subst (IsFqcsr (is_slow c.args.self.now) c.args.self.now.fqcsr c.args.value)
    (sym (ap (λ (r : Registers). r.fqcsr) (returns-clause-written c)
    ∙ fqcsr_written c.args.self.now c.args.off c.args.size c.args.value (ap (λ (r : Registers). is_legal r.features c.args.off c.args.size) (sym c.self.view_is) ∙ sym c.is_legal.ensures ∙ c.if-not-is_legal.false) at idle))
    (fqcsr_bits (is_slow c.args.self.now) c.args.self.now.fqcsr c.args.value)

pub returns-clause-busy : goal.returns-clause-busy
returns-clause-busy c = λ at busy.
    ap (λ (r : Registers). r.cqcsr) (returns-clause-written c)
    ∙ cqcsr_ignored c.args.self.now c.args.off c.args.size c.args.value (ap (λ (r : Registers). is_legal r.features c.args.off c.args.size) (sym c.self.view_is) ∙ sym c.is_legal.ensures ∙ c.if-not-is_legal.false) at busy

pub returns-clause-busy_faults : goal.returns-clause-busy_faults
returns-clause-busy_faults c = λ at busy.
    ap (λ (r : Registers). r.fqcsr) (returns-clause-written c)
    ∙ fqcsr_ignored c.args.self.now c.args.off c.args.size c.args.value (ap (λ (r : Registers). is_legal r.features c.args.off c.args.size) (sym c.self.view_is) ∙ sym c.is_legal.ensures ∙ c.if-not-is_legal.false) at busy

pub invariant_of-self : goal.invariant_of-self
invariant_of-self c = search rules

pub returns-clause-features : goal.returns-clause-features
returns-clause-features c =
    ap (λ (r : Registers). r.features) (returns-clause-written c)
    ∙ features_kept c.args.self.now c.args.off c.args.size c.args.value

pub returns-clause-one_register : goal.returns-clause-one_register
returns-clause-one_register c = λ eight.
    one_register c.args.self.now.features c.args.off
    (subst (λ size. is_legal c.args.self.now.features c.args.off size ≡ true) eight
    (ap (λ (r : Registers). is_legal r.features c.args.off c.args.size) (sym c.self.view_is) ∙ sym c.is_legal.ensures ∙ c.if-not-is_legal.false))
