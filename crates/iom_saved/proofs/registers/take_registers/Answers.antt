use Rattle.std.proofs.Common.{◌∙◌, sym, subst}
use Rattle.iom_regs.specs.Sound.{IsSettled}
use Rattle.iom_saved.proofs.registers.take_registers.Goals as goal

pub returns-in_err-values-clause-taken : goal.returns-in_err-values-clause-taken
returns-in_err-values-clause-taken c = λ r rest are kept.
    absurd (c.in_err-values.ensures.taken r rest are kept.settled.sound.offer kept.settled.sound.room kept.vectors)

pub returns-clause-taken : goal.returns-clause-taken
returns-clause-taken c = λ r rest are kept.
    let values = c.in_ok-values.ensures.taken r rest are kept.settled.sound.offer kept.settled.sound.room kept.vectors in
    (c.in_ok-registers.ensures.registers ∙ values.0, values.1)

pub returns-in_err-registers-clause-taken : goal.returns-in_err-registers-clause-taken
returns-in_err-registers-clause-taken c = λ r rest are kept.
    let values = c.in_ok-values.ensures.taken r rest are kept.settled.sound.offer kept.settled.sound.room kept.vectors in
    let no = c.in_err-registers.ensures.settled.1 (subst IsSettled (sym values.0) kept.settled) in absurd (cc)
