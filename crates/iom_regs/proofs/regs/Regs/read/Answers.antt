use Rattle.std.proofs.Common.{sym, ◌∙◌, arith}
use Rattle.iom_regs.proofs.Wide.{read_wide, read_four}
use Rattle.iom_regs.proofs.regs.Regs.read.Goals as goal

pub returns-then-size-eq8 : goal.returns-then-size-eq8
returns-then-size-eq8 c = rw (← c.self.view_is) (
    read_wide c.self.inside.mapped c.args.off c.args.size c.wide-wide.result (sym c.is_legal.ensures ∙ c.if-not-is_legal.false)
    c.if-size-eq8.true c.wide-wide.ensures.low c.wide-wide.ensures.high)

pub returns-else-size-eq8 : goal.returns-else-size-eq8
returns-else-size-eq8 c = rw (← c.self.view_is) (
    read_four c.self.inside.mapped c.args.off c.args.size c.wide-wide.result c.field.result (omega arith)
    (sym c.is_legal.ensures ∙ c.if-not-is_legal.false) c.if-size-eq8.false c.wide-wide.ensures.low c.wide-wide.ensures.high
    c.field.ensures.value)
