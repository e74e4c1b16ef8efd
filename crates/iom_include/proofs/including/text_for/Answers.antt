use Rattle.std.proofs.Common.{rules}
use Rattle.iom_include.specs.Faults.{IsFault}
use Rattle.iom_include.proofs.Refusals.{handed_on, whole_fault}
use Rattle.iom_include.proofs.including.text_for.Goals as goal

pub returns-in_err-push_line-clause-fault : goal.returns-in_err-push_line-clause-fault
returns-in_err-push_line-clause-fault g c =
    let texts = c.args.source.now.texts.now in
    handed_on (IsFault (g.T.Texts.known texts) (g.T.Texts.gives texts) (g.T.Texts.lacks texts) c.args.at.name.now c.args.line.now)
    c.from_residual.result c.in_err-push_line.field-0.0 c.from_residual.ensures.1
    (whole_fault (g.T.Texts.known texts) (g.T.Texts.gives texts) (g.T.Texts.lacks texts) c.args.at.name.now c.args.line.now
    c.new.result.items c.push_line.new.out.text.items c.push_line.new.out.lines c.in_err-push_line.field-0.0 (search rules)
    c.in_err-push_line.ensures.fault c.in_err-push_line.ensures.front c.push_line.ensures.counted)
