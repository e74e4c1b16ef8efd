use Rattle.std.proofs.Common.{◌++◌, ◌∙◌, ap, append_assoc, codes}
use Rattle.iom_check.proofs.judging.put_unsettled.Goals as goal

pub returns-clause-text : goal.returns-clause-text
returns-clause-text c =
    c.put-2.ensures.text ∙ ap (λ l. l ++ c.args.elsewhere.now) c.put.ensures.text
    ∙ append_assoc c.args.out.now.items (codes ", unsettled: ") c.args.elsewhere.now
