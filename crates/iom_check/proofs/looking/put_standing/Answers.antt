use Rattle.std.proofs.Common.{◌++◌, ◌∙◌, ap, append_assoc, codes}
use Rattle.iom_debug.specs.Escaping.{escaped}
use Rattle.iom_check.proofs.looking.put_standing.Goals as goal

pub returns-clause-text : goal.returns-clause-text
returns-clause-text c =
    c.put_escaped.ensures.text ∙ ap (λ l. l ++ escaped c.args.answer.now) c.put.ensures.text
    ∙ append_assoc c.args.out.now.items (codes " is stale: the tables now say ") (escaped c.args.answer.now)
