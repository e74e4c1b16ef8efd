use Rattle.std.proofs.Common.{◌∙◌, ◌++◌, ap, codes}
use Rattle.std.specs.Option.{unwrap_or}
use Rattle.iom_tool.proofs.debugger.push_item.Goals as goal

pub returns-in-Some-clause-text : goal.returns-in-Some-clause-text
returns-in-Some-clause-text c =
    c.push_text.ensures.text
    ∙ ap (λ l. c.args.out.now ++ l) (c.as_slice.ensures.value ∙ ap (λ o. unwrap_or o (codes "outside")) c.in-Some.ensures)

pub returns-in-None-clause-text : goal.returns-in-None-clause-text
returns-in-None-clause-text c =
    c.push_text-in-None.ensures.text ∙ ap (λ o. c.args.out.now ++ unwrap_or o (codes "outside")) c.in-None.ensures
