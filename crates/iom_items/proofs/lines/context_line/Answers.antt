use Rattle.std.proofs.Common.{rules, ◌≡◌, sym, ◌∙◌}
use Rattle.iom_items.specs.Lines.{context_text}
use Rattle.iom_items.proofs.Contexts.{context_same}
use Rattle.iom_items.proofs.lines.context_line.Goals as goal

pub returns-clause-words : goal.returns-clause-words
returns-clause-words c =
    let text : c.laid_line.result.items ≡ context_text c.args.format c.args.context.now = search rules in
    text ∙ sym (context_same c.args.format c.args.context.now (rw (← c.context.view_is) c.context.invariant))
