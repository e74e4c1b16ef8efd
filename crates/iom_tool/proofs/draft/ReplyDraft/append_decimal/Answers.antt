use Rattle.std.proofs.Common.{◌++◌, take, ap, ◌∙◌, arith}
use Rattle.iom_tool.proofs.Pairs.{front_put}
use Rattle.std.proofs.lemmas.Grind.{common_steps}
use Rattle.iom_tool.proofs.draft.ReplyDraft.append_decimal.Goals as goal

pub returns-clause-text : goal.returns-clause-text
returns-clause-text c =
    front_put c.self.inside.bytes c.put_decimal-count.new.places c.self.inside.len _ c.put_decimal-count.result (omega arith) (omega arith)
    ∙ ap (λ l. l ++ take c.put_decimal-count.result c.put_decimal-count.new.places) c.self.view_is
    ∙ ap (λ l. c.args.self.now ++ l) c.put_decimal-count.ensures.text

pub returns-clause-room : goal.returns-clause-room
returns-clause-room c = grind (arith, common_steps)
