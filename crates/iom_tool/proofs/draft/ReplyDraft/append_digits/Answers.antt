use Rattle.std.proofs.Common.{◌++◌, take, ap, ◌∙◌, arith}
use Rattle.iom_tool.proofs.Pairs.{front_put}
use Rattle.iom_tool.proofs.draft.ReplyDraft.append_digits.Goals as goal

pub returns-clause-text : goal.returns-clause-text
returns-clause-text c =
    front_put c.self.inside.bytes c.put_hex-count.new.places c.self.inside.len _ c.put_hex-count.result (omega arith) (omega arith)
    ∙ ap (λ l. l ++ take c.put_hex-count.result c.put_hex-count.new.places) c.self.view_is
    ∙ ap (λ l. c.args.self.now ++ l) c.put_hex-count.ensures.text
