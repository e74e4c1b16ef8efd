use Rattle.std.proofs.Common.{◌*◌, ◌++◌, length, take, ap, ◌∙◌, arith}
use Rattle.iom_tool.proofs.Pairs.{front_put}
use Rattle.iom_tool.proofs.draft.ReplyDraft.append_hex.Goals as goal

pub returns-clause-text : goal.returns-clause-text
returns-clause-text c =
    front_put c.self.inside.bytes c.put_digits.new.places c.self.inside.len _ (2 * length c.args.bytes.now) (omega arith) (omega arith)
    ∙ ap (λ l. l ++ take (2 * length c.args.bytes.now) c.put_digits.new.places) c.self.view_is
    ∙ ap (λ l. c.args.self.now ++ l) c.put_digits.ensures.front
