use Rattle.std.proofs.Common.{◌≡◌, length, sym, ◌∙◌}
use Rattle.iom_asm.proofs.Places.{none_meets, last_meets}
use Rattle.iom_asm.proofs.draft.ImageDraft.is_taken.Goals as goal

pub returns-in-Some : goal.returns-in-Some
returns-in-Some c =
    let len : c.len.result ≡ length c.in-Some.bytes.now.items = c.len.ensures ∙ c.in-Some.bytes.now.ok.0 in
    let last = last_meets c.args.self.now.next_address c.args.len _ _ _ _ c.args.self.now.image.chunks.entries c.requires.good.chunks (sym (c.range.ensures.between tt) ∙ c.in-Some.ensures.steps) in
    rw len (sym last)

pub returns-in-None : goal.returns-in-None
returns-in-None c =
    sym (none_meets c.args.self.now.next_address c.args.len c.args.self.now.image.chunks.entries (sym (c.range.ensures.between tt) ∙ c.in-None.ensures.steps.0))
