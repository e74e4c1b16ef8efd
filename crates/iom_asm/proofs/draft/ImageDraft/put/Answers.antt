use Rattle.std.proofs.Common.{◌≡◌, length, true, false, map, sym, ◌∙◌, refl, rules}
use Rattle.std.specs.List.{list_any}
use Rattle.iom_asm.specs.Assembly.{is_inside, meets, placed}
use Rattle.iom_asm.specs.Drafts.{draft_seen}
use Rattle.iom_image.specs.Own.{chunk_seen}
use Rattle.iom_asm.proofs.Places.{inserted, placed_there}
use Rattle.iom_asm.proofs.draft.ImageDraft.put.Goals as goal

pub returns : goal.returns
returns c =
    let draft = c.args.self.now in
    let bytes = c.args.bytes.items in
    let len : c.len-len.result ≡ length bytes = c.len-len.ensures ∙ c.args.bytes.ok.0 in
    let inside : is_inside (draft_seen draft).image draft.next_address (length bytes) ≡ true =
    rw (← len) (sym c.is_inside.ensures ∙ c.if-not-is_inside.false) in
    let none : list_any (meets draft.next_address (length bytes)) (map chunk_seen draft.image.chunks.entries) ≡ false =
    rw (← len) (sym c.is_taken.ensures ∙ c.if-is_taken.false) in
    placed_there c.args.line (draft_seen draft) bytes inside none
    ∙ rw (len, c.in_ok-insert.ensures.entries, inserted _ _ _ draft.next_address c.args.bytes draft.image.chunks.entries c.requires.good.chunks c.requires.some none) refl

pub returns-then-is_taken : goal.returns-then-is_taken
unfolding placed
returns-then-is_taken c = search rules
