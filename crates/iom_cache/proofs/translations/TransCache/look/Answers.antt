use Rattle.std.proofs.Common.{◌≡◌, ◌∙◌, ℕ, get_or, sym, ap}
use Rattle.iom_cache.specs.Index.{tag_of, tally}
use Rattle.iom_cache.specs.Keys.{same_key}
use Rattle.iom_cache.specs.Places.{find}
use Rattle.iom_cache.proofs.Tallied.{not_tagged, same_tag}
use Rattle.iom_cache.proofs.translations.TransCache.look.Goals as goal

pub returns-then-lacks : goal.returns-then-lacks
returns-then-lacks c =
    let key = c.args.key.now in
    let places = c.self.inside.places.items in
    let tag = c.tag_of-tag in
    let count = get_or c.self.inside.index.counts tag.result 0 in
    let none : tally (tag_of key) places ≡ 0 =
    ap (λ (t : ℕ). tally t places) (sym tag.ensures.tag) ∙ sym (c.self.invariant.3.counted tag.result tag.ensures.few)
    ∙ same_tag count 0 (sym c.lacks.ensures ∙ c.if-lacks.true) in
    sym (ap (find (same_key key)) (sym c.self.view_is) ∙ not_tagged key places none)
