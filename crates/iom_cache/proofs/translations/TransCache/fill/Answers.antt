use Rattle.std.proofs.Common.{◌≡◌, ◌++◌, ◌∷◌, ◌∙◌, [], Some, None, sym, ap, arith}
use Rattle.std.proofs.lemmas.Grind.{common_steps}
use Rattle.iom_cache.specs.Keys.{same_key}
use Rattle.iom_cache.specs.Places.{find}
use Rattle.iom_cache.proofs.Apart.{apart_filled, none_in_room}
use Rattle.iom_cache.proofs.translations.TransCache.fill.Goals as goal

pub returns : goal.returns
returns c = grind (arith, common_steps)

pub invariant_of-self : goal.invariant_of-self
invariant_of-self c =
    let places = c.make_room.new.places.items in
    let filled : c.push_back-none.new.self.items ≡ places ++ Some (c.args.key, c.args.hit) ∷ [] = grind (arith, common_steps) in
    let none : find (same_key c.args.key) places ≡ None = rw c.make_room.ensures.places (none_in_room c.args.key c.self.inside.places.items (ap (find (same_key c.args.key)) c.self.view_is ∙ c.requires.absent)) in (
      grind (arith, common_steps),
      grind (arith, common_steps),
      rw filled (apart_filled places (c.args.key, c.args.hit) c.make_room.ensures.apart none),
      rw filled (c.append.ensures places (sym c.len-at.ensures.len) c.make_room.ensures.index),
    )
