use Rattle.std.proofs.Common.{◌≡◌, ◌++◌, ◌∷◌, [], true, sym, arith}
use Rattle.std.proofs.lemmas.Grind.{common_steps}
use Rattle.iom_cache.specs.Keys.{same_key}
use Rattle.iom_cache.specs.Places.{may_follow}
use Rattle.iom_cache.proofs.Apart.{next_is_apart}
use Rattle.iom_cache.proofs.translations.TransCache.append.Goals as goal

pub invariant_of-self : goal.invariant_of-self
invariant_of-self c =
    let places = c.self.inside.places.items in
    let may : may_follow same_key 64 places c.args.place ≡ true = grind (arith, common_steps) in
    let next = next_is_apart places c.args.place may c.self.invariant.2 in
    let appended : c.push_back-none.new.self.items ≡ places ++ c.args.place ∷ [] = grind (arith, common_steps, next.room) in (
      grind (arith, common_steps),
      grind (arith, common_steps, next.room),
      rw appended next.apart,
      rw appended (c.append.ensures places (sym c.len-at.ensures.len) c.self.invariant.3),
    )
