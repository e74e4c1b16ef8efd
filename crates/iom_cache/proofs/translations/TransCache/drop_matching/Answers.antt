use Rattle.std.proofs.Common.{◌≡◌, length, rules, arith}
use Rattle.std.proofs.lemmas.Grind.{common_steps}
use Rattle.std.specs.List.{refill}
use Rattle.iom_cache.specs.Drops.{drops_page}
use Rattle.iom_cache.proofs.Apart.{apart_dropped}
use Rattle.iom_cache.proofs.translations.TransCache.drop_matching.Goals as goal

pub invariant_of-self : goal.invariant_of-self
invariant_of-self c =
    let places = c.self.inside.places.items in
    let same : refill (length places) places c.empty_matching.new.places ≡ c.empty_matching.new.places = search rules in (
      c.self.invariant.0,
      grind (arith, common_steps),
      rw (same, c.empty_matching.ensures, c.make_contiguous-places.ensures.value) (apart_dropped (drops_page c.args.command.now) places c.self.invariant.2),
      rw same c.of-self-inside.ensures,
    )
