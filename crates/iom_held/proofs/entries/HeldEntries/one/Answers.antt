use Rattle.std.proofs.Common.{◌≡◌, [], ◌∷◌, rules, subst, sym}
use Rattle.iom_held.specs.Shelves.{StandInPlace, entries_on}
use Rattle.iom_held.proofs.Sound.{sound_one}
use Rattle.iom_held.proofs.Standing.{one_in_place}
use Rattle.iom_held.proofs.entries.HeldEntries.one.Goals as goal

pub invariant_of-result : goal.invariant_of-result
invariant_of-result c =
    let is : c.push-2.new.self.items ≡ c.push.new.self ∷ [] = search rules in
    let only : entries_on c.push-2.new.self.items ≡ c.args.kept ∷ [] = search rules in
    sound_one c.args.kept c.is_some.result c.push-2.new.self.items c.is_some.ensures only (subst StandInPlace (sym is) (one_in_place c.push.new.self))
