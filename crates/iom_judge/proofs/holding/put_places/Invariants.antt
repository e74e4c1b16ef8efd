use Rattle.std.proofs.Common.{List, drop, map, Some}
use Rattle.iom_core.specs.Access.{address_on}
use Rattle.iom_core.specs.declared.way.Way.{Way as Led}
use Rattle.iom_every.specs.Ways.{Goes}
use Rattle.std.specs.Prelude.{Option}
use Rattle.iom_ways.specs.Ways.{AreAdded}
use Rattle.iom_judge.proofs.holding.put_places.Given as goal

-- what is put in, and then the places of the ways that are left, is all
abbrev pub invariant-loop-way : goal.invariant-loop-way
invariant-loop-way l = (after : List (Option Goes)) → AreAdded (map (λ (way : Led). Some (address_on way l.iova)) (drop l.way-index l.led)) l.places.items after →
    AreAdded (map (λ (way : Led). Some (address_on way l.iova)) l.led) l.fn.places.items after
