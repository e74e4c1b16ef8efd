use Rattle.std.proofs.Common.{◌∙◌, sym, inl}
use Rattle.iom_held.specs.Kept.{entries_in}
use Rattle.iom_held.proofs.Standing.{found_among}
use Rattle.iom_held.proofs.shelves.reserve_on.Goals as goal

pub returns-then-is_some-clause-room : goal.returns-then-is_some-clause-room
returns-then-is_some-clause-room c =
    inl (rw (← c.deref.ensures.value) (found_among (entries_in c.deref.result.now) c.args.entry.now c.place_of.result (sym c.if-is_some.true ∙ c.is_some.ensures) c.place_of.ensures.found))
