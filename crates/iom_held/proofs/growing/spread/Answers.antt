use Rattle.std.proofs.Common.{◌∙◌, ap}
use Rattle.iom_held.specs.Shelves.{entries_on}
use Rattle.iom_held.proofs.Standing.{empty_in_place}
use Rattle.iom_held.proofs.growing.spread.Goals as goal

pub put_shelves-requires-clause-in_place : goal.put_shelves-requires-clause-in_place
put_shelves-requires-clause-in_place c = empty_in_place c.deref_mut.result.now (ap entries_on c.deref_mut.ensures.value ∙ c.in_ok-more.ensures.none)
