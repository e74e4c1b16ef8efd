use Rattle.iom_held.proofs.Standing.{empty_in_place}
use Rattle.iom_held.proofs.entries.set_up.Goals as goal

pub returns-in_ok-shelves-clause-in_place : goal.returns-in_ok-shelves-clause-in_place
returns-in_ok-shelves-clause-in_place c = empty_in_place c.in_ok-shelves.field-0.items c.in_ok-shelves.ensures.none
