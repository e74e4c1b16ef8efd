use Rattle.iom_items.specs.Layouts.{field_as}
use Rattle.iom_items.proofs.Rooms.{number_small}
use Rattle.iom_items.proofs.lines.number_in.Goals as goal

pub returns-clause-small : goal.returns-clause-small
returns-clause-small c = rw c.told_number.ensures (number_small (field_as c.args.own.now) c.args.words.now)
