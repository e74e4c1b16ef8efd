use Rattle.std.proofs.Common.{◌∙◌, length, get_or, ap}
use Rattle.std.proofs.lemmas.Option.{slice_get-get_or}
use Rattle.std.proofs.lemmas.Result.{on_ok_weaker}
use Rattle.iom_held.specs.Shelves.{slot_of}
use Rattle.iom_held.specs.declared.tags.Tag.{Tag}
use Rattle.iom_held.proofs.Standing.{grown_set, room_on}
use Rattle.iom_held.proofs.shelves.reserve.Goals as goal

pub returns-clause-grown : goal.returns-clause-grown
returns-clause-grown c =
    grown_set c.args.shelves.now c.slot_of-i.result (get_or c.args.shelves.now c.slot_of-i.result c.index-shelves-i.result) c.reserve_on.new.shelf
    (slice_get-get_or c.args.shelves.now c.slot_of-i.result c.index-shelves-i.result c.slot_of-i.ensures.inside)
    c.reserve_on.ensures.items c.reserve_on.ensures.len c.reserve_on.ensures.capacity

pub returns-clause-room : goal.returns-clause-room
returns-clause-room c =
    on_ok_weaker c.reserve_on.result
    (room_on c.args.shelves.now c.slot_of-i.result (get_or c.args.shelves.now c.slot_of-i.result c.index-shelves-i.result) c.reserve_on.new.shelf
    c.args.entry.now c.args.more
    (slice_get-get_or c.args.shelves.now c.slot_of-i.result c.index-shelves-i.result c.slot_of-i.ensures.inside)
    (c.slot_of-i.ensures.number ∙ ap (λ (tag : Tag). slot_of (length c.args.shelves.now) tag) c.tag_of.ensures))
    c.reserve_on.ensures.room
