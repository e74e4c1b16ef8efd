use Rattle.std.proofs.Common.{◌∙◌, length, get_or, ap}
use Rattle.std.proofs.lemmas.Option.{slice_get-get_or}
use Rattle.iom_held.specs.Shelves.{slot_of}
use Rattle.iom_held.specs.declared.tags.Tag.{Tag}
use Rattle.iom_held.proofs.Standing.{renewed_in_place, renewed_on, room_after}
use Rattle.iom_held.proofs.shelves.renew.Goals as goal

pub returns-clause-in_place : goal.returns-clause-in_place
returns-clause-in_place c =
    renewed_in_place c.args.shelves.now c.slot_of-i.result (get_or c.args.shelves.now c.slot_of-i.result c.index-shelves-i.result) c.renew_on.new.kept
    c.args.new.now (slice_get-get_or c.args.shelves.now c.slot_of-i.result c.index-shelves-i.result c.slot_of-i.ensures.inside)
    (c.slot_of-i.ensures.number ∙ ap (λ (tag : Tag). slot_of (length c.args.shelves.now) tag) c.tag_of.ensures) c.renew_on.ensures.renewed c.requires.in_place

pub returns-clause-renewed : goal.returns-clause-renewed
returns-clause-renewed c =
    renewed_on c.args.shelves.now c.slot_of-i.result (get_or c.args.shelves.now c.slot_of-i.result c.index-shelves-i.result) c.renew_on.new.kept
    c.args.new.now (slice_get-get_or c.args.shelves.now c.slot_of-i.result c.index-shelves-i.result c.slot_of-i.ensures.inside)
    (c.slot_of-i.ensures.number ∙ ap (λ (tag : Tag). slot_of (length c.args.shelves.now) tag) c.tag_of.ensures) c.renew_on.ensures.renewed c.requires.in_place

pub returns-clause-room : goal.returns-clause-room
returns-clause-room c =
    room_after c.args.shelves.now c.slot_of-i.result (get_or c.args.shelves.now c.slot_of-i.result c.index-shelves-i.result) c.renew_on.new.kept
    c.args.new.now (slice_get-get_or c.args.shelves.now c.slot_of-i.result c.index-shelves-i.result c.slot_of-i.ensures.inside)
    (c.slot_of-i.ensures.number ∙ ap (λ (tag : Tag). slot_of (length c.args.shelves.now) tag) c.tag_of.ensures) c.renew_on.ensures.renewed
    c.renew_on.ensures.len c.renew_on.ensures.capacity
