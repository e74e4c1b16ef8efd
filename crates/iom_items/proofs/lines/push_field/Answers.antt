use Rattle.std.proofs.Common.{◌+◌, ◌/◌, ◌≤◌, length, arith}
use Rattle.iom_items.specs.Lines.{operand}
use Rattle.iom_items.proofs.Rooms.{operand_room}
use Rattle.iom_items.proofs.lines.push_field.Goals as goal

pub push_told-requires : goal.push_told-requires
push_told-requires c =
    let own = c.args.own.now in
    let short : length (operand own.key.now c.args.number) ≤ length own.key.now + 4 + (own.zeros + own.width + 3) / 4 =
    operand_room own.key.now c.args.number (own.zeros + own.width) (omega (arith, c.requires.fits.some)) c.requires.small in
    omega (arith, short, c.requires.room)

pub returns-clause-room : goal.returns-clause-room
returns-clause-room c =
    let own = c.args.own.now in
    let short : length (operand own.key.now c.args.number) ≤ length own.key.now + 4 + (own.zeros + own.width + 3) / 4 =
    operand_room own.key.now c.args.number (own.zeros + own.width) (omega (arith, c.requires.fits.some)) c.requires.small in
    omega (arith, short, c.push_told.ensures.room)
