use Rattle.std.proofs.Common.{◌+◌, ◌≤◌, length, arith}
use Rattle.iom_items.specs.Lines.{operand}
use Rattle.iom_items.proofs.Rooms.{operand_short}
use Rattle.iom_items.proofs.lines.push_operand.Goals as goal

pub push_told-requires : goal.push_told-requires
push_told-requires c =
    let short : length (operand c.args.key.now c.args.value) ≤ length c.args.key.now + 20 = operand_short c.args.key.now c.args.value (omega arith) in
    omega (arith, short, c.requires)

pub returns-clause-room : goal.returns-clause-room
returns-clause-room c =
    let short : length (operand c.args.key.now c.args.value) ≤ length c.args.key.now + 20 = operand_short c.args.key.now c.args.value (omega arith) in
    omega (arith, short, c.push_told.ensures.room)
