use Rattle.std.proofs.Common.{◌∙◌, arith}
use Rattle.iom_tool.specs.Room.{answer_room}
use Rattle.iom_debug.proofs.Bounds.{cut_whole}
use Rattle.iom_debug.proofs.text.push_cut.Goals as goal

pub returns-then-text-room : goal.returns-then-text-room
returns-then-text-room c =
    c.push_text.ensures.text
    ∙ cut_whole c.args.out.now.items c.args.text.now answer_room (omega (arith, c.len-room.ensures.value, c.len-room.ensures.fits))
    (omega (arith, c.len-room.ensures.value, c.if-text-room.true))
