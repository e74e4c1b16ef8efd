use Rattle.std.proofs.Common.{refl, arith}
use Rattle.hex.specs.Hex.{encode_with}
use Rattle.iom_tool.proofs.Pairs.{byte_written, all_written}
use Rattle.iom_tool.proofs.draft.encode.Goals as goal

pub loop-i-preserved : goal.loop-i-preserved
loop-i-preserved c =
    byte_written c.args.bytes.now c.loop-i.digits c.loop-i.i c.glyph.result c.glyph-in-loop-i.result (omega arith) (omega arith)
    c.glyph.ensures c.glyph-in-loop-i.ensures c.loop-i.invariant

pub returns : goal.returns
returns c = all_written c.args.bytes.now c.loop-i.digits c.loop-i.i (omega arith) (omega arith) c.loop-i.invariant

pub loop-i-init : goal.loop-i-init
unfolding encode_with
loop-i-init c = refl
