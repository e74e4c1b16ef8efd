use Rattle.std.proofs.Common.{◌*◌, length, take, ap, ◌∙◌}
use Rattle.hex.specs.Hex.{encode_lower}
use Rattle.iom_tool.proofs.Pairs.{front_encoded}
use Rattle.iom_tool.proofs.draft.put_digits.Goals as goal

pub returns : goal.returns
returns c = record {
  front =
      ap (take (2 * length c.args.bytes.now)) c.encode.ensures ∙ front_encoded _ (length c.args.bytes.now)
      ∙ ap encode_lower c.padded-all.ensures;
}
