use Rattle.std.proofs.Common.{◌∙◌, ◌/◌, Some, length, take, sym, ap, refl, arith}
use Rattle.std.specs.Result.{result_ok}
use Rattle.hex.specs.Hex.{decode_pairs}
use Rattle.iom_tool.proofs.Pairs.{front_decoded, none_decoded}
use Rattle.iom_tool.proofs.data.put_bytes_of.Goals as goal

pub returns-then-not-decode-clause-none : goal.returns-then-not-decode-clause-none
returns-then-not-decode-clause-none c = λ _.
    let told = c.if-not-decode.ensures in
    none_decoded c.args.word.now (omega arith) (omega arith) c.if-word-ne0.false
    (ap (λ digits. result_ok (decode_pairs 0 digits)) (sym c.padded.ensures) ∙ told.other refl)

pub returns-clause-some : goal.returns-clause-some
returns-clause-some c = λ _.
    let told = c.if-not-decode.ensures in
    front_decoded c.args.word.now c.decode.new.bytes (omega arith) (omega arith) c.if-word-ne0.false (omega arith)
    (told.all refl ∙ ap (λ digits. result_ok (decode_pairs 0 digits)) c.padded.ensures)
    ∙ ap Some (sym (c.truncate.ensures.items ∙ ap (take (length c.args.word.now / 2)) c.from.ensures.0))
