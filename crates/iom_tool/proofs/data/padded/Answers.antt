use Rattle.std.proofs.Common.{◌∙◌, ◌++◌, length, drop, replicate, ap}
use Rattle.std.proofs.lemmas.List.{drop-replicate}
use Rattle.iom_tool.proofs.data.padded.Goals as goal

pub returns : goal.returns
returns c =
    let word = c.args.word.now in
    ap (λ l. l ++ drop (length word) (replicate 128 48)) c.copy_from_slice.ensures.after
    ∙ ap (λ l. word ++ l) (drop-replicate (length word) 128 48)
