use Rattle.iom_saved.proofs.Bytes.{words_are}
use Rattle.iom_saved.proofs.byte_words.words_of.Goals as goal

pub returns-clause-words : goal.returns-clause-words
returns-clause-words c =
    words_are c.args.bytes.now _ _ c.if-bytes-ne0.false (λ i. (c.type_inv.bytes i).fits) c.new-words.ensures.items c.in_ok-put_words_in.ensures
