use Rattle.iom_saved.proofs.byte_words.put_bytes.Goals as goal

pub returns-clause-small : goal.returns-clause-small
returns-clause-small c = λ i. (c.type_inv.bytes i).fits
