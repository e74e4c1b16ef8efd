use Rattle.std.proofs.Common.{arith}
use Rattle.iom_mem.proofs.Ends.{first_set}
use Rattle.iom_mem.proofs.word_bytes.write_start.Goals as goal

pub returns-clause-bytes : goal.returns-clause-bytes
returns-clause-bytes c =
    first_set c.args.words.now c.args.kept c.args.bytes.now c.above.result c.number.result c.requires.part c.requires.within
    (omega (arith, c.requires.some)) (λ i. (c.type_inv.bytes i).fits) c.number.ensures.value c.above.ensures
