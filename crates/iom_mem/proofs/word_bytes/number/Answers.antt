use Rattle.std.proofs.Common.{◌∙◌, arith}
use Rattle.iom_mem.proofs.Digits.{eight_bytes}
use Rattle.iom_mem.proofs.word_bytes.number.Goals as goal

pub returns-in-len8-clause-value : goal.returns-in-len8-clause-value
returns-in-len8-clause-value c = c.le_u64-in-len8.ensures ∙ eight_bytes c.args.bytes.now (omega arith)
