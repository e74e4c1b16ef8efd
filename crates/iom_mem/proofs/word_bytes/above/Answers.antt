use Rattle.iom_mem.proofs.Digits.{above_by_shifts}
use Rattle.iom_mem.proofs.word_bytes.above.Goals as goal

pub returns : goal.returns
returns c = above_by_shifts c.args.word c.args.number c.args.kept c.requires
