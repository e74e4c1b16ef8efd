use Rattle.iom_mem.proofs.Digits.{below_by_shifts}
use Rattle.iom_mem.proofs.word_bytes.below.Goals as goal

pub returns : goal.returns
returns c = below_by_shifts c.args.word c.args.low c.args.count c.requires.few c.requires.fits
