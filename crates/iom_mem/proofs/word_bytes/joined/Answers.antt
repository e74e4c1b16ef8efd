use Rattle.iom_mem.proofs.Digits.{joined_by_shifts, shifted_fits}
use Rattle.iom_mem.proofs.word_bytes.joined.Goals as goal

pub returns-clause-value : goal.returns-clause-value
returns-clause-value c = joined_by_shifts c.args.first c.args.second c.args.skipped c.ranges.first.fits c.requires.some c.requires.few

pub returns-clause-low : goal.returns-clause-low
returns-clause-low c = shifted_fits c.args.first c.args.skipped c.ranges.first.fits c.requires.few
