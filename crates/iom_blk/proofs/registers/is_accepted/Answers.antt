use Rattle.iom_blk.specs.Registers.{is_accepted}
use Rattle.std.proofs.Common.{rules}
use Rattle.iom_blk.proofs.registers.is_accepted.Goals as goal

pub returns-then-field-eq0-3 : goal.returns-then-field-eq0-3
unfolding is_accepted
returns-then-field-eq0-3 c = search rules
