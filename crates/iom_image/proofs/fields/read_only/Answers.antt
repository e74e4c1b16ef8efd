use Rattle.iom_image.specs.Reading.{flags_at}
use Rattle.std.proofs.Common.{rules}
use Rattle.iom_image.proofs.fields.read_only.Goals as goal

pub returns : goal.returns
unfolding flags_at
returns c = search rules

pub returns-in_err-flags : goal.returns-in_err-flags
unfolding flags_at
returns-in_err-flags c = search rules

pub returns-then-flags-gt1 : goal.returns-then-flags-gt1
unfolding flags_at
returns-then-flags-gt1 c = search rules
