use Rattle.iom_image.specs.Reading.{chunk_at}
use Rattle.std.proofs.Common.{rules}
use Rattle.iom_image.proofs.fields.span.Goals as goal

pub returns-in_err-len-clause-read : goal.returns-in_err-len-clause-read
unfolding chunk_at
returns-in_err-len-clause-read c = search rules

pub returns-clause-read : goal.returns-clause-read
unfolding chunk_at
returns-clause-read c = search rules

pub returns-clause-above : goal.returns-clause-above
returns-clause-above c = search rules

pub returns-clause-below : goal.returns-clause-below
returns-clause-below c = search rules
