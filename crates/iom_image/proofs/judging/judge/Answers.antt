use Rattle.std.proofs.Common.{rules}
use Rattle.iom_image.specs.Reading.{image_of}
use Rattle.iom_image.proofs.judging.judge.Goals as goal

pub returns-then-is_empty : goal.returns-then-is_empty
unfolding image_of
returns-then-is_empty c = search rules
