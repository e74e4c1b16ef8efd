use Rattle.std.proofs.Common.{arith}
use Rattle.std.proofs.lemmas.Grind.{common_steps}
use Rattle.iom_image.proofs.own.OwnImage.takes.Goals as goal

pub returns-then-is_disk_size : goal.returns-then-is_disk_size
returns-then-is_disk_size c = grind (arith, common_steps)
