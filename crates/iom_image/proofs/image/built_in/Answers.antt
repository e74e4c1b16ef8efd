use Rattle.std.proofs.Common.{refl}
use Rattle.iom_image.specs.Image.{image_bytes}
use Rattle.iom_image.proofs.image.built_in.Goals as goal

pub returns : goal.returns
unfolding image_bytes
returns c = refl
