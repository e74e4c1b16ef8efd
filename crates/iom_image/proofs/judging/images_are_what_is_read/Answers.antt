use Rattle.iom_image.proofs.Found.{reads_images}
use Rattle.iom_image.proofs.judging.images_are_what_is_read.Goals as goal

pub returns : goal.returns
returns c = reads_images
