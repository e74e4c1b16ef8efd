use Rattle.iom_image.proofs.Pushes.{three}
use Rattle.iom_image.proofs.writing.push_chunk.Goals as goal

pub returns : goal.returns
returns c = three _ _ _ _ _ _ _ c.in_ok-push_eight.ensures c.in_ok-push_four.ensures c.in_ok-extend_from_slice.ensures.items
