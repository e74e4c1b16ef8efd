use Rattle.iom_image.proofs.Pushes.{five}
use Rattle.iom_image.proofs.writing.push_disk.Goals as goal

pub returns : goal.returns
returns c =
    five _ _ _ _ _ _ _ _ _ _ _ c.in_ok-push_four.ensures c.in_ok-push_four-2.ensures c.in_ok-push_flags.ensures c.in_ok-push_four-3.ensures
    c.in_ok-extend_from_slice.ensures.items
