use Rattle.iom_image.proofs.Pushes.{five}
use Rattle.iom_image.proofs.writing.push_head.Goals as goal

pub returns : goal.returns
returns c =
    five _ _ _ _ _ _ _ _ _ _ _ c.in_ok-push_version.ensures c.in_ok-push_eight.ensures c.in_ok-push_eight-2.ensures c.in_ok-push_four.ensures
    c.in_ok-push_four-2.ensures
