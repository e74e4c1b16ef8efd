use Rattle.iom_image.proofs.Pushes.{three}
use Rattle.iom_image.proofs.writing.push_fourth.Goals as goal

pub returns : goal.returns
returns c =
    three _ _ _ _ _ _ _ c.in_ok-extend_from_slice.ensures.items (rw c.capabilities.ensures at c.in_ok-push_eight.ensures)
    c.in_ok-push_choices.ensures
