use Rattle.iom_image.proofs.Upgraded.{image_rewritten}
use Rattle.iom_image.proofs.upgrading.rewrite.Goals as goal

pub returns : goal.returns
returns c =
    image_rewritten c.args.bytes.now _ _ _ _ _ _ c.in-Ok.ensures.read (rw (c.in_ok-out.ensures.items, c.as_fourth.ensures) at c.in_ok-push_head.ensures)
    c.in_ok-rest.ensures (rw c.is_flagged.ensures at c.in_ok-copy_disks.ensures) c.requires
