use Rattle.iom_saved.proofs.Bytes.{whole_disk}
use Rattle.iom_saved.proofs.devices.put_disk.Goals as goal

pub returns-clause-whole : goal.returns-clause-whole
returns-clause-whole c =
    whole_disk c.args.device.now.disk c.disk-disk.result.now c.disk-disk.ensures.legal c.disk-disk.ensures.bytes c.in_ok-put_bytes.ensures.small
