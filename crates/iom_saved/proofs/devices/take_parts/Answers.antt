use Rattle.iom_saved.proofs.devices.take_parts.Goals as goal

pub returns-in_err-pending-clause-taken : goal.returns-in_err-pending-clause-taken
returns-in_err-pending-clause-taken c = λ d rest are is.
    let driver = c.in_ok-driver.ensures.taken d.features_sel d.driver_sel d.features d.queue_sel d.interrupts d.status _ are in
    let queue = c.in_ok-queue.ensures.taken d.size d.desc d.avail d.used_ring d.seen d.used _ driver.1 is.seen is.used in
    let flags = c.in_ok-read_only.ensures.taken d.read_only d.ready _ queue.1 in
    absurd (c.in_err-pending.ensures.taken d.pending _ flags.2)
