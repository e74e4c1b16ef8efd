use Rattle.iom_debug.proofs.Owed.{inquired_before, named_before}
use Rattle.iom_debug.proofs.Remaining.{one_kept}
use Rattle.iom_debug.proofs.debugger.Debugger.carry_out.Goals as goal

pub returns-in-Does-clause-along : goal.returns-in-Does-clause-along
returns-in-Does-clause-along c = rw c.in-Does.is (rw c.begin_line.ensures at c.take.ensures.took.along)

pub returns-in-Named-clause-along : goal.returns-in-Named-clause-along
returns-in-Named-clause-along c = rw c.in-Named.is (rw c.begin_line.ensures at c.take-in-Named.ensures.took.along)

pub returns-in-Again-clause-along : goal.returns-in-Again-clause-along
returns-in-Again-clause-along c = rw c.in-Again.is (rw c.begin_line.ensures at c.take_again.ensures.took.along)

pub returns-in-Put-clause-along : goal.returns-in-Put-clause-along
returns-in-Put-clause-along c =
    rw c.in-Put.is (rw (c.begin_line.ensures, c.as_slice.ensures.value) at c.store_all.ensures.took.along)

pub returns-in-Does-clause-stale : goal.returns-in-Does-clause-stale
returns-in-Does-clause-stale c = rw c.in-Does.is (rw c.begin_line.ensures at (one_kept _ _ _ _ c.take.ensures.took))

pub returns-in-Named-clause-stale : goal.returns-in-Named-clause-stale
returns-in-Named-clause-stale c = rw c.in-Named.is (rw c.begin_line.ensures at (one_kept _ _ _ _ c.take-in-Named.ensures.took))

pub returns-in-Again-clause-stale : goal.returns-in-Again-clause-stale
returns-in-Again-clause-stale c = rw c.in-Again.is (rw c.begin_line.ensures at c.take_again.ensures.took.stale)

pub returns-in-Put-clause-stale : goal.returns-in-Put-clause-stale
returns-in-Put-clause-stale c =
    rw c.in-Put.is (rw (c.begin_line.ensures, c.as_slice.ensures.value) at c.store_all.ensures.took.stale)

pub returns-in-Inquires-clause-reply : goal.returns-in-Inquires-clause-reply
returns-in-Inquires-clause-reply c =
    rw c.in-Inquires.is (inquired_before _ _ c.args.self.now.reasons.now c.in-Inquires.inquiry _
    (rw c.begin_line.ensures at c.answer_to.ensures.told))

pub returns-in-Inquires-clause-named : goal.returns-in-Inquires-clause-named
returns-in-Inquires-clause-named c =
    rw c.in-Inquires.is (named_before _ _ c.args.self.now.reasons.now.last_invalidation c.args.self.now.reasons.now.settling _ _ _ (rw c.begin_line.ensures at c.answer_to.ensures.named))
