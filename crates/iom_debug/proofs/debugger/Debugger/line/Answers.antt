use Rattle.iom_debug.proofs.Fenced.{kept, noted}
use Rattle.iom_debug.proofs.Lines.{as_run}
use Rattle.iom_debug.proofs.Settled.{held}
use Rattle.iom_debug.proofs.debugger.Debugger.line.Goals as goal

pub returns-clause-along : goal.returns-clause-along
returns-clause-along c = rw c.read-line.ensures.line at c.carry_out-answer.ensures.along

pub returns-clause-stale : goal.returns-clause-stale
returns-clause-stale c = rw c.read-line.ensures.line at c.carry_out-answer.ensures.stale

pub returns-clause-fence : goal.returns-clause-fence
returns-clause-fence c = noted c.args.self.now.reasons.now _ _ _ _ (rw c.read-line.ensures.line at c.carry_out-answer.ensures.stale)

pub returns-clause-ignored : goal.returns-clause-ignored
returns-clause-ignored c = kept c.args.self.now.reasons.now _ _ _ _ (rw c.read-line.ensures.line at c.carry_out-answer.ensures.stale)

pub returns-clause-holds : goal.returns-clause-holds
returns-clause-holds c = held c.args.self.now.reasons.now _ _ _ _ (rw c.read-line.ensures.line at c.carry_out-answer.ensures.stale)

pub returns-clause-as_run : goal.returns-clause-as_run
returns-clause-as_run c = λ other.
    as_run _ _ _ c.args.self.now.reasons.now _ _ _ _ other (rw c.read-line.ensures.line at c.carry_out-answer.ensures.reply) (rw c.read-line.ensures.line at c.carry_out-answer.ensures.state)
    (rw c.read-line.ensures.line at c.carry_out-answer.ensures.trace)
