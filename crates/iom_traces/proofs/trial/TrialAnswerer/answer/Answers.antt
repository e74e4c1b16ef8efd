use Rattle.std.proofs.Common.{List, ℕ, subst, take}
use Rattle.iom_debug.proofs.Telling.{told_at_once}
use Rattle.iom_traces.specs.Drives.{tried_by}
use Rattle.iom_traces.specs.Trials.{TrialSays, Tried}
use Rattle.iom_traces.proofs.trial.TrialAnswerer.answer.Goals as goal

pub returns-clause-next : goal.returns-clause-next
returns-clause-next g c =
    told_at_once Tried TrialSays c.args.line.now c.as_slice.result.now _ _ c.write_told.result
    (subst (λ (line : List ℕ). TrialSays (tried_by c.args.self.now) line c.as_slice.result.now (tried_by c.line.new.self)) c.first_bytes.ensures.bytes
    (rw c.as_slice.ensures.value c.line.ensures))
    c.write_told.ensures.ok c.write_told.ensures.front
