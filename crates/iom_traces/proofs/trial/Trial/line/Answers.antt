use Rattle.std.proofs.Common.{◌∙◌}
use Rattle.iom_check.proofs.Reading.{same_names}
use Rattle.iom_traces.proofs.trial.Trial.line.Goals as goal

pub returns : goal.returns
returns c =
    let slip = c.as_slice.ensures.value ∙ c.slip_of-slip.ensures c.args.self.now.names c.read-read.ensures.line (λ bad. c.read-read.ensures.names ∙ same_names _ _ (rw c.read-read.ensures.line at bad)) in
    record {
      number = c.saturating_add-self.ensures;
      placed = c.place-self.ensures;
      names = c.read-read.ensures.names;
      marks = c.note.ensures;
      hides = c.judge_line.ensures.hides;
      judged = rw (slip, c.read-read.ensures.line) at c.judge_line.ensures.judged;
    }
