use Rattle.std.proofs.Common.{rules, refl, inl, inr}
use Rattle.iom_include.specs.Reading.{remaining_of}
use Rattle.iom_traces.specs.Drives.{tried_by}
use Rattle.iom_scripts.proofs.judging.judge_lines.Goals as goal

pub returns-in-Ok : goal.returns-in-Ok
returns-in-Ok g c = inr (refl, remaining_of g.T.Texts.known g.R.Read.remaining c.judge_trace.new.reader.inner.now, search rules)

pub returns-in-Ok-2 : goal.returns-in-Ok-2
returns-in-Ok-2 g c = (remaining_of g.T.Texts.known g.R.Read.remaining c.judge_trace.new.reader.inner.now, search rules)

pub returns-in-Err : goal.returns-in-Err
returns-in-Err g c = inl (record {
  left = remaining_of g.T.Texts.known g.R.Read.remaining c.judge_trace.new.reader.inner.now;
  end = tried_by c.judge_trace.new.trial;
  why = c.in-Err.fault;
  line = c.take_fault.result;
  is = c.of_run.ensures;
  stops = search rules;
})
