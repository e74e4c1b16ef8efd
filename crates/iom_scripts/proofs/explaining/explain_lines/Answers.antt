use Rattle.std.proofs.Common.{rules, inl}
use Rattle.iom_include.specs.Reading.{remaining_of}
use Rattle.iom_explain.specs.Drives.{progressed}
use Rattle.iom_scripts.proofs.explaining.explain_lines.Goals as goal

pub returns-in-Ok-true : goal.returns-in-Ok-true
returns-in-Ok-true g c = (remaining_of g.T.Texts.known g.R.Read.remaining c.explain.new.reader.inner.now, search rules)

pub returns-in-Err : goal.returns-in-Err
returns-in-Err g c = inl (record {
  left = remaining_of g.T.Texts.known g.R.Read.remaining c.explain.new.reader.inner.now;
  end = progressed c.explain.new.explaining;
  why = c.in-Err.fault;
  line = c.take_fault.result;
  is = c.of_run.ensures;
  stops = search rules;
})
