use Rattle.std.proofs.Common.{rules, refl, inl, inr}
use Rattle.iom_include.specs.Reading.{remaining_of}
use Rattle.iom_check.specs.Drives.{checked_by}
use Rattle.iom_scripts.proofs.checking.check_lines.Goals as goal

pub returns-in-Ok : goal.returns-in-Ok
returns-in-Ok g c = inr (refl, remaining_of g.T.Texts.known g.R.Read.remaining c.check.new.reader.inner.now, search rules)

pub returns-in-Ok-2 : goal.returns-in-Ok-2
returns-in-Ok-2 g c = (remaining_of g.T.Texts.known g.R.Read.remaining c.check.new.reader.inner.now, search rules)

pub returns-in-Err : goal.returns-in-Err
returns-in-Err g c = inl (record {
  left = remaining_of g.T.Texts.known g.R.Read.remaining c.check.new.reader.inner.now;
  end = checked_by c.check.new.checking;
  why = c.in-Err.fault;
  line = c.take_fault.result;
  is = c.of_run.ensures;
  stops = search rules;
})
