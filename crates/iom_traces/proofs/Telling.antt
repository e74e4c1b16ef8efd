-- What is told of a whole trace.
use Rattle.std.proofs.Common.{◌≡◌, ◌++◌, ℕ, Bool, List, Option, Ok, refl}
use Rattle.std.specs.Io.KnownBytes.{Appends}
use Rattle.std.proofs.KnownBytes.{Appends-trans}
use Rattle.iom_reader.specs.Answering.{Progress, IsAnswering}
use Rattle.iom_reader.specs.Running.{Ends}
use Rattle.iom_reader.proofs.Chains.{lawful as by_lines_lawful}
use Rattle.iom_check.specs.Checking.{closing}
use Rattle.iom_check.specs.Scoring.{ended}
use Rattle.iom_check.specs.declared.rules.Tally.{Tally}
use Rattle.iom_traces.specs.Trials.{Tried}
use Rattle.iom_traces.specs.Whole.{IsTried, by_trial, trying}

pub lawful : IsAnswering by_trial
lawful = by_lines_lawful trying

pub tried : (unread left : Option (List ℕ)) (old new : Progress Tried) (holds : Option (List ℕ)) (tally : Tally) →
    Ends by_trial unread left old new (Ok tt) → Appends new.written holds (closing (ended new.console.judged.score new.console.place)) →
    tally ≡ (ended new.console.judged.score new.console.place).after.tally →
    IsTried old.console unread left old.written holds new.console.judged.is_lost tally
tried unread left old new holds tally h wrote is = record {
  script = h.text;
  took = h.took;
  all = h.all;
  within = h.within;
  text = h.answered.text;
  end = new.console;
  said = h.answered.said;
  lost = refl;
  written = Appends-trans _ _ _ _ _ h.answered.written wrote;
  counts = is;
}
