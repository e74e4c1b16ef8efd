-- What is written of a whole trace.
use Rattle.std.specs.Prelude.{ℕ, ◌≡◌, ◌++◌, Bool, List, Option}
use Rattle.std.specs.Io.KnownBytes.{Appends, Consumes, IsAtEnd}
use Rattle.iom_reader.specs.Answering.{Answering}
use Rattle.iom_reader.specs.Lines.{lines_of}
use Rattle.iom_reader.specs.Running.{IsWithinLimits}
use Rattle.iom_reader.specs.Speaking.{Speaking, Speaks, by_lines}
use Rattle.iom_check.specs.Checking.{closing}
use Rattle.iom_check.specs.Scoring.{ended}
use Rattle.iom_check.specs.declared.rules.Tally.{Tally}
use Rattle.iom_debug.specs.Telling.{at_once}
use Rattle.iom_traces.specs.Trials.{TrialSays, Tried}

-- lines are told one after the other
abbrev pub trying : Speaking
trying = at_once Tried TrialSays

abbrev pub by_trial : Answering
by_trial = by_lines trying

-- A whole trace was judged: what was written is what is told of its lines, one after the other, and how many passed and failed. `is_lost` says
-- whether memory was refused.
pub record IsTried (start : Tried) (unread left held holds : Option (List ℕ)) (is_lost : Bool) (tally : Tally) : Type 0 where
  pub script : List ℕ
  pub took : Consumes unread left script
  pub all : IsAtEnd left
  pub within : IsWithinLimits script
  pub text : List ℕ
  pub end : Tried
  pub said : Speaks trying start (lines_of script) text end
  pub lost : is_lost ≡ end.judged.is_lost
  pub written : Appends held holds (text ++ closing (ended end.judged.score end.place))
  pub counts : tally ≡ (ended end.judged.score end.place).after.tally
