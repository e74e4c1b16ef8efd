-- How a script ends.
use Rattle.std.specs.Prelude.{ℕ, ◌≡◌, ◌⊎◌, true, false, List, Option, None, Some, Result, Ok, Err}
use Rattle.iom_include.specs.declared.fault.IncludeFault.{IncludeFault}
use Rattle.iom_include.specs.declared.fault.IncludeFault.TheVariants as include
use Rattle.iom_reader.specs.Answering.{Answering, progress}
use Rattle.iom_reader.specs.Running.{IsDone}
use Rattle.iom_reader.specs.declared.fault.RunFault.{RunFault}
use Rattle.iom_reader.specs.declared.fault.RunFault.TheVariants as run
use Rattle.iom_debug.specs.Ending.{Stops}
use Rattle.iom_debug.specs.Telling.{Debugged, by_debug}
use Rattle.iom_check.specs.Checking.{Checked, IsChecked, by_check}
use Rattle.iom_check.specs.declared.rules.Tally.{Tally}
use Rattle.iom_explain.specs.Explaining.{IsExplained, Progressed, by_explain}
use Rattle.iom_traces.specs.Trials.{Tried}
use Rattle.iom_traces.specs.Whole.{IsTried, by_trial}
use Rattle.iom_scripts.specs.declared.fault.ScriptFault.{ScriptFault}
use Rattle.iom_scripts.specs.declared.fault.ScriptFault.TheVariants as script

-- what is said of a line of a script that can't be read
abbrev pub said_of_line : Option IncludeFault → ScriptFault
said_of_line None = script.Run run.Read
said_of_line (Some include.OutOfMemory) = script.OutOfMemory
said_of_line (Some include.LongLine) = script.Run run.TooLong
said_of_line (Some (include.Refused why name from number)) = script.Include (include.Refused why name from number)

-- what is said of the fault of a run, and of that of a line of its script, if there is one: a read fails for the line
abbrev pub said_of : RunFault → Option IncludeFault → ScriptFault
said_of run.Read line = said_of_line line
said_of run.Write line = script.Run run.Write
said_of run.TooLong line = script.Run run.TooLong

-- it stops before its end
pub record Stopped (how : Answering) (start : how.State) (unread held holds : Option (List ℕ)) (said : ScriptFault) : Type 0 where
  pub left : Option (List ℕ)
  pub end : how.State
  pub why : RunFault
  pub line : Option IncludeFault
  pub is : said ≡ said_of why line
  pub stops : Stops how unread left (progress held start) (progress holds end) why

-- `check`, with its counts; at the end too memory may have been refused, for what is told of settledness or for where lines stand
abbrev pub EndsCheck : Checked → Option (List ℕ) → Option (List ℕ) → Option (List ℕ) → Tally → Result (Unit {0}) ScriptFault → Type 0
EndsCheck start unread held holds tally (Ok done) = (left : Option (List ℕ)) × IsChecked start unread left held holds false tally
EndsCheck start unread held holds tally (Err said) =
    Stopped by_check start unread held holds said
    ⊎ ((said ≡ script.OutOfMemory) × (left : Option (List ℕ)) × IsChecked start unread left held holds true tally)

-- `debug`; at the end it is known where its lines stood, unless memory was refused
abbrev pub EndsDebug : Debugged → Option (List ℕ) → Option (List ℕ) → Option (List ℕ) → Result (Unit {0}) ScriptFault → Type 0
EndsDebug start unread held holds (Ok done) =
    (left : Option (List ℕ)) × (end : Debugged) × (end.desk.marks.is_lost ≡ false) × IsDone by_debug unread left (progress held start) (progress holds end)
EndsDebug start unread held holds (Err said) =
    Stopped by_debug start unread held holds said
    ⊎ ((said ≡ script.OutOfMemory) × (left : Option (List ℕ)) × (end : Debugged) × IsDone by_debug unread left (progress held start) (progress holds end))

-- `explain`; if memory was refused for what it writes, nothing is said of the output
abbrev pub EndsExplain : Progressed → Option (List ℕ) → Option (List ℕ) → Option (List ℕ) → Result (Unit {0}) ScriptFault → Type 0
EndsExplain start unread held holds (Ok done) = (left : Option (List ℕ)) × IsExplained start unread left held holds
EndsExplain start unread held holds (Err said) = Stopped by_explain start unread held holds said ⊎ (said ≡ script.OutOfMemory)

-- `judge`, with its counts; at the end too memory may have been refused
abbrev pub EndsJudge : Tried → Option (List ℕ) → Option (List ℕ) → Option (List ℕ) → Tally → Result (Unit {0}) ScriptFault → Type 0
EndsJudge start unread held holds tally (Ok done) = (left : Option (List ℕ)) × IsTried start unread left held holds false tally
EndsJudge start unread held holds tally (Err said) =
    Stopped by_trial start unread held holds said
    ⊎ ((said ≡ script.OutOfMemory) × (left : Option (List ℕ)) × IsTried start unread left held holds true tally)
