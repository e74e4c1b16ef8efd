-- What a script leaves that is played on the platform of an image, and the warrants of what devices used in it.
use Rattle.std.specs.Prelude.{ℕ, ◌≡◌, List, [], take, Option, Result, Ok, Err}
use Rattle.std.specs.List.{flat_map}
use Rattle.iom_core.specs.State.{State}
use Rattle.iom_core.specs.Run.{end_of}
use Rattle.iom_core.specs.Warrants.{AreWarranted}
use Rattle.iom_core.specs.declared.step.Step.{Step}
use Rattle.iom_reader.specs.declared.fault.RunFault.{RunFault}
use Rattle.iom_reader.specs.declared.fault.RunFault.TheVariants as fault
use Rattle.iom_tool.specs.Console.{Console, console}
use Rattle.iom_reader.specs.Lines.{lines_of, ended_lines}
use Rattle.iom_reader.specs.Answering.{Progress, progress}
use Rattle.iom_reader.specs.Running.{Ends}
use Rattle.iom_tool.specs.Output.{steps_of}
use Rattle.iom_tool.specs.Running.{by_steps}

-- the lines of a script whose steps are done, however its run ended
abbrev pub lines_done : (unread left : Option (List ℕ)) (old new : Progress Console) (ended : Result (Unit {0}) RunFault) →
    Ends by_steps unread left old new ended → List (List ℕ)
lines_done unread left old new (Ok done) run = lines_of run.text
lines_done unread left old new (Err fault.Read) run = ended_lines run.text
lines_done unread left old new (Err fault.Write) run = run.lines
lines_done unread left old new (Err fault.TooLong) run = ended_lines run.text

abbrev pub steps_done : (unread left : Option (List ℕ)) (old new : Progress Console) (ended : Result (Unit {0}) RunFault) →
    Ends by_steps unread left old new ended → List Step
steps_done unread left old new ended run = flat_map steps_of (lines_done unread left old new ended run)

-- The script is answered by the step table from the state that an image starts, with an empty trace; and whatever a device
-- asked in its steps, or in any front of them, is denied or has a warrant.
pub record Plays (start : State) (unread left written holds : Option (List ℕ)) (end : Console) (ended : Result (Unit {0}) RunFault) : Type 0 where
  pub run : Ends by_steps unread left (progress written (console start [])) (progress holds end) ended
  pub state : end.state ≡ end_of start (steps_done _ _ _ _ ended run)
  pub warrants : (n : ℕ) → AreWarranted start (take n (steps_done _ _ _ _ ended run))
