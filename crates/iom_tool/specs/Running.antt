-- How `run` answers the lines of a script.
use Rattle.std.specs.Prelude.{ℕ, ◌≡◌, ◌<◌, ◌++◌, List, [], ◌∷◌, length, Result, Err}
use Rattle.std.specs.Io.KnownBytes.{Appends, Keeps}
use Rattle.iom_reader.specs.Answering.{Progress, Answering}
use Rattle.iom_reader.specs.declared.fault.RunFault.{RunFault}
use Rattle.iom_tool.specs.Console.{Console}
use Rattle.iom_tool.specs.Output.{after, output_of}

-- the steps of these lines are done and kept in the trace, their answers are written, and nothing else
pub record Answered (old new : Progress Console) (lines : List (List ℕ)) : Type 0 where
  pub console : new.console ≡ after old.console lines
  pub written : Appends old.written new.written (output_of old.console lines)

-- the steps of these lines are done; the answers to all but the last stand whole, and of the answer to the last some front, with
-- bytes missing
pub record HalfAnswered (old new : Progress Console) (lines : List (List ℕ)) : Type 0 where
  pub whole : List (List ℕ)
  pub last : List ℕ
  pub split : lines ≡ whole ++ last ∷ []
  pub console : new.console ≡ after old.console lines
  pub front : List ℕ
  pub rest : List ℕ
  pub answer : front ++ rest ≡ output_of (after old.console whole) (last ∷ [])
  pub missing : 0 < length rest
  pub written : Appends old.written new.written (output_of old.console whole ++ front)

-- how `run` answers: each line as the step table says
abbrev pub by_steps : Answering
by_steps = record { State = Console; whole = Answered; half = HalfAnswered }

-- a call of a feeder after a refusal: the same refusal, nothing is written and nothing changes
pub record StaysRefused (refusal : RunFault) (result : Result (Unit {0}) RunFault) (old new : Progress Console) : Type 0 where
  pub same : result ≡ Err refusal
  pub nothing : Keeps old.written new.written
  pub console : new.console ≡ old.console
