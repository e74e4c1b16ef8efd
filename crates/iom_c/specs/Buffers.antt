-- Texts in the caller's buffers.
use Rattle.std.specs.Prelude.{ℕ, ◌+◌, ◌++◌, List, [], ◌∷◌, length, drop, take}
use Rattle.std.specs.Option.{unwrap_or}
use Rattle.iom_core.specs.State.{State}
use Rattle.iom_tool.specs.Console.{console}
use Rattle.iom_tool.specs.declared.trace.TracedStep.{TracedStep}
use Rattle.iom_tool.specs.Output.{reply}
use Rattle.iom_tool.specs.Script.{line_of}

-- a buffer that begins with these bytes, and has those that stood behind their places
abbrev pub begun_by : List ℕ → List ℕ → List ℕ
begun_by bytes old = bytes ++ drop (length bytes) old

-- a buffer that begins with this text and a 0 behind it
abbrev pub told_in : List ℕ → List ℕ → List ℕ
told_in text old = text ++ 0 ∷ drop (length text + 1) old

-- as much of a text as has room with a 0 behind it; nothing where there is no room
abbrev pub cut_in : List ℕ → List ℕ → List ℕ
cut_in text [] = []
cut_in text (c ∷ old) = told_in (take (length old) text) (c ∷ old)

-- the answer to a line; none: empty
abbrev pub reply_to : State → List TracedStep → List ℕ → List ℕ
reply_to platform trace line = unwrap_or (reply (console platform trace) (line_of line)) []
