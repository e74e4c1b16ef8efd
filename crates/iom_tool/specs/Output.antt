-- Lines and the output to them.
use Rattle.std.specs.Prelude.{ℕ, ◌++◌, List, [], ◌∷◌, codes, Option, Some, None}
use Rattle.std.specs.List.{flat_map}
use Rattle.iom_core.specs.Table.{next}
use Rattle.iom_core.specs.declared.step.Step.{Step}
use Rattle.iom_reader.specs.Lines.{lines_of}
use Rattle.iom_tool.specs.Console.{Console, console_after}
use Rattle.iom_tool.specs.Script.{Line, Blank, Bad, Does, Asks, line_of}
use Rattle.iom_tool.specs.Debugger.{answer_in}
use Rattle.iom_tool.specs.Texts.{text_of}

-- what is answered to a line; None: nothing
abbrev pub reply : Console → Line → Option (List ℕ)
reply now Blank = None
reply now Bad = Some (codes "bad")
reply now (Does step) = Some (text_of (next now.state step).answer)
reply now (Asks question) = Some (answer_in now question)

-- the steps that a line is, one or none
abbrev pub steps_in : Line → List Step
steps_in Blank = []
steps_in Bad = []
steps_in (Does step) = step ∷ []
steps_in (Asks question) = []

abbrev pub steps_of : List ℕ → List Step
steps_of text = steps_in (line_of text)

-- what the steps of some lines leave
abbrev pub after : Console → List (List ℕ) → Console
after now lines = console_after now (flat_map steps_of lines)

-- an answer with its line end
abbrev pub printed : Option (List ℕ) → List ℕ
printed None = []
printed (Some text) = text ++ 10 ∷ []

-- what is written for one line
abbrev pub output_to : Console → List ℕ → List ℕ
output_to now text = printed (reply now (line_of text))

-- what is written for some lines, each answered after the steps of those before
abbrev pub output_of : Console → List (List ℕ) → List ℕ
output_of now [] = []
output_of now (text ∷ lines) = output_to now text ++ output_of (console_after now (steps_of text)) lines

-- what is written for a whole script
abbrev pub output : Console → List ℕ → List ℕ
output now text = output_of now (lines_of text)
