-- What the word `debug` writes for the lines of a script.
use Rattle.std.specs.Prelude.{ℕ, ◌≡◌, ◌+◌, ◌++◌, ◌&&◌, Bool, nat_lt, List, [], ◌∷◌, length, drop, take, codes, Option, Some, None, if◌then◌else◌}
use Rattle.iom_core.specs.Run.{end_of}
use Rattle.iom_core.specs.declared.access.Request.{Request}
use Rattle.iom_reader.specs.Answering.{Answering}
use Rattle.iom_reader.specs.Speaking.{Speaking, by_lines}
use Rattle.iom_tool.specs.Console.{console, trace_after}
use Rattle.iom_debug.specs.Output.{IsReply, asks_owed, debug_steps_of}
use Rattle.iom_debug.specs.Comments.{comment_at, without_blanks}
use Rattle.iom_debug.specs.Marks.{IsMarked}
use Rattle.iom_debug.specs.Owing.{NamesOwed}
use Rattle.iom_debug.specs.Reasons.{GoesAlong, KeepsLastStale, begun}
use Rattle.iom_text.specs.Words.{words_of}
use Rattle.iom_names.specs.Names.{with_numbers}
use Rattle.iom_names.specs.Reading.{is_bad, is_let, is_line, line_with, names_after}
use Rattle.iom_names.specs.Slips.{let_slip}
use Rattle.iom_names.specs.declared.names.Binding.{Binding}
use Rattle.iom_slips.specs.Slips.{slip_of}
use Rattle.iom_debug.specs.Summary.{up_to_64_bits}
use Rattle.iom_debug.specs.Taking.{Desk}

-- this is answered to a line; empty where it has no answer
abbrev pub IsAnswer : Desk → List ℕ → List ℕ → Type 0
IsAnswer desk line answer = IsReply desk.marks (console desk.state desk.trace) desk.reasons (line_with desk.names line) answer

-- and the answer names this request as owed, if it is one to a line that asks for that
abbrev pub IsNamedBy : Desk → List ℕ → List ℕ → Option Request → Type 0
IsNamedBy desk line answer first =
    NamesOwed (asks_owed (line_with desk.names line)) desk.marks desk.reasons.last_invalidation desk.reasons.settling desk.state answer first

-- what a line of this number leaves
pub record Leaves (before : Desk) (line : List ℕ) (number : ℕ) (after : Desk) : Type 0 where
  pub state : after.state ≡ end_of before.state (debug_steps_of before.names before.state line)
  pub trace : after.trace ≡ trace_after before.trace before.state (debug_steps_of before.names before.state line)
  pub stale : KeepsLastStale (begun before.reasons) before.state (debug_steps_of before.names before.state line) number after.reasons
  pub along : GoesAlong before.reasons before.state (debug_steps_of before.names before.state line) number after.reasons after.state
  pub names : after.names ≡ names_after before.names line
  pub marks : IsMarked before.marks number line after.marks

-- a desk, how many lines were read, and whether it is told why a line is bad
pub record Debugged : Type 0 where
  pub desk : Desk
  pub number : ℕ
  pub tells_slips : Bool

abbrev pub numbered : List Binding → List ℕ → List ℕ
numbered names line = if is_line line then with_numbers names (words_of line) else line

-- why a line is bad where there are these names: as a `let`, or as the line with the numbers in place of the names
unfoldable pub slip_with : List Binding → List ℕ → List ℕ
slip_with names line =
    if is_bad (line_with names line)
    then (if is_line line && is_let (words_of line) then let_slip names (drop 1 (words_of line)) else slip_of (numbered names line))
    else []

-- the same, where that is told; of any other line nothing
abbrev pub slip_told : Bool → List Binding → List ℕ → List ℕ
slip_told tells names line = if tells then slip_with names line else []

-- the same behind an answer
abbrev pub slip_text : List ℕ → List ℕ
slip_text slip = if nat_lt 0 (length slip) then codes ": " ++ slip else []

abbrev pub with_slip : List ℕ → List ℕ → List ℕ
with_slip answer slip = answer ++ slip_text slip

-- an answer with its line end; nothing where there is none
abbrev pub line_told : List ℕ → List ℕ
line_told answer = if nat_lt 0 (length answer) then answer ++ 10 ∷ [] else []

-- what is told of a line is written at once: where a write fails, some front of it is written
abbrev pub at_once : (S : Type 0) → (S → List ℕ → List ℕ → S → Type 0) → Speaking
at_once S says = record {
  State = S;
  says = says;
  breaks = λ before line front after. (text : List ℕ) × (rest : List ℕ) × (front ++ rest ≡ text) × says before line text after;
}

-- `debug` answers each line
pub record DebugSays (before : Debugged) (line said : List ℕ) (after : Debugged) : Type 0 where
  pub number : after.number ≡ up_to_64_bits (before.number + 1)
  pub left : Leaves before.desk line after.number after.desk
  pub same : after.tells_slips ≡ before.tells_slips
  pub answer : List ℕ
  pub answered : IsAnswer before.desk line answer
  pub text : said ≡ line_told (with_slip answer (slip_told before.tells_slips before.desk.names line))

abbrev pub by_debug : Answering
by_debug = by_lines (at_once Debugged DebugSays)

abbrev pub before_mark : Option ℕ → List ℕ → List ℕ
before_mark None line = line
before_mark (Some at) line = take at line

-- what stands before a line's comment, without the blanks around it
abbrev pub before_comment : List ℕ → List ℕ
before_comment line = without_blanks (before_mark (comment_at line) line)
