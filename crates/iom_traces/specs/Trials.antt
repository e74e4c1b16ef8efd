-- What is told of the lines of a trace.
use Rattle.std.specs.Prelude.{ℕ, ◌≡◌, ◌+◌, ◌||◌, Bool, true, false, not, List, [], ◌∷◌, codes, replicate, Option, Some, None}
use Rattle.iom_check.specs.Judging.{title}
use Rattle.iom_check.specs.Scoring.{Score, Told, failed, noted, passed, quiet, with_wish}
use Rattle.iom_check.specs.Wanted.{wanted}
use Rattle.iom_core.specs.declared.step.Step.{Step}
use Rattle.iom_debug.specs.Marks.{IsMarked, MarksView, place_of}
use Rattle.iom_debug.specs.Places.{PlaceView}
use Rattle.iom_debug.specs.Summary.{up_to_64_bits}
use Rattle.iom_debug.specs.Telling.{slip_with}
use Rattle.iom_judge.specs.Candidates.{CandidateView}
use Rattle.iom_judge.specs.declared.judge.Verdict.{Verdict}
use Rattle.iom_judge.specs.declared.judge.Verdict.TheVariants.{Allowed, Refused, Undecided}
use Rattle.iom_judge.specs.declared.possible.Possible.{Possible}
use Rattle.iom_names.specs.Reading.{line_with, names_after}
use Rattle.iom_names.specs.declared.names.Binding.{Binding}
use Rattle.iom_tool.specs.Script.{Again, Asks, Bad, Blank, DebugLine, Does, Inquires, Named, Plain, Stores}
use Rattle.iom_traces.specs.Rulings.{AreRuled, IsAnswered, is_decided}
use Rattle.iom_traces.specs.Sights.{IsSight}
use Rattle.iom_traces.specs.Texts.{bad_message, refused_message, unclear_message, undecided_message}
use Rattle.iom_traces.specs.declared.sights.Sight.{Sight}
use Rattle.iom_traces.specs.declared.sights.Sight.TheVariants.{Nothing, Saw, Unclear}

-- what the IOMMU may be, the score, whether a step wasn't decided, so that no more is judged, and whether memory was refused
pub record Judged : Type 0 where
  pub candidates : List CandidateView
  pub score : Score
  pub is_over : Bool
  pub is_lost : Bool

-- a step's line: it passes or fails where something was seen, and fails where it isn't decided
abbrev pub sight_told : Score → PlaceView → List ℕ → Option (List ℕ) → Sight → Verdict → List Possible → Told
sight_told s place line wish sight Undecided allowed = failed s place (title line) (undecided_message line)
sight_told s place line None sight Allowed allowed = quiet s
sight_told s place line None sight Refused allowed = quiet s
sight_told s place line (Some wish) Unclear Allowed allowed = failed s place (title line) (unclear_message line wish)
sight_told s place line (Some wish) Unclear Refused allowed = failed s place (title line) (unclear_message line wish)
sight_told s place line (Some wish) Nothing Allowed allowed = passed s place (title line)
sight_told s place line (Some wish) (Saw seen) Allowed allowed = passed s place (title line)
sight_told s place line (Some wish) Nothing Refused allowed = failed s place (title line) (refused_message line wish allowed)
sight_told s place line (Some wish) (Saw seen) Refused allowed = failed s place (title line) (refused_message line wish allowed)

-- what was seen of a line that isn't one step would go unnoticed
abbrev pub stray_told : Score → PlaceView → Option (List ℕ) → Told
stray_told s place None = quiet s
stray_told s place (Some wish) = noted s place (codes "what was seen is on a line that isn't one step")

abbrev pub steps_told : Score → PlaceView → List ℕ → Bool → Told
steps_told s place line true = stray_told s place (wanted line)
steps_told s place line false = failed s place (title line) (undecided_message line)

-- this is said, and the score behind it is this
pub record Says (told : Told) (said : List ℕ) (after : Judged) : Type 0 where
  pub text : said ≡ told.said
  pub score : after.score ≡ told.after

-- A line that is one step. `hides`: commands may be carried out before it that nobody saw.
pub record StepSays (hides : Bool) (place : PlaceView) (before : Judged) (taken : Step) (line said : List ℕ) (after : Judged) : Type 0 where
  pub sight : Sight
  pub is : IsSight (wanted line) sight
  pub verdict : Verdict
  pub allowed : List Possible
  pub ruled : IsAnswered hides before.candidates taken sight verdict allowed after.candidates
  pub over : after.is_over ≡ not (is_decided verdict)
  pub says : Says (sight_told before.score place line (wanted line) sight verdict allowed) said after

-- one that is several
pub record StepsSay (hides : Bool) (place : PlaceView) (before : Judged) (steps : List Step) (line said : List ℕ) (after : Judged) : Type 0 where
  pub decided : Bool
  pub ruled : AreRuled hides before.candidates steps decided after.candidates
  pub over : after.is_over ≡ not decided
  pub says : Says (steps_told before.score place line decided) said after

-- one that is none
pub record PlainSays (told : Told) (before : Judged) (said : List ℕ) (after : Judged) : Type 0 where
  pub candidates : after.candidates ≡ before.candidates
  pub over : after.is_over ≡ false
  pub says : Says told said after

-- A line at its place, which says this; the slip is why it can't be read, if it can't.
abbrev pub LineSays : Bool → PlaceView → List ℕ → Judged → DebugLine → List ℕ → List ℕ → Judged → Type 0
LineSays hides place slip before (Plain Bad) line said after =
    PlainSays (failed before.score place (title line) (bad_message line slip)) before said after
LineSays hides place slip before (Plain Blank) line said after = PlainSays (stray_told before.score place (wanted line)) before said after
LineSays hides place slip before (Plain (Asks question)) line said after = PlainSays (stray_told before.score place (wanted line)) before said after
LineSays hides place slip before (Inquires inquiry) line said after = PlainSays (stray_told before.score place (wanted line)) before said after
LineSays hides place slip before (Plain (Does taken)) line said after = StepSays hides place before taken line said after
LineSays hides place slip before (Named taken) line said after = StepSays hides place before taken line said after
LineSays hides place slip before (Again taken most) line said after = StepsSay hides place before (replicate most taken) line said after
LineSays hides place slip before (Stores steps) line said after = StepsSay hides place before steps line said after

-- behind a step that wasn't decided nothing is said, and nothing changes; where memory is refused nothing is known
abbrev pub IfJudged : Bool → Bool → PlaceView → List ℕ → Judged → DebugLine → List ℕ → List ℕ → Judged → Type 0
IfJudged true hides place slip before kind line said after = (said ≡ []) × (after ≡ before)
IfJudged false hides place slip before kind line said after =
    after.is_lost ≡ false → LineSays hides place slip (record before { score = with_wish before.score line }) kind line said after

-- A trace up to a line: what is judged, whether commands may be hidden, the names of numbers, where lines stand, how many were read, and where the
-- last one stands.
pub record Tried : Type 0 where
  pub judged : Judged
  pub hides : Bool
  pub names : List Binding
  pub marks : MarksView
  pub number : ℕ
  pub place : PlaceView

-- a line of a trace
pub record TrialSays (before : Tried) (line said : List ℕ) (after : Tried) : Type 0 where
  pub number : after.number ≡ up_to_64_bits (before.number + 1)
  pub placed : after.place ≡ place_of before.marks after.number
  pub names : after.names ≡ names_after before.names line
  pub marks : IsMarked before.marks after.number line after.marks
  pub hides : after.hides ≡ before.hides
  pub judged : IfJudged (before.judged.is_over || before.judged.is_lost) before.hides after.place (slip_with before.names line) before.judged
      (line_with before.names line) line said after.judged
