-- What the word `explain` writes for the lines of a script: each line with its number and its answer, below each step that makes an access
-- the reasons of that, and at the end how the accesses went. If it is to tell some accesses only, no other step is told, and no line.
use Rattle.std.specs.Prelude.{ℕ, ◌≡◌, ◌+◌, ◌==◌, ◌++◌, ◌&&◌, ◌||◌, Bool, false, true, nat_lt, List, [], ◌∷◌, length, replicate, codes, Option, Some, None, is_some, if◌then◌else◌}
use Rattle.std.specs.List.{flat_map}
use Rattle.std.specs.Io.KnownBytes.{Appends, Consumes, IsAtEnd}
use Rattle.iom_text.specs.Texts.{numeral}
use Rattle.iom_core.specs.Looking.{is_cached, seen_in}
use Rattle.iom_core.specs.State.{State}
use Rattle.iom_core.specs.Table.{next, request_of_step}
use Rattle.iom_core.specs.declared.access.Request.{Request}
use Rattle.iom_core.specs.declared.looking.Lookup.{Lookup}
use Rattle.iom_core.specs.declared.step.Step.{Step}
use Rattle.iom_core.specs.declared.step.Answer.{Answer}
use Rattle.iom_core.specs.declared.step.Answer.TheVariants as answer
use Rattle.iom_account.specs.declared.origin.NumberedWarrant.{NumberedWarrant}
use Rattle.iom_reader.specs.Answering.{Answering}
use Rattle.iom_reader.specs.Lines.{lines_of}
use Rattle.iom_reader.specs.Running.{IsWithinLimits}
use Rattle.iom_reader.specs.Speaking.{Speaking, Speaks, Spoken}
use Rattle.iom_tool.specs.Script.{Again, DebugLine, Does, Named, Plain, Stores}
use Rattle.iom_names.specs.Reading.{line_with}
use Rattle.iom_names.specs.declared.names.Binding.{Binding}
use Rattle.iom_tool.specs.Texts.{entry_text, text_of}
use Rattle.iom_tool.specs.declared.trace.TracedStep.{TracedStep}
use Rattle.iom_debug.specs.Marks.{MarksView, numbered_at}
use Rattle.iom_debug.specs.Reasons.{LineAccountView, newest_origin}
use Rattle.iom_debug.specs.Settling.{is_lost_in, last_unsettled_in}
use Rattle.iom_debug.specs.Stale.{filler, stale_access}
use Rattle.iom_debug.specs.Summary.{Counts, counts_of, up_to_64_bits}
use Rattle.iom_debug.specs.Taking.{Desk, Took, desk, last_answer, run_text, taken}
use Rattle.iom_debug.specs.Escaping.{escaped}
use Rattle.iom_debug.specs.Telling.{IsAnswer, Leaves, before_comment, slip_text, slip_with}
use Rattle.iom_debug.specs.declared.settling.UnsettledAccess.{UnsettledAccess}
use Rattle.iom_debug.specs.declared.summary.AccessOutcome.{AccessOutcome}
use Rattle.iom_explain.specs.Accesses.{asks_text, caches_by, stale_text, unsettled_text, warrant_text}
use Rattle.iom_explain.specs.Walking.{walk_text}
use Rattle.iom_explain.specs.declared.only.Only.{Only}
use Rattle.iom_tables.specs.Stale.{stale_way}

-- what is told below a step that makes an access, by what stood before it, where the translation came from that it used, and the access
-- itself, if it wasn't settled
abbrev pub access_text : Desk → Step → Request → Lookup → Option NumberedWarrant → Option UnsettledAccess → List ℕ
access_text now step request seen used unsettled =
    asks_text now.state step
    ++ caches_by now.marks seen.context seen (filler now.reasons.account.history now.state.machine request.did) request.iova used
    ++ walk_text seen now.state.machine request ++ warrant_text now.marks used
    ++ stale_text now.marks (stale_access now.reasons.account.history now.state (Some request) used)
    ++ unsettled_text now.marks now.reasons.last_invalidation unsettled

abbrev pub access_by : Desk → Step → Option Request → Option NumberedWarrant → Option UnsettledAccess → List ℕ
access_by now step None used unsettled = []
access_by now step (Some request) used unsettled =
    access_text now step request (seen_in now.state.machine request) used unsettled

-- a step of the line of this number, with its answer
abbrev pub step_told : Desk → ℕ → Step → Option NumberedWarrant → Option UnsettledAccess → List ℕ
step_told now number step used unsettled =
    numbered_at now.marks number ++ codes ": " ++ entry_text (Some (record { step = step; answer = (next now.state step).answer })) ++ 10 ∷ []
    ++ access_by now step (request_of_step now.state step) used unsettled

-- the cause that an answer is a denial for
abbrev pub denied_for : Answer → Option ℕ
denied_for (answer.Denied cause) = Some cause
denied_for _ = None

-- how the access went that a step made, and that access, if it wasn't settled
abbrev pub outcomes_by : Desk → ℕ → Step → Option Request → Option UnsettledAccess → List AccessOutcome
outcomes_by now number step None unsettled = []
outcomes_by now number step (Some request) unsettled = record {
  number = number;
  denied = denied_for (next now.state step).answer;
  is_cached = is_cached (seen_in now.state.machine request);
  is_stale = is_some (stale_way now.state.machine request);
  is_unsettled = is_some unsettled;
} ∷ []

-- A step is told whose access is denied, stale or unsettled, or not: each where all are told, and else one whose access is among those.
abbrev pub is_told : Option Only → Bool → Bool → Bool → Bool
is_told None denied stale unsettled = true
is_told (Some only) denied stale unsettled = (only.denied && denied) || (only.stale && stale) || (only.unsettled && unsettled)

abbrev pub is_step_told : Option Only → List AccessOutcome → Bool
is_step_told only [] = is_told only false false false
is_step_told only (outcome ∷ more) = is_told only (is_some outcome.denied) outcome.is_stale outcome.is_unsettled

-- a text that is told or not
abbrev pub if_told : Bool → List ℕ → List ℕ
if_told told text = if told then text else []

-- what lines drive, how many accesses went how, and which accesses are told; None: all that is said
pub record Explained : Type 0 where
  pub desk : Desk
  pub counts : Counts
  pub only : Option Only

abbrev pub explained : State → List TracedStep → LineAccountView → List Binding → MarksView → Counts → Option Only → Explained
explained state trace reasons names marks counts only = record { desk = desk state trace reasons names marks; counts = counts; only = only }

-- A step of the line of this number was taken, counted, and told where it is to be. Where its translation came from, and whether its access
-- wasn't settled, is what is kept of it.
pub record StepTold (before : Explained) (number : ℕ) (step : Step) (said : List ℕ) (after : Explained) : Type 0 where
  pub took : Took before.desk step number after.desk
  -- what may be held is known, where that is kept
  pub known : is_lost_in after.desk.reasons.settling ≡ false
  pub text : said ≡ if_told
      (is_step_told before.only (outcomes_by before.desk number step (request_of_step before.desk.state step)
      (last_unsettled_in after.desk.reasons.settling)))
      (step_told before.desk number step (newest_origin after.desk.reasons.account) (last_unsettled_in after.desk.reasons.settling))
  pub counts : (earlier : List AccessOutcome) → before.counts ≡ counts_of earlier
      → after.counts ≡ counts_of (earlier ++ outcomes_by before.desk number step (request_of_step before.desk.state step)
      (last_unsettled_in after.desk.reasons.settling))
  pub same : after.only ≡ before.only

-- steps one after the other
abbrev pub StepsTold : Explained → ℕ → List Step → List ℕ → Explained → Type 0
StepsTold now number [] text later = (text ≡ []) × (later ≡ now)
StepsTold now number (step ∷ steps) text later =
    (said : List ℕ) × (rest : List ℕ) × (mid : Explained) × (text ≡ said ++ rest) × StepTold now number step said mid
    × StepsTold mid number steps rest later

-- a line that is no step by itself, by its number as it is told, with its answer, and why it is bad; nothing where it has no answer, or where some
-- accesses only are told
abbrev pub line_told : Option Only → List ℕ → List ℕ → List ℕ → List ℕ → List ℕ
line_told None number line answer slip =
    if nat_lt 0 (length answer)
    then number ++ codes ": " ++ escaped (before_comment line) ++ codes " -> " ++ escaped answer ++ slip_text slip ++ 10 ∷ []
    else []
line_told (Some only) number line answer slip = []

-- a line that takes several steps: each that is taken, and after them the line with its answer
abbrev pub RunTold : Explained → ℕ → List ℕ → List Step → List ℕ → List ℕ → Explained → Type 0
RunTold before number line steps answer said after =
    (text : List ℕ) × StepsTold before number (taken before.desk.state steps) text after
    × (said ≡ text ++ line_told before.only (numbered_at before.desk.marks number) line answer [])

-- any other line, with an answer that it may have: only `owed` may have several. It is known where the lines behind it stand.
abbrev pub OtherTold : Explained → ℕ → List ℕ → List ℕ → Explained → Type 0
OtherTold before number line said after =
    Leaves before.desk line number after.desk × (after.desk.marks.is_lost ≡ false) × (after.counts ≡ before.counts) × (after.only ≡ before.only)
    × ((answer : List ℕ) × IsAnswer before.desk line answer
    × (said ≡ line_told before.only (numbered_at before.desk.marks number) line answer (slip_with before.desk.names line)))

-- A line of this number, by what it says. One that stores nothing is any other line: `let`, which gives a name its number.
abbrev pub LineTold : Explained → ℕ → List ℕ → DebugLine → List ℕ → Explained → Type 0
LineTold before number line (Plain (Does step)) said after = StepTold before number step said after
LineTold before number line (Named step) said after = StepTold before number step said after
LineTold before number line (Again step most) said after =
    RunTold before number line (replicate most step) (run_text before.desk.state (replicate most step)) said after
LineTold before number line (Stores (step ∷ steps)) said after =
    RunTold before number line (step ∷ steps) (text_of (last_answer before.desk.state (step ∷ steps))) said after
LineTold before number line other said after = OtherTold before number line said after

-- the same, how many lines were read, and whether memory was refused
pub record Progressed : Type 0 where
  pub told : Explained
  pub number : ℕ
  pub is_short : Bool

-- `explain` tells each line, while there is memory for the numbers of lines that it counts, for where they stand, and for what any IOMMU may hold
pub record ExplainSays (before : Progressed) (line said : List ℕ) (after : Progressed) : Type 0 where
  pub short : before.is_short ≡ true → after.is_short ≡ true
  pub number : after.is_short ≡ false → after.number ≡ up_to_64_bits (before.number + 1)
  pub told : after.is_short ≡ false
      → LineTold before.told after.number line (line_with before.told.desk.names line) said after.told

abbrev pub explaining : Speaking
explaining = record { State = Progressed; says = ExplainSays; breaks = λ before line front after. Unit {0} }

-- where a write fails nothing is said of what was written
abbrev pub by_explain : Answering
by_explain = record { State = Progressed; whole = Spoken explaining; half = λ old new lines. Unit {0} }

-- how many accesses were denied for a cause
abbrev pub denied_text : ℕ × ℕ → List ℕ
denied_text entry =
    if nat_lt 0 entry.1 then codes "denied " ++ numeral 10 entry.0 ++ codes ": " ++ numeral 10 entry.1 ++ 10 ∷ [] else []

-- one more of the numbers of the lines of some accesses, and all of them
abbrev pub more_text : MarksView → ℕ → List ℕ
more_text marks number = codes ", " ++ numbered_at marks number

abbrev pub lines_text : MarksView → List ℕ → List ℕ
lines_text marks [] = 10 ∷ []
lines_text marks (first ∷ more) =
    (if length more == 0 then codes " (line " else codes " (lines ") ++ numbered_at marks first
    ++ flat_map (more_text marks) more ++ 41 ∷ 10 ∷ []

-- how the accesses went but for settledness
abbrev pub counts_text : MarksView → Counts → List ℕ
counts_text marks counts =
    (codes "accesses: " ++ numeral 10 counts.accesses ++ 10 ∷ [] ++ (codes "granted: " ++ numeral 10 counts.granted ++ 10 ∷ []))
    ++ flat_map denied_text counts.denied
    ++ (codes "from the caches: " ++ numeral 10 counts.cached ++ 10 ∷ [] ++ (codes "stale: " ++ numeral 10 counts.stale))
    ++ lines_text marks counts.stale_lines

-- how many weren't settled, with their lines, where that is told
abbrev pub unsettled_counted : MarksView → Bool → Counts → List ℕ
unsettled_counted marks false counts = []
unsettled_counted marks true counts = (codes "unsettled: " ++ numeral 10 counts.unsettled) ++ lines_text marks counts.unsettled_lines

-- how the accesses went, and which weren't settled, where what any IOMMU may hold is kept
abbrev pub summary_text : Explained → List ℕ
summary_text told =
    counts_text told.desk.marks told.counts ++ unsettled_counted told.desk.marks (is_some told.desk.reasons.settling) told.counts

-- A whole script was explained: what was written is what is told of its lines, one after the other, and how the accesses went.
pub record IsExplained (start : Progressed) (unread left held holds : Option (List ℕ)) : Type 0 where
  pub script : List ℕ
  pub took : Consumes unread left script
  pub all : IsAtEnd left
  pub within : IsWithinLimits script
  pub text : List ℕ
  pub end : Progressed
  pub said : Speaks explaining start (lines_of script) text end
  pub memory : end.is_short ≡ false
  pub written : Appends held holds (text ++ summary_text end.told)
