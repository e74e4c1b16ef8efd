-- What a system whose commands take effect late and whose fences are thorough may be, without marks: a state, all that it can hold there, and what of
-- that a fence leaves which comes now. A decider of traces keeps a list of these.
use Rattle.std.specs.Prelude.{◌≡◌, ◌++◌, ℕ, not, Bool, List, [], filter, map, Option, if◌then◌else◌}
use Rattle.iom_choices.specs.Systems.{System, IsAmong}
use Rattle.iom_choices.specs.Choices.{Choice, Holder, end_as}
use Rattle.iom_choices.specs.Late.{Commands, Late, is_fence_by, named_by}
use Rattle.iom_choices.specs.Thorough.{Making, entries_of_marked, is_due, thorough}
use Rattle.iom_choices.specs.Traces.{Shows, leds_of}
use Rattle.iom_choices.specs.Trees.{Tree, reads_at}

pub record Marked (S E : Type 0) : Type 0 where
  pub state : S
  pub holds : List E
  pub outlasts : List E

-- where a late system starts
abbrev pub late_from : {S C : Type 0} → S → Late S C
late_from start = record { now = start; count = 0; pending = [] }

-- what of a holder's entries a fence leaves that comes now, and all of it without marks
abbrev pub spared_by : {S T E C : Type 0} → Commands S T E C → List (ℕ × C) → E × Option ℕ → Bool
spared_by commands pending held = not (is_due commands pending held)

abbrev pub marks : {S T E C : Type 0} → Commands S T E C → Holder (Late S C) (E × Option ℕ) → Marked S E
marks commands i = record {
  state = i.state.now;
  holds = entries_of_marked i.holds;
  outlasts = entries_of_marked (filter (spared_by commands i.state.pending) i.holds);
}

-- What may be used without a mark for what is made from it: all that is held, but of what lends only what outlasts the next fence.
abbrev pub lasting : {S E : Type 0} → Making E → Marked S E → List E
lasting making before = filter (λ entry. not (making.lends entry)) before.holds ++ filter making.lends before.outlasts

-- what a step reads that outlasts the next fence: of what is made from others only what can be made without one that the fence takes out
abbrev pub fresh_reads : {S T R K E L A : Type 0} → System S T R K E L A → Making E → (S → R → Tree K E L) → List R → Marked S E → T → List E
fresh_reads sys making tree requests before step =
    filter (λ entry. not (making.is_made entry)) (reads_at sys tree requests before.state before.holds step)
    ++ filter making.is_made (reads_at sys tree requests before.state (lasting making before) step)

-- What outlasts the next fence behind a step: what did before it or is read in it so, and isn't named by the step's own command. A fence leaves just
-- that; other steps leave all that was held, and add what is read.
abbrev pub outlasts_behind : {S T R K E L A C : Type 0} → System S T R K E L A → Commands S T E C → Making E → (S → R → Tree K E L) → List R → Marked S E → T → List E
outlasts_behind sys commands making tree requests before step =
    filter (λ entry. not (named_by commands (commands.executed before.state step) entry)) (before.outlasts ++ fresh_reads sys making tree requests before step)

abbrev pub holds_behind : {S T R K E L A C : Type 0} → System S T R K E L A → Commands S T E C → Making E → (S → R → Tree K E L) → List R → Marked S E → T → List E
holds_behind sys commands making tree requests before step =
    if is_fence_by commands (commands.executed before.state step) then outlasts_behind sys commands making tree requests before step
    else before.holds ++ reads_at sys tree requests before.state before.holds step

-- what it may be behind a step of which this was seen: one for each way that fits
abbrev pub marked_behind : {S T R K E L A C O : Type 0} → System S T R K E L A → Commands S T E C → Making E → (S → R → Tree K E L) → List R → (A → O → Bool) → T × O → Marked S E → List (Marked S E)
marked_behind {S} {T} {R} {K} {E} {L} sys commands making tree requests fits seen before =
    map (λ (led : Option L). record {
      state = sys.after before.state seen.0 led;
      holds = holds_behind sys commands making tree requests before seen.0;
      outlasts = outlasts_behind sys commands making tree requests before seen.0;
    })
    (filter (λ (led : Option L). fits (sys.reply before.state seen.0 led) seen.1) (leds_of tree before.state before.holds (sys.asked before.state seen.0)))

-- the same state, and at least as much is held, now and behind the next fence
pub record IsMoreMarked {S E : Type 0} (one more : Marked S E) : Type 0 where
  pub state : one.state ≡ more.state
  pub holds : (entry : E) → IsAmong one.holds entry → IsAmong more.holds entry
  pub outlasts : (entry : E) → IsAmong one.outlasts entry → IsAmong more.outlasts entry

pub record IsBehindMarked {S E : Type 0} (list : List (Marked S E)) (one : Marked S E) : Type 0 where
  pub more : Marked S E
  pub among : IsAmong list more
  pub is : IsMoreMarked one more

-- each of either list is no more than one of the other
pub record AreMarkedAlike {S E : Type 0} (list all : List (Marked S E)) : Type 0 where
  pub within : (one : Marked S E) → IsAmong list one → IsBehindMarked all one
  pub enough : (one : Marked S E) → IsAmong all one → IsBehindMarked list one

-- one of the traces, and a run of the system that shows it and ends with at least as much
pub record IsEndMarked {S T R K E L A C O : Type 0} (sys : System S T R K E L A) (commands : Commands S T E C) (making : Making E) (tree : S → R → Tree K E L) (fits : A → O → Bool) (start : S) (traces : List (List (T × O))) (one : Marked S E) : Type 0 where
  pub trace : List (T × O)
  pub among : IsAmong traces trace
  pub chosen : List (T × Choice R K)
  pub shows : Shows (thorough sys commands making tree) fits (late_from start) chosen trace
  pub is : IsMoreMarked one (marks commands (end_as (thorough sys commands making tree) (late_from start) chosen))

-- The list is what the system may be after one of these traces: no run of one is left out, and each of the list is the end of such a run.
pub record AreMarked {S T R K E L A C O : Type 0} (sys : System S T R K E L A) (commands : Commands S T E C) (making : Making E) (tree : S → R → Tree K E L) (fits : A → O → Bool) (start : S) (traces : List (List (T × O))) (list : List (Marked S E)) : Type 0 where
  pub covers : (trace : List (T × O)) → IsAmong traces trace → (chosen : List (T × Choice R K)) → Shows (thorough sys commands making tree) fits (late_from start) chosen trace →
      IsBehindMarked list (marks commands (end_as (thorough sys commands making tree) (late_from start) chosen))
  pub reached : (one : Marked S E) → IsAmong list one → IsEndMarked sys commands making tree fits start traces one

-- the system, with answers that tell besides where the access was led
abbrev pub telling : {S T R K E L A : Type 0} → System S T R K E L A → System S T R K E L (A × Option L)
telling sys = record {
  asked = sys.asked;
  way = sys.way;
  drops = sys.drops;
  after = sys.after;
  reply = λ state step led. (sys.reply state step led, led);
  ahead = sys.ahead;
}
