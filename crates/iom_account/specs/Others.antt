-- A history and an account of steps between which others write memory. The steps are counted by the numbers that their caller gives
-- them; what others write has no number, and counts for nothing.
use Rattle.std.specs.Prelude.{ℕ, ◌≡◌, ◌++◌, List, [], ◌∷◌, length, map, replicate, slice_get, take, Option, Some, None}
use Rattle.circular_buffer.specs.Buffer.{keep_last}
use Rattle.iom_mem.specs.Memory.{Memory}
use Rattle.iom_core.specs.Others.{AreWritten, Happening, Took, Wrote, end_after, place_of, steps_of, stores_of}
use Rattle.iom_core.specs.State.{State}
use Rattle.iom_core.specs.Warrants.{Explains, IsUncached, moment}
use Rattle.iom_core.specs.declared.step.Step.{Step}
use Rattle.iom_core.specs.declared.warrant.Warrant.{Warrant}
use Rattle.iom_core.specs.declared.warrant.Warrant.TheVariants as warrant
use Rattle.iom_account.specs.Account.{AccountView, IsReasonOf, most_reasons}
use Rattle.iom_account.specs.Following.{Follows, HistoryView}
use Rattle.iom_account.specs.declared.origin.NumberedWarrant.{NumberedWarrant}
use Rattle.iom_account.specs.declared.origin.NumberedWarrant.TheVariants as origin
use Rattle.iom_account.specs.declared.reason.Reason.{Reason}

-- a step is taken, under the number that its caller gives it; or others write memory, so that it is this one from then on
pub data Event : Type 0 where
  Counted : Step → ℕ → Event
  Written : Memory → Event

abbrev pub happening_of : Event → Happening
happening_of (Counted step number) = Took step
happening_of (Written memory) = Wrote memory

abbrev pub happenings_of : List Event → List Happening
happenings_of events = map happening_of events

-- the steps that stand for what happens: the caller's, and a hart's stores for what others write
abbrev pub steps_among : List Event → List Step
steps_among events = steps_of (happenings_of events)

-- the number of each: the caller's; a store that stands for what others write has none, so 0 stands in its place
abbrev pub numbers_among : List Event → List ℕ
numbers_among [] = []
numbers_among (Counted step number ∷ more) = number ∷ numbers_among more
numbers_among (Written memory ∷ more) = replicate (length (stores_of memory.base memory.bytes)) 0 ++ numbers_among more

-- the state that was passed before event j
abbrev pub passed : State → List Event → ℕ → State
passed start events j = end_after start (take j (happenings_of events))

-- The history goes along with the platform: from a start whose caches are empty all this happened.
pub record FollowsAmong (history : HistoryView) (platform start : State) (events : List Event) : Type 0 where
  pub written : AreWritten start (happenings_of events)
  pub follows : Follows history platform start (steps_among events) (numbers_among events)

-- Moment k of the steps that stand for the events is the state that was passed before a step of the caller's, whose number is this.
pub record IsNamed (start : State) (events : List Event) (k number : ℕ) : Type 0 where
  pub j : ℕ
  pub step : Step
  pub counted : slice_get events j ≡ Some (Counted step number)
  pub state : passed start events j ≡ moment start (steps_among events) k

-- each moment of a warrant is named by the origin's number
abbrev pub AreNamed : State → List Event → Option Warrant → Option NumberedWarrant → Type 0
AreNamed start events None None = Unit {0}
AreNamed start events None (Some found) = ⊥
AreNamed start events (Some warrant) None = ⊥
AreNamed start events (Some warrant.Register) (Some origin.Register) = Unit {0}
AreNamed start events (Some (warrant.Context c)) (Some (origin.Context context)) = IsNamed start events c context
AreNamed start events (Some (warrant.Walked c w c')) (Some (origin.Walked context walk current)) =
    IsNamed start events c context × IsNamed start events w walk × IsNamed start events c' current
AreNamed start events (Some warrant) (Some found) = ⊥

-- The origin of the translation that event n, a step, used: a warrant in the states that were passed, by the caller's numbers; None: it
-- made no access, or was denied.
pub record ComesFromPassed (start : State) (events : List Event) (n : ℕ) (found : Option NumberedWarrant) : Type 0 where
  pub warrant : Option Warrant
  pub state : passed start events n ≡ moment start (steps_among events) (place_of (happenings_of events) n)
  pub explains : Explains start (steps_among events) (place_of (happenings_of events) n) warrant
  pub named : AreNamed start events warrant found

-- The reason of a step that is taken after these events.
pub record IsReasonAfter (start : State) (before : List Event) (step : Step) (number : ℕ) (reason : Reason) : Type 0 where
  pub own : IsReasonOf (end_after start (happenings_of before)) step number reason
  pub origin : IsUncached start → ComesFromPassed start (before ++ Counted step number ∷ []) (length before) reason.origin

-- the reasons of the steps among events that follow these, in their order
abbrev pub AreReasons : State → List Event → List Event → List Reason → Type 0
AreReasons start before [] [] = Unit {0}
AreReasons start before [] (reason ∷ reasons) = ⊥
AreReasons start before (Counted step number ∷ more) [] = ⊥
AreReasons start before (Counted step number ∷ more) (reason ∷ reasons) =
    IsReasonAfter start before step number reason × AreReasons start (before ++ Counted step number ∷ []) more reasons
AreReasons start before (Written memory ∷ more) reasons = AreReasons start (before ++ Written memory ∷ []) more reasons

-- The account goes along with the platform: since the start all this happened, and it has the reasons of the last steps.
pub record AccountsAmong (account : AccountView) (platform start : State) (events : List Event) : Type 0 where
  pub reached : platform ≡ end_after start (happenings_of events)
  pub written : AreWritten start (happenings_of events)
  pub follows : IsUncached start → FollowsAmong account.history platform start events
  pub all : List Reason
  pub each : AreReasons start [] events all
  pub kept : account.reasons ≡ keep_last most_reasons all
