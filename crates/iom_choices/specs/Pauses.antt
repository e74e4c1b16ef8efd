-- Between two steps an IOMMU may walk any number of requests, each over what it holds by then: a system that may also pause. A pause changes
-- nothing; what is read ahead in it may be used in the next step.
use Rattle.std.specs.Prelude.{◌≡◌, ◌⊎◌, ◌&&◌, ℕ, zero, suc, true, false, Bool, List, [], ◌∷◌, Option, Some, None}
use Rattle.std.specs.Option.{option_map}
use Rattle.iom_choices.specs.Systems.{System, IsAmong}
use Rattle.iom_choices.specs.Models.{Run}
use Rattle.iom_choices.specs.Settled.{EachUse, IsRead}
use Rattle.iom_choices.specs.Late.{Commands, MayHoldLate, MayOutlast, is_fence_by, named_by}

abbrev pub asked_or_none : {S T R : Type 0} → (S → T → Option R) → S → Option T → Option R
asked_or_none asked state None = None
asked_or_none asked state (Some step) = asked state step

abbrev pub drops_or_none : {S T E : Type 0} → (S → T → E → Bool) → S → Option T → E → Bool
drops_or_none drops state None entry = false
drops_or_none drops state (Some step) entry = drops state step entry

abbrev pub after_or_same : {S T L : Type 0} → (S → T → Option L → S) → S → Option T → Option L → S
after_or_same after state None led = state
after_or_same after state (Some step) led = after state step led

abbrev pub reply_or_none : {S T L A : Type 0} → (S → T → Option L → A) → S → Option T → Option L → Option A
reply_or_none reply state None led = None
reply_or_none reply state (Some step) led = Some (reply state step led)

abbrev pub paused : {S T R K E L A : Type 0} → System S T R K E L A → System S (Option T) R K E L (Option A)
paused sys = record {
  asked = asked_or_none sys.asked;
  way = sys.way;
  drops = drops_or_none sys.drops;
  after = after_or_same sys.after;
  reply = reply_or_none sys.reply;
  ahead = sys.ahead;
}

-- the steps without the pauses
abbrev pub taken : {T : Type 0} → List (Option T) → List T
taken [] = []
taken (None ∷ steps) = taken steps
taken (Some step ∷ steps) = step ∷ taken steps

abbrev pub paused_at : {S T : Type 0} → (List T → S) → List (Option T) → S
paused_at at steps = at (taken steps)

abbrev pub tells_or_none : {T A : Type 0} → (List T → T → A) → List (Option T) → Option T → Option A
tells_or_none tells steps step = option_map (tells (taken steps)) step

abbrev pub paused_run : {S T K E A : Type 0} → Run S T K E A → Run S (Option T) K E (Option A)
paused_run {S} {T} {K} {E} {A} run = record {
  at = paused_at run.at;
  tells = tells_or_none run.tells;
  uses = λ steps. run.uses (taken steps);
}

-- no command is executed in a pause
abbrev pub executed_or_none : {S T C : Type 0} → (S → T → Option C) → S → Option T → Option C
executed_or_none executed state None = None
executed_or_none executed state (Some step) = executed state step

abbrev pub paused_commands : {S T E C : Type 0} → Commands S T E C → Commands S (Option T) E C
paused_commands commands = record { executed = executed_or_none commands.executed; names = commands.names; is_fence = commands.is_fence }

-- so many pauses before the first step and behind each
abbrev pub pausing : {T : Type 0} → ℕ → List (Option T) → List (Option T)
pausing zero steps = steps
pausing (suc count) steps = None ∷ pausing count steps

abbrev pub with_pauses : {T : Type 0} → ℕ → List T → List (Option T)
with_pauses count [] = pausing count []
with_pauses count (last ∷ steps) = pausing count (Some last ∷ with_pauses count steps)

-- With some number of pauses there the entry may be held late behind the last of them.
pub record MayHoldPaused {S T R K E L A C : Type 0} (sys : System S T R K E L A) (commands : Commands S T E C) (at : List T → S) (steps : List T) (entry : E) : Type 0 where
  pub count : ℕ
  pub may : MayHoldLate (paused sys) (paused_commands commands) (paused_at at) (with_pauses count steps) entry

-- and a fence that comes then leaves it
pub record MayOutlastPaused {S T R K E L A C : Type 0} (sys : System S T R K E L A) (commands : Commands S T E C) (at : List T → S) (steps : List T) (entry : E) : Type 0 where
  pub count : ℕ
  pub may : MayOutlast (paused sys) (paused_commands commands) (paused_at at) (with_pauses count steps) entry

-- a walk in a pause reads the entry, if its look-ups use entries that may be held
abbrev pub IsReadAhead : {S T R K E L A : Type 0} → System S T R K E L A → (E → Type 0) → S → E → Type 0
IsReadAhead sys May state entry = IsRead (paused sys) May state None entry

-- Two lists have what a step leaves, and what is read in pauses behind it over the first: what is held, and what of that outlasts the next fence.
pub record HaveStep {S T R K E L A C : Type 0} (sys : System S T R K E L A) (commands : Commands S T E C) (at : List T → S) (last : T) (steps : List T) (held outlasting : List E) : Type 0 where
  pub holds : (entry : E) → is_fence_by commands (commands.executed (at steps) last) ≡ false →
      MayHoldPaused sys commands at steps entry ⊎ IsRead sys (MayHoldPaused sys commands at steps) (at steps) last entry → IsAmong held entry
  pub outlasts : (entry : E) → named_by commands (commands.executed (at steps) last) entry ≡ false →
      MayOutlastPaused sys commands at steps entry ⊎ IsRead sys (MayHoldPaused sys commands at steps) (at steps) last entry → IsAmong outlasting entry
  pub ahead : (entry : E) → IsReadAhead sys (IsAmong held) (at (last ∷ steps)) entry → IsAmong outlasting entry
  pub among : (entry : E) → IsAmong outlasting entry → IsAmong held entry

-- with some number of pauses these entries may all be held
pub record AreHeldTogether {S T R K E L A C : Type 0} (sys : System S T R K E L A) (commands : Commands S T E C) (at : List T → S) (steps : List T) (source : List (K × E)) : Type 0 where
  pub paused_steps : List (Option T)
  pub same : taken paused_steps ≡ steps
  pub may : EachUse (MayHoldLate (paused sys) (paused_commands commands) (paused_at at) paused_steps) source

-- A system that reads ahead by memory alone: what it holds has no part in these walks. A request says whether it is one of them.
abbrev pub own_walk : {R : Type 0} → Option R → Option (Bool × R)
own_walk None = None
own_walk (Some request) = Some (false, request)

abbrev pub source_for : {K E : Type 0} → Bool → List (K × E) → List (K × E)
source_for true source = []
source_for false source = source

abbrev pub alone : {S T R K E L A : Type 0} → System S T R K E L A → System S T (Bool × R) K E L A
alone sys = record {
  asked = λ state step. own_walk (sys.asked state step);
  way = λ state source request. sys.way state (source_for request.0 source) request.1;
  drops = sys.drops;
  after = sys.after;
  reply = sys.reply;
  ahead = λ request. request.0 && sys.ahead request.1;
}
