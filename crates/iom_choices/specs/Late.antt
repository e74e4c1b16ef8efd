-- A system whose commands take effect late. A command drops nothing in its own step; a fence completes it. Behind the fence nothing is held that
-- the command names and that was read before the command's step or in it. In between each of these entries may be forgotten or not, as any
-- entry may. So an entry has the number of the step that read it, and the state has the commands that no fence has completed.
use Rattle.std.specs.Prelude.{◌≡◌, ◌≤◌, ◌++◌, ◌&&◌, ◌||◌, ℕ, suc, not, Bool, false, List, [], ◌∷◌, filter, length, map, nat_le, Option, Some, None, if◌then◌else◌}
use Rattle.std.specs.Option.{option_map}
use Rattle.iom_choices.specs.Systems.{System, ModelWalk, IsAmong, aimed}
use Rattle.iom_choices.specs.Models.{Run, IsRun, entries_in}
use Rattle.iom_choices.specs.Laws.{DoesAlike}
use Rattle.iom_choices.specs.Settled.{MayHold}
use Rattle.iom_choices.specs.Trees.{Tree, Ends, Looks, reads_at}

-- the command that a step executes; the entries that it names; and whether it is a fence, which completes all commands up to it
pub record Commands (S T E C : Type 0) : Type 0 where
  pub executed : S → T → Option C
  pub names : C → E → Bool
  pub is_fence : C → Bool

abbrev pub named_by : {S T E C : Type 0} → Commands S T E C → Option C → E → Bool
named_by commands None entry = false
named_by commands (Some command) entry = commands.names command entry

abbrev pub is_fence_by : {S T E C : Type 0} → Commands S T E C → Option C → Bool
is_fence_by commands None = false
is_fence_by commands (Some command) = commands.is_fence command

-- A system that drops at once just what its commands name.
abbrev pub DropsNamed : {S T R K E L A C : Type 0} → System S T R K E L A → Commands S T E C → Type 0
DropsNamed {S} {T} {R} {K} {E} sys commands = (state : S) (step : T) (entry : E) → sys.drops state step entry ≡ named_by commands (commands.executed state step) entry

-- a state, the number of steps before it, and the commands that no fence has completed, newest first, each with the number of its step
pub record Late (S C : Type 0) : Type 0 where
  pub now : S
  pub count : ℕ
  pub pending : List (ℕ × C)

-- One of these commands names the entry, and came in the step that read it or later.
abbrev pub is_named : {S T E C : Type 0} → Commands S T E C → List (ℕ × C) → E × ℕ → Bool
is_named commands [] held = false
is_named commands (one ∷ pending) held = (nat_le held.1 one.0 && commands.names one.1 held.0) || is_named commands pending held

abbrev pub with_command : {C : Type 0} → ℕ → Option C → List (ℕ × C) → List (ℕ × C)
with_command count None pending = pending
with_command count (Some command) pending = (count, command) ∷ pending

-- what is pending behind a step that executes this
abbrev pub left_pending : {S T E C : Type 0} → Commands S T E C → ℕ → Option C → List (ℕ × C) → List (ℕ × C)
left_pending commands count executed pending = if is_fence_by commands executed then [] else with_command count executed pending

-- entries with a number, and sources without
abbrev pub numbered_by : {E : Type 0} → ℕ → List E → List (E × ℕ)
numbered_by {E} number entries = map (λ (entry : E). let each : E × ℕ = (entry, number) in each) entries

abbrev pub unnumbered : {K E : Type 0} → List (K × (E × ℕ)) → List (K × E)
unnumbered {K} {E} source = map (λ (used : K × (E × ℕ)). let each : K × E = (used.0, used.1.0) in each) source

abbrev pub entries_of : {E : Type 0} → List (E × ℕ) → List E
entries_of {E} held = map (λ (each : E × ℕ). each.0) held

abbrev pub walk_numbered : {E L : Type 0} → ℕ → ModelWalk E L → ModelWalk (E × ℕ) L
walk_numbered number walk = record { led = walk.led; reads = numbered_by number walk.reads }

abbrev pub late : {S T R K E L A C : Type 0} → System S T R K E L A → Commands S T E C → System (Late S C) T R K (E × ℕ) L A
late {S} {T} {R} {K} {E} {L} {A} {C} sys commands = record {
  asked = λ state step. sys.asked state.now step;
  way = λ state source request. walk_numbered state.count (sys.way state.now (unnumbered source) request);
  drops = λ state step held.
      is_fence_by commands (commands.executed state.now step)
      && is_named commands (with_command state.count (commands.executed state.now step) state.pending) held;
  after = λ state step led. record {
    now = sys.after state.now step led;
    count = suc state.count;
    pending = left_pending commands state.count (commands.executed state.now step) state.pending;
  };
  reply = λ state step led. sys.reply state.now step led;
  ahead = sys.ahead;
}

-- what is pending after steps, newest first, of a run with these states; and the late system's state there
abbrev pub pending_at : {S T E C : Type 0} → Commands S T E C → (List T → S) → List T → List (ℕ × C)
pending_at commands at [] = []
pending_at commands at (last ∷ steps) = left_pending commands (length steps) (commands.executed (at steps) last) (pending_at commands at steps)

abbrev pub late_at : {S T E C : Type 0} → Commands S T E C → (List T → S) → List T → Late S C
late_at commands at steps = record { now = at steps; count = length steps; pending = pending_at commands at steps }

-- the run that uses the same entries, each with some number
abbrev pub late_run : {S T K E A C : Type 0} → Commands S T E C → Run S T K E A → (List T → List (K × (E × ℕ))) → Run (Late S C) T K (E × ℕ) A
late_run commands run uses = record { at = late_at commands run.at; tells = run.tells; uses = uses }

-- The run is one of the late system, if what it caches is numbered.
pub record IsLateRun {S T R K E L A C : Type 0} (sys : System S T R K E L A) (commands : Commands S T E C) (run : Run S T K E A) : Type 0 where
  pub numbered : List T → List (K × (E × ℕ))
  pub same : (steps : List T) → unnumbered (numbered steps) ≡ run.uses steps
  pub is : IsRun (late sys commands) (late_run commands run numbered)

-- The late system does as the run and holds the entries that the run caches, each with some number.
pub record DoesAlikeLate {S T R K E L A C : Type 0} (sys : System S T R K E L A) (commands : Commands S T E C) (run : Run S T K E A) (steps : List T) : Type 0 where
  pub held : List (E × ℕ)
  pub same : entries_of held ≡ entries_in (run.uses steps)
  pub does : DoesAlike (late sys commands) (late_at commands run.at) run.tells steps held

-- an entry may be held late, with some number
pub record MayHoldLate {S T R K E L A C : Type 0} (sys : System S T R K E L A) (commands : Commands S T E C) (at : List T → S) (steps : List T) (entry : E) : Type 0 where
  pub number : ℕ
  pub may : MayHold (late sys commands) (late_at commands at) steps (entry, number)

-- and no pending command names it with that number: so a fence that comes now leaves it
pub record MayOutlast {S T R K E L A C : Type 0} (sys : System S T R K E L A) (commands : Commands S T E C) (at : List T → S) (steps : List T) (entry : E) : Type 0 where
  pub number : ℕ
  pub may : MayHold (late sys commands) (late_at commands at) steps (entry, number)
  pub spared : is_named commands (pending_at commands at steps) (entry, number) ≡ false

-- the tree of a walk whose reads are numbered
abbrev pub tree_numbered : {K E L : Type 0} → ℕ → Tree K E L → Tree K (E × ℕ) L
tree_numbered number (Ends way) = Ends (walk_numbered number way)
tree_numbered {K} {E} {L} number (Looks look fits more) =
    Looks look (λ (other : K) (held : E × ℕ). fits other held.0) (λ (used : Option (E × ℕ)). tree_numbered number (more (option_map (λ (held : E × ℕ). held.0) used)))

abbrev pub late_tree : {S R K E L C : Type 0} → (S → R → Tree K E L) → Late S C → R → Tree K (E × ℕ) L
late_tree tree state request = tree_numbered state.count (tree state.now request)

-- an entry with at least this number is among them
pub record IsNewer {E : Type 0} (few : List (E × ℕ)) (held : E × ℕ) : Type 0 where
  pub number : ℕ
  pub among : IsAmong few (held.0, number)
  pub newer : held.1 ≤ number

-- A thinning may take out what has the entry of another that it leaves, and no greater number.
pub record KeepsNewest {E : Type 0} (thin : List (E × ℕ) → List (E × ℕ)) : Type 0 where
  pub few : (all : List (E × ℕ)) (held : E × ℕ) → IsAmong (thin all) held → IsAmong all held
  pub enough : (all : List (E × ℕ)) (held : E × ℕ) → IsAmong all held → IsNewer (thin all) held

-- what may be held late, thinned behind each step
abbrev pub newest_after : {S T R K E L A C : Type 0} → System S T R K E L A → Commands S T E C → (S → R → Tree K E L) → List R → (List (E × ℕ) → List (E × ℕ)) → (List T → S) → List T → List (E × ℕ)
newest_after sys commands tree requests thin at [] = []
newest_after {E = E} sys commands tree requests thin at (last ∷ steps) =
    let before : List (E × ℕ) = newest_after sys commands tree requests thin at steps in
    thin (filter (λ held. not ((late sys commands).drops (late_at commands at steps) last held))
    (before ++ reads_at (late sys commands) (late_tree tree) requests (late_at commands at steps) before last))

-- Nothing is read between a command and its fence.
abbrev pub IsPrompt : {S T R K E L A C : Type 0} → System S T R K E L A → Commands S T E C → (List T → S) → List T → Type 0
IsPrompt sys commands at [] = Unit {0}
IsPrompt {R = R} sys commands at (last ∷ steps) =
    ((target : Option R) (request : R) → aimed sys (at steps) last target ≡ Some request → pending_at commands at steps ≡ []) × IsPrompt sys commands at steps
