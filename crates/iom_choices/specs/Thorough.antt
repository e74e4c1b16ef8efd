-- A late system whose fences are thorough. With an entry that a command before it names, a fence takes out what was made from that entry since, as a
-- whole translation is made from a leaf. So an entry has a mark: the number of the step that read it; None: it was made from one that the next
-- fence takes out, and goes with it.
use Rattle.std.specs.Prelude.{◌≡◌, ℕ, suc, ◌&&◌, ◌||◌, Bool, true, false, List, map, Option, Some, None, if◌then◌else◌}
use Rattle.std.specs.Option.{option_map}
use Rattle.iom_choices.specs.Systems.{System, ModelWalk}
use Rattle.iom_choices.specs.Late.{Commands, Late, is_fence_by, is_named, late_at, left_pending, with_command}
use Rattle.iom_choices.specs.Models.{IsRun, Run}
use Rattle.iom_choices.specs.Trees.{Ends, Looks, Tree, way_over}

-- the entries that others are made from, and those that are made from such
pub record Making (E : Type 0) : Type 0 where
  pub lends : E → Bool
  pub is_made : E → Bool

-- The next fence takes it out: it was made from such a one, or a pending command names it.
abbrev pub due_by : {S T E C : Type 0} → Commands S T E C → List (ℕ × C) → E → Option ℕ → Bool
due_by commands pending entry None = true
due_by commands pending entry (Some number) = is_named commands pending (entry, number)

abbrev pub is_due : {S T E C : Type 0} → Commands S T E C → List (ℕ × C) → E × Option ℕ → Bool
is_due commands pending held = due_by commands pending held.0 held.1

-- what a walk reads under this number, if it used an entry that lends and is due, or not
abbrev pub marked_by : {E : Type 0} → Making E → ℕ → Bool → E → E × Option ℕ
marked_by making number helped entry = (entry, if helped && making.is_made entry then None else Some number)

abbrev pub walk_marked : {E L : Type 0} → Making E → ℕ → Bool → ModelWalk E L → ModelWalk (E × Option ℕ) L
walk_marked making number helped walk = record { led = walk.led; reads = map (marked_by making number helped) walk.reads }

abbrev pub lends_due : {E : Type 0} → Making E → (E × Option ℕ → Bool) → Option (E × Option ℕ) → Bool
lends_due making due None = false
lends_due making due (Some held) = making.lends held.0 && due held

abbrev pub plain_of : {E : Type 0} → Option (E × Option ℕ) → Option E
plain_of {E} used = option_map (λ (held : E × Option ℕ). held.0) used

-- the tree of a walk whose reads are marked
abbrev pub tree_marked : {K E L : Type 0} → Making E → (E × Option ℕ → Bool) → ℕ → Bool → Tree K E L → Tree K (E × Option ℕ) L
tree_marked making due number helped (Ends way) = Ends (walk_marked making number helped way)
tree_marked {K} {E} {L} making due number helped (Looks look fits more) =
    Looks look (λ (other : K) (held : E × Option ℕ). fits other held.0)
    (λ (used : Option (E × Option ℕ)). tree_marked making due number (helped || lends_due making due used) (more (plain_of used)))

abbrev pub thorough_tree : {S T R K E L C : Type 0} → Commands S T E C → Making E → (S → R → Tree K E L) → Late S C → R → Tree K (E × Option ℕ) L
thorough_tree commands making tree state request = tree_marked making (is_due commands state.pending) state.count false (tree state.now request)

abbrev pub thorough : {S T R K E L A C : Type 0} → System S T R K E L A → Commands S T E C → Making E → (S → R → Tree K E L) → System (Late S C) T R K (E × Option ℕ) L A
thorough {S} {T} {R} {K} {E} {L} {A} {C} sys commands making tree = record {
  asked = λ state step. sys.asked state.now step;
  way = λ state source request. way_over source (thorough_tree commands making tree state request);
  drops = λ state step held.
      is_fence_by commands (commands.executed state.now step)
      && is_due commands (with_command state.count (commands.executed state.now step) state.pending) held;
  after = λ state step led. record {
    now = sys.after state.now step led;
    count = suc state.count;
    pending = left_pending commands state.count (commands.executed state.now step) state.pending;
  };
  reply = λ state step led. sys.reply state.now step led;
  ahead = sys.ahead;
}

-- entries and sources without marks
abbrev pub entries_of_marked : {E : Type 0} → List (E × Option ℕ) → List E
entries_of_marked {E} held = map (λ (each : E × Option ℕ). each.0) held

abbrev pub unmarked : {K E : Type 0} → List (K × (E × Option ℕ)) → List (K × E)
unmarked {K} {E} source = map (λ (used : K × (E × Option ℕ)). let each : K × E = (used.0, used.1.0) in each) source

-- The run is one of the thorough system, if what it caches is marked.
pub record IsThoroughRun {S T R K E L A C : Type 0} (sys : System S T R K E L A) (commands : Commands S T E C) (making : Making E) (tree : S → R → Tree K E L) (run : Run S T K E A) : Type 0 where
  pub marked : List T → List (K × (E × Option ℕ))
  pub same : (steps : List T) → unmarked (marked steps) ≡ run.uses steps
  pub is : IsRun (thorough sys commands making tree) (record { at = late_at commands run.at; tells = run.tells; uses = marked })
