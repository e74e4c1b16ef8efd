-- A run whose caches drop at once is one of the late system, with a number for each entry that it caches.
use Rattle.std.proofs.Common.{◌≡◌, ◌∙◌, ◌⊎◌, ◌&&◌, ◌||◌, ◌<◌, ℕ, suc, Bool, true, false, List, [], ◌∷◌, length, Option, Some, None, if◌then◌else◌, refl, sym, ap, subst, inl, inr}
use Rattle.std.proofs.Math.Nat.{lt-suc_self, lt_trans}
use Rattle.std.proofs.lemmas.Bool.{lt-leb}
use Rattle.std.specs.Prelude.{nat_le}
use Rattle.std.specs.Option.{option_map}
use Rattle.std.specs.List.{AllByRecursion}
use Rattle.iom_choices.specs.Systems.{System, IsAmong, ModelWalk, aimed, led_of, reads_of}
use Rattle.iom_choices.specs.Models.{IsRun, Run, entries_in}
use Rattle.iom_choices.specs.Settled.{EachUse}
use Rattle.iom_choices.specs.Trees.{AreTrees, Ends, IsApart, Looks, Tree, picked, way_over}
use Rattle.iom_choices.specs.Late.{Commands, DoesAlikeLate, DropsNamed, IsLateRun, Late, entries_of, is_fence_by, is_named, late, late_at, late_run, late_tree, left_pending, named_by, numbered_by, pending_at, tree_numbered, unnumbered, walk_numbered, with_command}
use Rattle.iom_choices.proofs.Lists.{each_weaker}
use Rattle.iom_choices.proofs.Numbers.{each_entry}
use Rattle.iom_choices.proofs.Reached.{own}
use Rattle.iom_choices.proofs.Trees.{each_at}

-- what is pending came before
pub earlier_left : {S T E C : Type 0} (commands : Commands S T E C) (count : ℕ) (executed : Option C) (pending : List (ℕ × C)) →
    AllByRecursion (λ (one : ℕ × C). one.0 < count) pending → AllByRecursion (λ (one : ℕ × C). one.0 < suc count) (left_pending commands count executed pending)
earlier_left {C = C} commands count None pending h = each_weaker (λ (one : ℕ × C). one.0 < count) (λ (one : ℕ × C). one.0 < suc count) pending (λ one less. lt_trans less (lt-suc_self count)) h
earlier_left {C = C} commands count (Some command) pending h =
    let more : AllByRecursion (λ (one : ℕ × C). one.0 < suc count) ((count, command) ∷ pending) =
    (lt-suc_self count, each_weaker (λ (one : ℕ × C). one.0 < count) (λ (one : ℕ × C). one.0 < suc count) pending (λ one less. lt_trans less (lt-suc_self count)) h) in
    let Goal : Bool → Type 0 = λ b. AllByRecursion (λ (one : ℕ × C). one.0 < suc count) (if b then [] else (count, command) ∷ pending) in
    let by_test : (b : Bool) → Goal b = λ b. elim b as Goal [
      | true ↦ tt
      | false ↦ more
    ] in by_test (commands.is_fence command)

pub each_earlier : {S T E C : Type 0} (commands : Commands S T E C) (at : List T → S) (steps : List T) → AllByRecursion (λ (one : ℕ × C). one.0 < length steps) (pending_at commands at steps)
each_earlier commands at [] = tt
each_earlier commands at (last ∷ steps) = earlier_left commands (length steps) (commands.executed (at steps) last) (pending_at commands at steps) (each_earlier commands at steps)

-- so it names nothing that is read now
pub unnamed_fresh : {S T E C : Type 0} (commands : Commands S T E C) (entry : E) (count : ℕ) (pending : List (ℕ × C)) →
    AllByRecursion (λ (one : ℕ × C). one.0 < count) pending → is_named commands pending (entry, count) ≡ false
unnamed_fresh commands entry count [] h = refl
unnamed_fresh commands entry count (one ∷ pending) h = rw (lt-leb count one.0 h.0, unnamed_fresh commands entry count pending h.1) refl

neither : (a b c : Bool) → b ≡ false → c ≡ false → ((a && b) || c) ≡ false
neither true b c off none = rw (off, none) refl
neither false b c off none = none

pub and_false : (a b : Bool) → b ≡ false → (a && b) ≡ false
and_false true b off = off
and_false false b off = refl

pub unnamed_with : {S T E C : Type 0} (commands : Commands S T E C) (count : ℕ) (executed : Option C) (pending : List (ℕ × C)) (held : E × ℕ) →
    named_by commands executed held.0 ≡ false → is_named commands pending held ≡ false → is_named commands (with_command count executed pending) held ≡ false
unnamed_with commands count None pending held off none = none
unnamed_with commands count (Some command) pending held off none =
    neither (nat_le held.1 count) (commands.names command held.0) (is_named commands pending held) off none

pub unnamed_left : {S T E C : Type 0} (commands : Commands S T E C) (count : ℕ) (executed : Option C) (pending : List (ℕ × C)) (held : E × ℕ) →
    is_named commands (with_command count executed pending) held ≡ false → is_named commands (left_pending commands count executed pending) held ≡ false
unnamed_left {C = C} commands count executed pending held none =
    let Goal : Bool → Type 0 = λ b. is_named commands (if b then [] else with_command count executed pending) held ≡ false in
    let by_test : (b : Bool) → Goal b = λ b. elim b as Goal [
      | true ↦ refl
      | false ↦ none
    ] in by_test (is_fence_by commands executed)

-- numbers in lists
among_numbered_by : {E : Type 0} (number : ℕ) (entries : List E) (entry : E) → IsAmong entries entry → IsAmong (numbered_by number entries) (entry, number)
among_numbered_by number [] entry h = absurd h
among_numbered_by number (one ∷ entries) entry (inl same) = inl (λ n. (same n, number))
among_numbered_by number (one ∷ entries) entry (inr h) = inr (among_numbered_by number entries entry h)

record HasNumber {K E : Type 0} (source : List (K × (E × ℕ))) (entry : E) : Type 0 where
  pub number : ℕ
  pub among : IsAmong (entries_in source) (entry, number)

number_in : {K E : Type 0} (source : List (K × (E × ℕ))) (entry : E) → IsAmong (entries_in (unnumbered source)) entry → HasNumber source entry
number_in [] entry h = absurd h
number_in (used ∷ source) entry (inl same) = record { number = used.1.1; among = inl (λ n. (same n, used.1.1)) }
number_in (used ∷ source) entry (inr h) = let k : HasNumber source entry = number_in source entry h in record { number = k.number; among = inr k.among }

entries_same : {K E : Type 0} (source : List (K × (E × ℕ))) → entries_of (entries_in source) ≡ entries_in (unnumbered source)
entries_same [] = refl
entries_same {K} {E} (used ∷ source) = ap (λ (more : List E). used.1.0 ∷ more) (entries_same source)

-- a walk of the late system is the system's, with numbers
pub led_late : {S T R K E L A C : Type 0} (sys : System S T R K E L A) (commands : Commands S T E C) (state : Late S C) (source : List (K × (E × ℕ))) (plain : List (K × E)) →
    unnumbered source ≡ plain → (request : Option R) → led_of sys state.now plain request ≡ led_of (late sys commands) state source request
led_late sys commands state source plain same None = refl
led_late {K = K} {E = E} sys commands state source plain same (Some request) = ap (λ (uses : List (K × E)). Some (sys.way state.now uses request).led) (sym same)

pub reads_late : {S T R K E L A C : Type 0} (sys : System S T R K E L A) (commands : Commands S T E C) (state : Late S C) (source : List (K × (E × ℕ))) (plain : List (K × E)) →
    unnumbered source ≡ plain → (request : Option R) (entry : E) → IsAmong (reads_of sys state.now plain request) entry →
    IsAmong (reads_of (late sys commands) state source request) (entry, state.count)
reads_late sys commands state source plain same None entry h = absurd h
reads_late {K = K} {E = E} sys commands state source plain same (Some request) entry h =
    among_numbered_by state.count (sys.way state.now (unnumbered source) request).reads entry
    (subst (λ (uses : List (K × E)). IsAmong (sys.way state.now uses request).reads entry) (sym same) h)

-- the cached entries with their numbers: of an entry that stays the number stays, and one that is read has the number of the step
pub record NumberedUses {S T R K E L A C : Type 0} (sys : System S T R K E L A) (commands : Commands S T E C) (run : Run S T K E A) (steps : List T) : Type 0 where
  pub uses : List (K × (E × ℕ))
  pub same : unnumbered uses ≡ run.uses steps
  pub spared : EachUse (λ (held : E × ℕ). is_named commands (pending_at commands run.at steps) held ≡ false) uses

abbrev IsKept : {S T R K E L A C : Type 0} → System S T R K E L A → Commands S T E C → (run : Run S T K E A) → (steps : List T) → List (K × (E × ℕ)) → T → E × ℕ → Type 0
IsKept sys commands run steps before step held =
    (is_named commands (with_command (length steps) (commands.executed (run.at steps) step) (pending_at commands run.at steps)) held ≡ false)
    × (IsAmong (entries_in before) held ⊎ IsAmong (reads_of (late sys commands) (late_at commands run.at steps) before (sys.asked (run.at steps) step)) held)

abbrev WasKept : {S T R K E L A : Type 0} → System S T R K E L A → (run : Run S T K E A) → List T → T → E → Type 0
WasKept sys run steps step entry =
    (sys.drops (run.at steps) step entry ≡ false)
    × (IsAmong (entries_in (run.uses steps)) entry ⊎ IsAmong (reads_of sys (run.at steps) (run.uses steps) (sys.asked (run.at steps) step)) entry)

record NumberKept {S T R K E L A C : Type 0} (sys : System S T R K E L A) (commands : Commands S T E C) (run : Run S T K E A) (steps : List T) (before : List (K × (E × ℕ))) (step : T) (entry : E) : Type 0 where
  pub number : ℕ
  pub kept : IsKept sys commands run steps before step (entry, number)

number_kept : {S T R K E L A C : Type 0} (sys : System S T R K E L A) (commands : Commands S T E C) → DropsNamed sys commands → (run : Run S T K E A) (steps : List T)
    (before : NumberedUses sys commands run steps) (step : T) (entry : E) → WasKept sys run steps step entry → NumberKept sys commands run steps before.uses step entry
number_kept {S} {T} {R} {K} {E} {L} {A} {C} sys commands named run steps before step entry k =
    let executed : Option C = commands.executed (run.at steps) step in
    let pending : List (ℕ × C) = pending_at commands run.at steps in
    let off : named_by commands executed entry ≡ false = sym (named (run.at steps) step entry) ∙ k.0 in
    elim k.1 [
      | inl old ↦
          let n : HasNumber before.uses entry = number_in before.uses entry (subst (λ (uses : List (K × E)). IsAmong (entries_in uses) entry) (sym before.same) old) in
          let none : is_named commands pending (entry, n.number) ≡ false =
          each_at (λ (held : E × ℕ). is_named commands pending held ≡ false) (entries_in before.uses) (entry, n.number) (each_entry (λ (held : E × ℕ). is_named commands pending held ≡ false) before.uses before.spared) n.among in
          record { number = n.number; kept = (unnamed_with commands (length steps) executed pending (entry, n.number) off none, inl n.among) }
      | inr new ↦ record {
        number = length steps;
        kept = (
          unnamed_with commands (length steps) executed pending (entry, length steps) off (unnamed_fresh commands entry (length steps) pending (each_earlier commands run.at steps)),
          inr (reads_late sys commands (late_at commands run.at steps) before.uses (run.uses steps) before.same (sys.asked (run.at steps) step) entry new),
        );
      }
    ]

record NextUses {S T R K E L A C : Type 0} (sys : System S T R K E L A) (commands : Commands S T E C) (run : Run S T K E A) (steps : List T) (before : List (K × (E × ℕ))) (step : T) (plain : List (K × E)) : Type 0 where
  pub uses : List (K × (E × ℕ))
  pub same : unnumbered uses ≡ plain
  pub kept : EachUse (IsKept sys commands run steps before step) uses

next_uses : {S T R K E L A C : Type 0} (sys : System S T R K E L A) (commands : Commands S T E C) → DropsNamed sys commands → (run : Run S T K E A) (steps : List T)
    (before : NumberedUses sys commands run steps) (step : T) (plain : List (K × E)) → ((entry : E) → IsAmong (entries_in plain) entry → WasKept sys run steps step entry) →
    NextUses sys commands run steps before.uses step plain
next_uses sys commands named run steps before step [] kept = record { uses = []; same = refl; kept = tt }
next_uses {S} {T} {R} {K} {E} {L} {A} {C} sys commands named run steps before step (used ∷ plain) kept =
    let rest : NextUses sys commands run steps before.uses step plain = next_uses sys commands named run steps before step plain (λ entry among. kept entry (inr among)) in
    let n : NumberKept sys commands run steps before.uses step used.1 = number_kept sys commands named run steps before step used.1 (kept used.1 (inl refl)) in
    record {
      uses = (used.0, (used.1, n.number)) ∷ rest.uses;
      same = λ i. used ∷ rest.same i;
      kept = (n.kept, rest.kept);
    }

pub numbered_uses : {S T R K E L A C : Type 0} (sys : System S T R K E L A) (commands : Commands S T E C) → DropsNamed sys commands → (run : Run S T K E A) → IsRun sys run → (steps : List T) → NumberedUses sys commands run steps
numbered_uses sys commands named run is [] = record { uses = []; same = sym is.none; spared = tt }
numbered_uses {S} {T} {R} {K} {E} {L} {A} {C} sys commands named run is (step ∷ steps) =
    let before : NumberedUses sys commands run steps = numbered_uses sys commands named run is steps in
    let next : NextUses sys commands run steps before.uses step (run.uses (step ∷ steps)) = next_uses sys commands named run steps before step (run.uses (step ∷ steps)) (is.kept steps step) in
    record {
      uses = next.uses;
      same = next.same;
      spared = each_weaker (λ (used : K × (E × ℕ)). IsKept sys commands run steps before.uses step used.1) (λ (used : K × (E × ℕ)). is_named commands (pending_at commands run.at (step ∷ steps)) used.1 ≡ false) next.uses
          (λ used kept. unnamed_left commands (length steps) (commands.executed (run.at steps) step) (pending_at commands run.at steps) used.1 kept.0) next.kept;
    }

pub late_run_is : {S T R K E L A C : Type 0} (sys : System S T R K E L A) (commands : Commands S T E C) → DropsNamed sys commands → (run : Run S T K E A) → IsRun sys run → IsLateRun sys commands run
unfolding numbered_uses
late_run_is {S} {T} {R} {K} {E} {L} {A} {C} sys commands named run is =
    let uses : List T → List (K × (E × ℕ)) = λ steps. (numbered_uses sys commands named run is steps).uses in
    let same : (steps : List T) → unnumbered (uses steps) ≡ run.uses steps = λ steps. (numbered_uses sys commands named run is steps).same in
    let led : (steps : List T) (step : T) → led_of sys (run.at steps) (run.uses steps) (sys.asked (run.at steps) step) ≡ led_of (late sys commands) (late_at commands run.at steps) (uses steps) (sys.asked (run.at steps) step) =
    λ steps step. led_late sys commands (late_at commands run.at steps) (uses steps) (run.uses steps) (same steps) (sys.asked (run.at steps) step) in
    record {
      numbered = uses;
      same = same;
      is = record {
        none = refl;
        state = λ steps step.
            let now = is.state steps step ∙ ap (λ (led : Option L). sys.after (run.at steps) step led) (led steps step) in
            λ n. record { now = now n; count = suc (length steps); pending = pending_at commands run.at (step ∷ steps) };
        answer = λ steps step. is.answer steps step ∙ ap (λ (led : Option L). sys.reply (run.at steps) step led) (led steps step);
        kept = λ steps step held h.
            let before : NumberedUses sys commands run steps = numbered_uses sys commands named run is steps in
            let next : NextUses sys commands run steps before.uses step (run.uses (step ∷ steps)) = next_uses sys commands named run steps before step (run.uses (step ∷ steps)) (is.kept steps step) in
            let k : IsKept sys commands run steps before.uses step held = each_at (IsKept sys commands run steps before.uses step) (entries_in next.uses) held (each_entry (IsKept sys commands run steps before.uses step) next.uses next.kept) h in
            (and_false (is_fence_by commands (commands.executed (run.at steps) step)) (is_named commands (with_command (length steps) (commands.executed (run.at steps) step) (pending_at commands run.at steps)) held) k.0, k.1);
      };
    }

-- what it caches isn't named by a pending command
pub late_spared : {S T R K E L A C : Type 0} (sys : System S T R K E L A) (commands : Commands S T E C) (named : DropsNamed sys commands) (run : Run S T K E A) (is : IsRun sys run) (steps : List T) →
    EachUse (λ (held : E × ℕ). is_named commands (pending_at commands run.at steps) held ≡ false) ((late_run_is sys commands named run is).numbered steps)
unfolding late_run_is
late_spared sys commands named run is steps = (numbered_uses sys commands named run is steps).spared

pub own_late : {S T R K E L A C : Type 0} (sys : System S T R K E L A) (commands : Commands S T E C) → DropsNamed sys commands → (run : Run S T K E A) → IsRun sys run → (steps : List T) → DoesAlikeLate sys commands run steps
own_late sys commands named run is steps =
    let l : IsLateRun sys commands run = late_run_is sys commands named run is in
    record {
      held = entries_in (l.numbered steps);
      same = entries_same (l.numbered steps) ∙ ap (λ uses. entries_in uses) (l.same steps);
      does = own (late sys commands) (late_run commands run l.numbered) l.is steps;
    }

-- trees with numbers
picked_unnumbered : {K E : Type 0} (fits : K → E → Bool) (source : List (K × (E × ℕ))) →
    option_map (λ (held : E × ℕ). held.0) (picked (λ (other : K) (held : E × ℕ). fits other held.0) source) ≡ picked fits (unnumbered source)
picked_unnumbered fits [] = refl
picked_unnumbered {K} {E} fits (used ∷ source) =
    let Goal : Bool → Type 0 = λ b.
    option_map (λ (held : E × ℕ). held.0) (if b then Some used.1 else picked (λ (other : K) (held : E × ℕ). fits other held.0) source)
    ≡ (if b then Some used.1.0 else picked fits (unnumbered source)) in
    let by_test : (b : Bool) → Goal b = λ b. elim b as Goal [
      | true ↦ refl
      | false ↦ picked_unnumbered fits source
    ] in by_test (fits used.0 used.1.0)

way_numbered : {K E L : Type 0} (number : ℕ) (source : List (K × (E × ℕ))) (tree : Tree K E L) → way_over source (tree_numbered number tree) ≡ walk_numbered number (way_over (unnumbered source) tree)
way_numbered number source (Ends way) = refl
way_numbered {K} {E} {L} number source (Looks look fits more) =
    way_numbered number source (more (option_map (λ (held : E × ℕ). held.0) (picked (λ (other : K) (held : E × ℕ). fits other held.0) source)))
    ∙ ap (λ (used : Option E). walk_numbered number (way_over (unnumbered source) (more used))) (picked_unnumbered fits source)

apart_numbered : {K E L : Type 0} (number : ℕ) (asked : List K) (tree : Tree K E L) → IsApart asked tree → IsApart asked (tree_numbered number tree)
apart_numbered number asked (Ends way) h = tt
apart_numbered {K} {E} {L} number asked (Looks look fits more) h =
    (h.0, (λ other held is. h.1 other held.0 is), λ used. apart_numbered number (look ∷ asked) (more (option_map (λ (held : E × ℕ). held.0) used)) (h.2 (option_map (λ (held : E × ℕ). held.0) used)))

pub late_trees : {S T R K E L A C : Type 0} (sys : System S T R K E L A) (commands : Commands S T E C) (tree : S → R → Tree K E L) → AreTrees sys tree → AreTrees (late sys commands) (late_tree tree)
late_trees {S} {T} {R} {K} {E} {L} {A} {C} sys commands tree trees = record {
  way = λ state source request. way_numbered state.count source (tree state.now request) ∙ ap (λ (way : ModelWalk E L). walk_numbered state.count way) (trees.way state.now (unnumbered source) request);
  apart = λ state request. apart_numbered state.count [] (tree state.now request) (trees.apart state.now request);
}

-- its walks have the targets of the system's
pub aimed_late : {S T R K E L A C : Type 0} (sys : System S T R K E L A) (commands : Commands S T E C) (state : Late S C) (step : T) (target : Option R) → aimed sys state.now step target ≡ aimed (late sys commands) state step target
aimed_late sys commands state step None = refl
aimed_late sys commands state step (Some request) = refl
