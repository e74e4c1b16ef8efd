-- The walks of a thorough system are trees and lead where the system's do, and a run whose caches drop at once is one of it.
use Rattle.std.proofs.Common.{◌≡◌, ◌∙◌, ◌⊎◌, ◌||◌, ℕ, Bool, true, false, List, [], ◌∷◌, Option, Some, None, if◌then◌else◌, refl, sym, ap, subst, inl, inr}
use Rattle.std.specs.Prelude.{map}
use Rattle.iom_choices.specs.Systems.{System, IsAmong, ModelWalk, led_of, reads_of}
use Rattle.iom_choices.specs.Models.{IsRun, Run, entries_in}
use Rattle.iom_choices.specs.Settled.{EachUse}
use Rattle.iom_choices.specs.Trees.{AreTrees, Ends, IsApart, Looks, Tree, picked, way_over}
use Rattle.iom_choices.specs.Late.{Commands, DropsNamed, IsLateRun, Late, is_named, late, late_at, numbered_by, pending_at, unnumbered}
use Rattle.iom_choices.specs.Thorough.{IsThoroughRun, Making, is_due, lends_due, marked_by, plain_of, thorough, thorough_tree, tree_marked, unmarked, walk_marked}
use Rattle.iom_choices.proofs.Late.{and_false, late_run_is, late_spared}
use Rattle.iom_choices.proofs.Traces.{IsImage, among_mapped, image_of}

-- trees with marks
picked_unmarked : {K E : Type 0} (fits : K → E → Bool) (source : List (K × (E × Option ℕ))) →
    plain_of (picked (λ (other : K) (held : E × Option ℕ). fits other held.0) source) ≡ picked fits (unmarked source)
picked_unmarked fits [] = refl
picked_unmarked {K} {E} fits (used ∷ source) =
    let Goal : Bool → Type 0 = λ b.
    plain_of (if b then Some used.1 else picked (λ (other : K) (held : E × Option ℕ). fits other held.0) source)
    ≡ (if b then Some used.1.0 else picked fits (unmarked source)) in
    let by_test : (b : Bool) → Goal b = λ b. elim b as Goal [
      | true ↦ refl
      | false ↦ picked_unmarked fits source
    ] in by_test (fits used.0 used.1.0)

-- what is picked of uses that aren't due isn't due
picked_spared : {K E : Type 0} (making : Making E) (due : E × Option ℕ → Bool) (fits : K → E → Bool) (source : List (K × (E × Option ℕ))) → EachUse (λ (held : E × Option ℕ). due held ≡ false) source →
    lends_due making due (picked (λ (other : K) (held : E × Option ℕ). fits other held.0) source) ≡ false
picked_spared making due fits [] each = refl
picked_spared {K} {E} making due fits (used ∷ source) each =
    let Goal : Bool → Type 0 = λ b. lends_due making due (if b then Some used.1 else picked (λ (other : K) (held : E × Option ℕ). fits other held.0) source) ≡ false in
    let by_test : (b : Bool) → Goal b = λ b. elim b as Goal [
      | true ↦ and_false (making.lends used.1.0) (due used.1) each.0
      | false ↦ picked_spared making due fits source each.1
    ] in by_test (fits used.0 used.1.0)

module _ {K E L : Type 0} (making : Making E) (due : E × Option ℕ → Bool) (number : ℕ) where
  apart_marked : (helped : Bool) (asked : List K) (tree : Tree K E L) → IsApart asked tree → IsApart asked (tree_marked making due number helped tree)
  apart_marked helped asked (Ends way) h = tt
  apart_marked helped asked (Looks look fits more) h =
      (h.0, (λ other held is. h.1 other held.0 is), λ used. apart_marked (helped || lends_due making due used) (look ∷ asked) (more (plain_of used)) (h.2 (plain_of used)))

  led_marked : (source : List (K × (E × Option ℕ))) (helped : Bool) (tree : Tree K E L) → (way_over source (tree_marked making due number helped tree)).led ≡ (way_over (unmarked source) tree).led
  led_marked source helped (Ends way) = refl
  led_marked source helped (Looks look fits more) =
      let used : Option (E × Option ℕ) = picked (λ (other : K) (held : E × Option ℕ). fits other held.0) source in
      led_marked source (helped || lends_due making due used) (more (plain_of used))
      ∙ ap (λ (used : Option E). (way_over (unmarked source) (more used)).led) (picked_unmarked fits source)

  -- a walk that uses nothing that is due
  way_spared : (source : List (K × (E × Option ℕ))) → EachUse (λ (held : E × Option ℕ). due held ≡ false) source → (tree : Tree K E L) →
      way_over source (tree_marked making due number false tree) ≡ walk_marked making number false (way_over (unmarked source) tree)
  way_spared source each (Ends way) = refl
  way_spared source each (Looks look fits more) =
      let used : Option (E × Option ℕ) = picked (λ (other : K) (held : E × Option ℕ). fits other held.0) source in
      ap (λ (helped : Bool). way_over source (tree_marked making due number helped (more (plain_of used)))) (picked_spared making due fits source each)
      ∙ way_spared source each (more (plain_of used))
      ∙ ap (λ (used : Option E). walk_marked making number false (way_over (unmarked source) (more used))) (picked_unmarked fits source)

pub thorough_trees : {S T R K E L A C : Type 0} (sys : System S T R K E L A) (commands : Commands S T E C) (making : Making E) (tree : S → R → Tree K E L) → AreTrees sys tree →
    AreTrees (thorough sys commands making tree) (thorough_tree commands making tree)
thorough_trees sys commands making tree trees = record {
  way = λ state source request. refl;
  apart = λ state request. apart_marked making (is_due commands state.pending) state.count false [] (tree state.now request) (trees.apart state.now request);
}

pub thorough_led : {S T R K E L A C : Type 0} (sys : System S T R K E L A) (commands : Commands S T E C) (making : Making E) (tree : S → R → Tree K E L) → AreTrees sys tree →
    (state : Late S C) (source : List (K × (E × Option ℕ))) (request : R) →
    ((thorough sys commands making tree).way state source request).led ≡ (sys.way state.now (unmarked source) request).led
thorough_led {S} {T} {R} {K} {E} {L} sys commands making tree trees state source request =
    led_marked making (is_due commands state.pending) state.count source false (tree state.now request)
    ∙ ap (λ (way : ModelWalk E L). way.led) (trees.way state.now (unmarked source) request)

-- A late run's uses, with marks. None of them is due.
abbrev stamped : {E : Type 0} → E × ℕ → E × Option ℕ
stamped held = (held.0, Some held.1)

abbrev stamped_uses : {K E : Type 0} → List (K × (E × ℕ)) → List (K × (E × Option ℕ))
stamped_uses {K} {E} source = map (λ (used : K × (E × ℕ)). let each : K × (E × Option ℕ) = (used.0, stamped used.1) in each) source

stamped_same : {K E : Type 0} (source : List (K × (E × ℕ))) → unmarked (stamped_uses source) ≡ unnumbered source
stamped_same [] = refl
stamped_same {K} {E} (used ∷ source) = ap (λ (rest : List (K × E)). (used.0, used.1.0) ∷ rest) (stamped_same source)

stamped_entries : {K E : Type 0} (source : List (K × (E × ℕ))) → entries_in (stamped_uses source) ≡ map stamped (entries_in source)
stamped_entries [] = refl
stamped_entries {K} {E} (used ∷ source) = ap (λ (rest : List (E × Option ℕ)). stamped used.1 ∷ rest) (stamped_entries source)

stamped_each : {K E : Type 0} (P : E × Option ℕ → Type 0) (source : List (K × (E × ℕ))) → EachUse (λ (held : E × ℕ). P (stamped held)) source → EachUse P (stamped_uses source)
stamped_each P [] each = tt
stamped_each P (used ∷ source) each = (each.0, stamped_each P source each.1)

among_marked : {E : Type 0} (making : Making E) (number : ℕ) (entries : List E) (held : E × ℕ) → IsAmong (numbered_by number entries) held → IsAmong (map (marked_by making number false) entries) (stamped held)
among_marked making number [] held h = absurd h
among_marked making number (entry ∷ entries) held (inl same) = inl (ap stamped same)
among_marked making number (entry ∷ entries) held (inr h) = inr (among_marked making number entries held h)

module _ {S T R K E L A C : Type 0} (sys : System S T R K E L A) (commands : Commands S T E C) (making : Making E) (tree : S → R → Tree K E L) (trees : AreTrees sys tree) where
  led_stamped : (state : Late S C) (source : List (K × (E × ℕ))) (request : Option R) →
      led_of (late sys commands) state source request ≡ led_of (thorough sys commands making tree) state (stamped_uses source) request
  led_stamped state source None = refl
  led_stamped state source (Some request) =
      ap (λ (uses : List (K × E)). Some (sys.way state.now uses request).led) (sym (stamped_same source))
      ∙ ap Some (sym (thorough_led sys commands making tree trees state (stamped_uses source) request))

  reads_stamped : (state : Late S C) (source : List (K × (E × ℕ))) → EachUse (λ (held : E × ℕ). is_named commands state.pending held ≡ false) source → (request : Option R) (held : E × ℕ) →
      IsAmong (reads_of (late sys commands) state source request) held → IsAmong (reads_of (thorough sys commands making tree) state (stamped_uses source) request) (stamped held)
  reads_stamped state source each None held h = absurd h
  reads_stamped state source each (Some request) held h =
      let due : E × Option ℕ → Bool = is_due commands state.pending in
      let uses : List (K × (E × Option ℕ)) = stamped_uses source in
      let is : way_over uses (thorough_tree commands making tree state request) ≡ walk_marked making state.count false (sys.way state.now (unnumbered source) request) =
      way_spared making due state.count uses (stamped_each (λ (held : E × Option ℕ). due held ≡ false) source each) (tree state.now request)
      ∙ ap (walk_marked making state.count false) (trees.way state.now (unmarked uses) request ∙ ap (λ (uses : List (K × E)). sys.way state.now uses request) (stamped_same source)) in
      subst (λ (way : ModelWalk (E × Option ℕ) L). IsAmong way.reads (stamped held)) (sym is)
      (among_marked making state.count (sys.way state.now (unnumbered source) request).reads held h)

  among_stamped : (source : List (K × (E × ℕ))) (held : E × ℕ) → IsAmong (entries_in source) held → IsAmong (entries_in (stamped_uses source)) (stamped held)
  among_stamped source held h = subst (λ (entries : List (E × Option ℕ)). IsAmong entries (stamped held)) (sym (stamped_entries source)) (among_mapped stamped (entries_in source) held h)

  pub thorough_run_is : DropsNamed sys commands → (run : Run S T K E A) → IsRun sys run → IsThoroughRun sys commands making tree run
  thorough_run_is named run is =
      let l : IsLateRun sys commands run = late_run_is sys commands named run is in
      let led : (steps : List T) (step : T) → led_of (late sys commands) (late_at commands run.at steps) (l.numbered steps) (sys.asked (run.at steps) step)
      ≡ led_of (thorough sys commands making tree) (late_at commands run.at steps) (stamped_uses (l.numbered steps)) (sys.asked (run.at steps) step) =
      λ steps step. led_stamped (late_at commands run.at steps) (l.numbered steps) (sys.asked (run.at steps) step) in
      record {
        marked = λ steps. stamped_uses (l.numbered steps);
        same = λ steps. stamped_same (l.numbered steps) ∙ l.same steps;
        is = record {
          none = ap stamped_uses l.is.none;
          state = λ steps step. l.is.state steps step ∙ ap ((late sys commands).after (late_at commands run.at steps) step) (led steps step);
          answer = λ steps step. l.is.answer steps step ∙ ap (sys.reply (run.at steps) step) (led steps step);
          kept = λ steps step held h.
              let m : IsImage stamped (entries_in (l.numbered (step ∷ steps))) held =
              image_of stamped (entries_in (l.numbered (step ∷ steps))) held (subst (λ (entries : List (E × Option ℕ)). IsAmong entries held) (stamped_entries (l.numbered (step ∷ steps))) h) in
              let k = l.is.kept steps step m.source m.among in
              let Kept : E × Option ℕ → Type 0 = λ held.
              ((thorough sys commands making tree).drops (late_at commands run.at steps) step held ≡ false)
              × (IsAmong (entries_in (stamped_uses (l.numbered steps))) held
              ⊎ IsAmong (reads_of (thorough sys commands making tree) (late_at commands run.at steps) (stamped_uses (l.numbered steps)) (sys.asked (run.at steps) step)) held) in
              let spared : EachUse (λ (held : E × ℕ). is_named commands (pending_at commands run.at steps) held ≡ false) (l.numbered steps) = late_spared sys commands named run is steps in
              let kept : Kept (stamped m.source) = (
                k.0,
                elim k.1 [
                  | inl old ↦ inl (among_stamped (l.numbered steps) m.source old)
                  | inr new ↦ inr (reads_stamped (late_at commands run.at steps) (l.numbered steps) spared (sys.asked (run.at steps) step) m.source new)
                ],
              ) in
              subst Kept m.is kept;
        };
      }
