-- What a decider keeps of a system whose fences are thorough, without marks.
use Rattle.std.proofs.Common.{◌≡◌, ◌∙◌, ◌++◌, not, Bool, true, false, List, [], ◌∷◌, Option, Some, None, if◌then◌else◌, refl, sym, ap, subst, inl, inr}
use Rattle.std.specs.Prelude.{filter, flat_map, map, ℕ}
use Rattle.iom_choices.specs.Systems.{System, ModelWalk, IsAmong}
use Rattle.iom_choices.specs.Choices.{Choice, Holder, end_as, next_as}
use Rattle.iom_choices.specs.Late.{Commands, Late, is_fence_by, named_by}
use Rattle.iom_choices.specs.Marked.{AreMarked, AreMarkedAlike, IsBehindMarked, IsEndMarked, IsMoreMarked, Marked, fresh_reads, holds_behind, late_from, marked_behind, marks, outlasts_behind, spared_by}
use Rattle.iom_choices.specs.Thorough.{Making, entries_of_marked, thorough, thorough_tree}
use Rattle.iom_choices.specs.Traces.{IsOneAllowed, Shows, is_any, leds_of, onward, possible_behind}
use Rattle.iom_choices.specs.Trees.{AreAhead, AreTrees, Ends, Looks, Tree, ahead_reads, reads_at, reads_in, ways_of, ways_over}
use Rattle.iom_choices.proofs.Lists.{IsPassed, among-left, among-right, among_either, passed}
use Rattle.iom_choices.proofs.Marked.{both_more, marked_alike, run_numbered}
use Rattle.iom_choices.proofs.Thorough.{thorough_trees}
use Rattle.iom_choices.proofs.Traces.{IsCovered, IsImage, IsOne, IsStep, among_mapped, any_of, covered_step, image_of, one_of, step_to}
use Rattle.iom_choices.proofs.Trees.{IsFromOne, among_filter, among_map, from_one}

-- more that is held has more ways
ways_more : {K E L : Type 0} (held more : List E) → ((entry : E) → IsAmong held entry → IsAmong more entry) → (tree : Tree K E L) (way : ModelWalk E L) →
    IsAmong (ways_over held tree) way → IsAmong (ways_over more tree) way
ways_more held more sub (Ends own) way h = h
ways_more {K} {E} {L} held more sub (Looks look fits next) way h =
    let few : E → List (ModelWalk E L) = λ entry. ways_over held (next (Some entry)) in
    let many : E → List (ModelWalk E L) = λ entry. ways_over more (next (Some entry)) in
    elim (among_either (ways_over held (next None)) (flat_map few (filter (fits look) held)) way h) [
      | inl here ↦ among-left (ways_over more (next None)) (flat_map many (filter (fits look) more)) way (ways_more held more sub (next None) way here)
      | inr there ↦
          let f : IsFromOne few (filter (fits look) held) way = from_one few (filter (fits look) held) way there in
          let p : IsPassed (fits look) held f.source = passed (fits look) held f.source f.at in
          among-right (ways_over more (next None)) (flat_map many (filter (fits look) more)) way
          (among_map many (filter (fits look) more) f.source way (among_filter (fits look) more f.source (sub f.source p.among) p.passes)
          (ways_more held more sub (next (Some f.source)) way f.among))
    ]

leds_more : {S R K E L : Type 0} (tree : S → R → Tree K E L) (state : S) (held more : List E) → ((entry : E) → IsAmong held entry → IsAmong more entry) → (request : Option R) (led : Option L) →
    IsAmong (leds_of tree state held request) led → IsAmong (leds_of tree state more request) led
leds_more tree state held more sub None led h = h
leds_more {S} {R} {K} {E} {L} tree state held more sub (Some request) led h =
    let f : ModelWalk E L → Option L = λ way. Some way.led in
    let m : IsImage f (ways_over held (tree state request)) led = image_of f (ways_over held (tree state request)) led h in
    subst (IsAmong (map f (ways_over more (tree state request)))) m.is
    (among_mapped f (ways_over more (tree state request)) m.source (ways_more held more sub (tree state request) m.source m.among))

reads_more : {S R K E L : Type 0} (tree : S → R → Tree K E L) (state : S) (held more : List E) → ((entry : E) → IsAmong held entry → IsAmong more entry) → (request : Option R) (entry : E) →
    IsAmong (reads_in (ways_of tree state held request)) entry → IsAmong (reads_in (ways_of tree state more request)) entry
reads_more tree state held more sub None entry h = h
reads_more {S} {R} {K} {E} {L} tree state held more sub (Some request) entry h =
    let f : ModelWalk E L → List E = λ way. way.reads in
    let m : IsFromOne f (ways_over held (tree state request)) entry = from_one f (ways_over held (tree state request)) entry h in
    among_map f (ways_over more (tree state request)) m.source entry (ways_more held more sub (tree state request) m.source m.at) m.among

reads_at_more : {S T R K E L A : Type 0} (sys : System S T R K E L A) (tree : S → R → Tree K E L) (requests : List R) (state : S) (held more : List E) → ((entry : E) → IsAmong held entry → IsAmong more entry) →
    (step : T) (entry : E) → IsAmong (reads_at sys tree requests state held step) entry → IsAmong (reads_at sys tree requests state more step) entry
reads_at_more sys tree requests state held more sub step entry h =
    let few = ahead_reads tree state held in
    let many = ahead_reads tree state more in
    elim (among_either (flat_map few requests) (reads_in (ways_of tree state held (sys.asked state step))) entry h) [
      | inl early ↦
          let f : IsFromOne few requests entry = from_one few requests entry early in
          among-left (flat_map many requests) (reads_in (ways_of tree state more (sys.asked state step))) entry
          (among_map many requests f.source entry f.at (reads_more tree state held more sub (Some f.source) entry f.among))
      | inr own ↦ among-right (flat_map many requests) (reads_in (ways_of tree state more (sys.asked state step))) entry
          (reads_more tree state held more sub (sys.asked state step) entry own)
    ]

filter_more : {X : Type 0} (test : X → Bool) (xs more : List X) → ((x : X) → IsAmong xs x → IsAmong more x) → (x : X) → IsAmong (filter test xs) x → IsAmong (filter test more) x
filter_more {X} test xs more sub x h = let p : IsPassed test xs x = passed test xs x h in among_filter test more x (sub x p.among) p.passes

-- what holds more goes on to more
pub more_still : {S E : Type 0} (a b c : Marked S E) → IsMoreMarked a b → IsMoreMarked b c → IsMoreMarked a c
more_still a b c h k = record {
  state = h.state ∙ k.state;
  holds = λ entry held. k.holds entry (h.holds entry held);
  outlasts = λ entry held. k.outlasts entry (h.outlasts entry held);
}

more_same : {S E : Type 0} (a b : Marked S E) → a ≡ b → IsMoreMarked a b
more_same {S} {E} a b is = record {
  state = ap (λ (m : Marked S E). m.state) is;
  holds = λ entry held. subst (λ (m : Marked S E). IsAmong m.holds entry) is held;
  outlasts = λ entry held. subst (λ (m : Marked S E). IsAmong m.outlasts entry) is held;
}

-- and reads more freshly
fresh_more : {S T R K E L A : Type 0} (sys : System S T R K E L A) (making : Making E) (tree : S → R → Tree K E L) (requests : List R) (state : S) (held more outlasts longer : List E) →
    ((entry : E) → IsAmong held entry → IsAmong more entry) → ((entry : E) → IsAmong outlasts entry → IsAmong longer entry) → (step : T) (entry : E) →
    IsAmong (fresh_reads sys making tree requests (record { state = state; holds = held; outlasts = outlasts }) step) entry →
    IsAmong (fresh_reads sys making tree requests (record { state = state; holds = more; outlasts = longer }) step) entry
fresh_more {S} {T} {R} {K} {E} sys making tree requests state held more outlasts longer sub last step =
    let idle : E → Bool = λ entry. not (making.lends entry) in
    let unmade : E → Bool = λ entry. not (making.is_made entry) in
    let few : List E = filter idle held ++ filter making.lends outlasts in
    let many : List E = filter idle more ++ filter making.lends longer in
    let lasts : (entry : E) → IsAmong few entry → IsAmong many entry =
    both_more (filter idle held) (filter making.lends outlasts) (filter idle more) (filter making.lends longer) (filter_more idle held more sub) (filter_more making.lends outlasts longer last) in
    let reads : List E → List E = λ held. reads_at sys tree requests state held step in
    both_more (filter unmade (reads held)) (filter making.is_made (reads few)) (filter unmade (reads more)) (filter making.is_made (reads many))
    (filter_more unmade (reads held) (reads more) (reads_at_more sys tree requests state held more sub step))
    (filter_more making.is_made (reads few) (reads many) (reads_at_more sys tree requests state few many lasts step))

marked_there : {S T R K E L A C O : Type 0} (sys : System S T R K E L A) (commands : Commands S T E C) (making : Making E) (tree : S → R → Tree K E L) (requests : List R) (fits : A → O → Bool) (seen : T × O) (state : S)
    (held more outlasts longer : List E) → ((entry : E) → IsAmong held entry → IsAmong more entry) → ((entry : E) → IsAmong outlasts entry → IsAmong longer entry) → (next : Marked S E) →
    IsAmong (marked_behind sys commands making tree requests fits seen (record { state = state; holds = held; outlasts = outlasts })) next →
    IsBehindMarked (marked_behind sys commands making tree requests fits seen (record { state = state; holds = more; outlasts = longer })) next
marked_there {S} {T} {R} {K} {E} {L} {A} {C} {O} sys commands making tree requests fits seen state held more outlasts longer sub last next h =
    let one : Marked S E = record { state = state; holds = held; outlasts = outlasts } in
    let all : Marked S E = record { state = state; holds = more; outlasts = longer } in
    let step : T = seen.0 in
    let request : Option R = sys.asked state step in
    let executed : Option C = commands.executed state step in
    let test : Option L → Bool = λ led. fits (sys.reply state step led) seen.1 in
    let few : Option L → Marked S E = λ led. record {
      state = sys.after state step led;
      holds = holds_behind sys commands making tree requests one step;
      outlasts = outlasts_behind sys commands making tree requests one step;
    } in
    let many : Option L → Marked S E = λ led. record {
      state = sys.after state step led;
      holds = holds_behind sys commands making tree requests all step;
      outlasts = outlasts_behind sys commands making tree requests all step;
    } in
    let m : IsImage few (filter test (leds_of tree state held request)) next = image_of few (filter test (leds_of tree state held request)) next h in
    let reads : List E = reads_at sys tree requests state held step in
    let others : List E = reads_at sys tree requests state more step in
    let read_too : (entry : E) → IsAmong reads entry → IsAmong others entry = reads_at_more sys tree requests state held more sub step in
    let spare : E → Bool = λ entry. not (named_by commands executed entry) in
    let fresh_too : (entry : E) → IsAmong (fresh_reads sys making tree requests one step) entry → IsAmong (fresh_reads sys making tree requests all step) entry =
    fresh_more sys making tree requests state held more outlasts longer sub last step in
    let longer_too : (entry : E) → IsAmong (outlasts_behind sys commands making tree requests one step) entry → IsAmong (outlasts_behind sys commands making tree requests all step) entry =
    filter_more spare (outlasts ++ fresh_reads sys making tree requests one step) (longer ++ fresh_reads sys making tree requests all step)
    (both_more outlasts (fresh_reads sys making tree requests one step) longer (fresh_reads sys making tree requests all step) last fresh_too) in
    let Goal : Bool → Type 0 = λ b. (entry : E) → IsAmong (if b then outlasts_behind sys commands making tree requests one step else held ++ reads) entry →
    IsAmong (if b then outlasts_behind sys commands making tree requests all step else more ++ others) entry in
    let by_fence : (b : Bool) → Goal b = λ b. elim b as Goal [
      | true ↦ longer_too
      | false ↦ both_more held reads more others sub read_too
    ] in
    let is : IsMoreMarked (few m.source) (many m.source) = record { state = refl; holds = by_fence (is_fence_by commands executed); outlasts = longer_too } in
    record {
      more = many m.source;
      among = among_mapped many (filter test (leds_of tree state more request)) m.source
          (filter_more test (leds_of tree state held request) (leds_of tree state more request) (leds_more tree state held more sub request) m.source m.among);
      is = more_still next (few m.source) (many m.source) (more_same next (few m.source) (sym m.is)) is;
    }

pub marked_more : {S T R K E L A C O : Type 0} (sys : System S T R K E L A) (commands : Commands S T E C) (making : Making E) (tree : S → R → Tree K E L) (requests : List R) (fits : A → O → Bool) (seen : T × O) (one more : Marked S E) →
    IsMoreMarked one more → (next : Marked S E) → IsAmong (marked_behind sys commands making tree requests fits seen one) next → IsBehindMarked (marked_behind sys commands making tree requests fits seen more) next
marked_more {S} {T} {R} {K} {E} sys commands making tree requests fits seen one more is next h =
    subst (λ (s : S). IsBehindMarked (marked_behind sys commands making tree requests fits seen (record { state = s; holds = more.holds; outlasts = more.outlasts })) next) is.state
    (marked_there sys commands making tree requests fits seen one.state one.holds more.holds one.outlasts more.outlasts is.holds is.outlasts next h)

pub behind_still : {S E : Type 0} (all few : List (Marked S E)) → ((one : Marked S E) → IsAmong all one → IsBehindMarked few one) → (i : Marked S E) → IsBehindMarked all i → IsBehindMarked few i
behind_still {S} {E} all few each i h =
    let k : IsBehindMarked few h.more = each h.more h.among in record { more = k.more; among = k.among; is = more_still i h.more k.more h.is k.is }

-- a holder that holds more does so without numbers
marks_more : {S T E C : Type 0} (commands : Commands S T E C) (i j : Holder (Late S C) (E × Option ℕ)) → i.state ≡ j.state → ((held : E × Option ℕ) → IsAmong i.holds held → IsAmong j.holds held) →
    IsMoreMarked (marks commands i) (marks commands j)
marks_more {S} {T} {E} {C} commands i j state holds =
    let plain : E × Option ℕ → E = λ held. held.0 in
    let image : (xs ys : List (E × Option ℕ)) → ((held : E × Option ℕ) → IsAmong xs held → IsAmong ys held) → (entry : E) → IsAmong (entries_of_marked xs) entry → IsAmong (entries_of_marked ys) entry =
    λ xs ys sub entry h.
    let m : IsImage plain xs entry = image_of plain xs entry h in
    subst (IsAmong (entries_of_marked ys)) m.is (among_mapped plain ys m.source (sub m.source m.among)) in
    record {
      state = ap (λ (s : Late S C). s.now) state;
      holds = image i.holds j.holds holds;
      outlasts = λ entry h. subst (λ (s : Late S C). IsAmong (entries_of_marked (filter (spared_by commands s.pending) j.holds)) entry) state
          (image (filter (spared_by commands i.state.pending) i.holds) (filter (spared_by commands i.state.pending) j.holds) (filter_more (spared_by commands i.state.pending) i.holds j.holds holds) entry h);
    }

-- a decider begins
begun_covers : {S T R K E L A C O : Type 0} (sys : System S T R K E L A) (commands : Commands S T E C) (making : Making E) (tree : S → R → Tree K E L) (fits : A → O → Bool) (start : S) (trace : List (T × O)) → IsAmong ([] ∷ []) trace → (chosen : List (T × Choice R K)) →
    Shows (thorough sys commands making tree) fits (late_from start) chosen trace →
    IsBehindMarked (record { state = start; holds = []; outlasts = [] } ∷ []) (marks commands (end_as (thorough sys commands making tree) (late_from start) chosen))
begun_covers sys commands making tree fits start [] none [] shows = record {
  more = record { state = start; holds = []; outlasts = [] };
  among = inl refl;
  is = record { state = refl; holds = λ entry h. h; outlasts = λ entry h. h };
}
begun_covers sys commands making tree fits start [] none (last ∷ chosen) shows = absurd shows
begun_covers sys commands making tree fits start (seen ∷ trace) (inl same) chosen shows = absurd (cc)
begun_covers sys commands making tree fits start (seen ∷ trace) (inr h) chosen shows = absurd h

begun_reached : {S T R K E L A C O : Type 0} (sys : System S T R K E L A) (commands : Commands S T E C) (making : Making E) (tree : S → R → Tree K E L) (fits : A → O → Bool) (start : S) (one : Marked S E) →
    IsAmong (record { state = start; holds = []; outlasts = [] } ∷ []) one → IsEndMarked sys commands making tree fits start ([] ∷ []) one
begun_reached {S} {T} {R} {K} {E} sys commands making tree fits start one (inl same) = record {
  trace = [];
  among = inl refl;
  chosen = [];
  shows = tt;
  is = more_same one (record { state = start; holds = []; outlasts = [] }) (sym same);
}
begun_reached sys commands making tree fits start one (inr h) = absurd h

pub begun : {S T R K E L A C O : Type 0} (sys : System S T R K E L A) (commands : Commands S T E C) (making : Making E) (tree : S → R → Tree K E L) (fits : A → O → Bool) (start : S) →
    AreMarked sys commands making tree fits start ([] ∷ []) (record { state = start; holds = []; outlasts = [] } ∷ [])
begun sys commands making tree fits start = record { covers = begun_covers sys commands making tree fits start; reached = begun_reached sys commands making tree fits start }

-- and goes on
module _ {S T R K E L A C O : Type 0} (sys : System S T R K E L A) (commands : Commands S T E C) (making : Making E) (tree : S → R → Tree K E L) (trees : AreTrees sys tree) (requests : List R) (ahead : AreAhead (thorough sys commands making tree) requests)
    (fits : A → O → Bool) (start : S) (traces : List (List (T × O))) (list : List (Marked S E)) (are : AreMarked sys commands making tree fits start traces list) (seen : T × O) where
  next_covers : (trace : List (T × O)) → IsAmong traces trace → (chosen : List (T × Choice R K)) → Shows (thorough sys commands making tree) fits (late_from start) chosen (seen ∷ trace) →
      IsBehindMarked (flat_map (marked_behind sys commands making tree requests fits seen) list) (marks commands (end_as (thorough sys commands making tree) (late_from start) chosen))
  next_covers trace among [] shows = absurd shows
  next_covers trace among (step ∷ chosen) shows =
      let i : Holder (Late S C) (E × Option ℕ) = end_as (thorough sys commands making tree) (late_from start) chosen in
      let next : Holder (Late S C) (E × Option ℕ) = next_as (thorough sys commands making tree) i step.0 step.1 in
      let b : IsBehindMarked list (marks commands i) = are.covers trace among chosen shows.2 in
      let c : IsCovered (possible_behind (thorough sys commands making tree) (thorough_tree commands making tree) requests fits (step.0, seen.1) i) next =
      covered_step (thorough sys commands making tree) (thorough_tree commands making tree) (thorough_trees sys commands making tree trees) requests ahead fits i i refl (λ entry h. h) step.0 step.1 seen.1 shows.1 in
      let same : IsAmong (possible_behind (thorough sys commands making tree) (thorough_tree commands making tree) requests fits seen i) c.one =
      subst (λ (step : T). IsAmong (possible_behind (thorough sys commands making tree) (thorough_tree commands making tree) requests fits (step, seen.1) i) c.one) shows.0 c.among in
      let all : List (Holder (Late S C) (E × Option ℕ)) = possible_behind (thorough sys commands making tree) (thorough_tree commands making tree) requests fits seen i in
      let alike : AreMarkedAlike (map (marks commands) all) (marked_behind sys commands making tree requests fits seen (marks commands i)) =
      marked_alike sys commands making tree requests fits seen i (run_numbered sys commands making tree start chosen) in
      let w : IsBehindMarked (marked_behind sys commands making tree requests fits seen (marks commands i)) (marks commands c.one) =
      alike.within (marks commands c.one) (among_mapped (marks commands) all c.one same) in
      let k : IsBehindMarked (marked_behind sys commands making tree requests fits seen b.more) w.more = marked_more sys commands making tree requests fits seen (marks commands i) b.more b.is w.more w.among in
      record {
        more = k.more;
        among = among_map (marked_behind sys commands making tree requests fits seen) list b.more k.more b.among k.among;
        is = more_still (marks commands next) (marks commands c.one) k.more (marks_more commands next c.one c.state c.holds) (more_still (marks commands c.one) w.more k.more w.is k.is);
      }

  on_covers : (trace : List (T × O)) → IsAmong (onward seen traces) trace → (chosen : List (T × Choice R K)) → Shows (thorough sys commands making tree) fits (late_from start) chosen trace →
      IsBehindMarked (flat_map (marked_behind sys commands making tree requests fits seen) list) (marks commands (end_as (thorough sys commands making tree) (late_from start) chosen))
  on_covers trace among chosen shows =
      let f : List (T × O) → List (T × O) = λ trace. seen ∷ trace in
      let m : IsImage f traces trace = image_of f traces trace among in
      next_covers m.source m.among chosen (subst (Shows (thorough sys commands making tree) fits (late_from start) chosen) (sym m.is) shows)

  on_reached : (one : Marked S E) → IsAmong (flat_map (marked_behind sys commands making tree requests fits seen) list) one → IsEndMarked sys commands making tree fits start (onward seen traces) one
  on_reached one h =
      let f : IsFromOne (marked_behind sys commands making tree requests fits seen) list one = from_one (marked_behind sys commands making tree requests fits seen) list one h in
      let r : IsEndMarked sys commands making tree fits start traces f.source = are.reached f.source f.at in
      let i : Holder (Late S C) (E × Option ℕ) = end_as (thorough sys commands making tree) (late_from start) r.chosen in
      let all : List (Holder (Late S C) (E × Option ℕ)) = possible_behind (thorough sys commands making tree) (thorough_tree commands making tree) requests fits seen i in
      let b : IsBehindMarked (marked_behind sys commands making tree requests fits seen (marks commands i)) one = marked_more sys commands making tree requests fits seen f.source (marks commands i) r.is one f.among in
      let alike : AreMarkedAlike (map (marks commands) all) (marked_behind sys commands making tree requests fits seen (marks commands i)) =
      marked_alike sys commands making tree requests fits seen i (run_numbered sys commands making tree start r.chosen) in
      let w : IsBehindMarked (map (marks commands) all) b.more = alike.enough b.more b.among in
      let m : IsImage (marks commands) all w.more = image_of (marks commands) all w.more w.among in
      let s : IsStep (thorough sys commands making tree) fits i seen.0 seen.1 m.source =
      step_to (thorough sys commands making tree) (thorough_tree commands making tree) (thorough_trees sys commands making tree trees) requests ahead fits i seen.0 seen.1 m.source m.among in
      let onto : List (T × O) → List (T × O) = λ trace. seen ∷ trace in
      record {
        trace = seen ∷ r.trace;
        among = among_mapped onto traces r.trace r.among;
        chosen = (seen.0, s.choice) ∷ r.chosen;
        shows = (refl, s.fit, r.shows);
        is = more_still one b.more (marks commands (next_as (thorough sys commands making tree) i seen.0 s.choice)) b.is
            (more_still b.more w.more (marks commands (next_as (thorough sys commands making tree) i seen.0 s.choice)) w.is
            (more_same w.more (marks commands (next_as (thorough sys commands making tree) i seen.0 s.choice)) (sym (ap (marks commands) s.is ∙ m.is))));
      }

  pub going_on : AreMarked sys commands making tree fits start (onward seen traces) (flat_map (marked_behind sys commands making tree requests fits seen) list)
  going_on = record { covers = on_covers; reached = on_reached }

-- a list that is alike is as good
pub alike_marked : {S T R K E L A C O : Type 0} (sys : System S T R K E L A) (commands : Commands S T E C) (making : Making E) (tree : S → R → Tree K E L) (fits : A → O → Bool) (start : S) (traces : List (List (T × O))) (list few : List (Marked S E)) →
    AreMarked sys commands making tree fits start traces list → AreMarkedAlike few list → AreMarked sys commands making tree fits start traces few
alike_marked {S} {T} {R} {K} {E} {L} {A} {C} {O} sys commands making tree fits start traces list few are alike = record {
  covers = λ trace among chosen shows.
      behind_still list few alike.enough (marks commands (end_as (thorough sys commands making tree) (late_from start) chosen)) (are.covers trace among chosen shows);
  reached = λ one among.
      let b : IsBehindMarked list one = alike.within one among in
      let r : IsEndMarked sys commands making tree fits start traces b.more = are.reached b.more b.among in
      record {
        trace = r.trace;
        among = r.among;
        chosen = r.chosen;
        shows = r.shows;
        is = more_still one b.more (marks commands (end_as (thorough sys commands making tree) (late_from start) r.chosen)) b.is r.is;
      };
}

pub goes_on : {S T R K E L A C O : Type 0} (sys : System S T R K E L A) (commands : Commands S T E C) (making : Making E) (tree : S → R → Tree K E L) → AreTrees sys tree → (requests : List R) → AreAhead (thorough sys commands making tree) requests → (fits : A → O → Bool) (start : S)
    (traces : List (List (T × O))) (list : List (Marked S E)) → AreMarked sys commands making tree fits start traces list → (seen : T × O) (next : List (Marked S E)) →
    AreMarkedAlike next (flat_map (marked_behind sys commands making tree requests fits seen) list) → AreMarked sys commands making tree fits start (onward seen traces) next
goes_on sys commands making tree trees requests ahead fits start traces list are seen next alike =
    alike_marked sys commands making tree fits start (onward seen traces) (flat_map (marked_behind sys commands making tree requests fits seen) list) next
    (going_on sys commands making tree trees requests ahead fits start traces list are seen) alike

pub joined : {S T R K E L A C O : Type 0} (sys : System S T R K E L A) (commands : Commands S T E C) (making : Making E) (tree : S → R → Tree K E L) (fits : A → O → Bool) (start : S) (traces others : List (List (T × O))) (list more : List (Marked S E)) →
    AreMarked sys commands making tree fits start traces list → AreMarked sys commands making tree fits start others more → AreMarked sys commands making tree fits start (traces ++ others) (list ++ more)
joined {S} {T} {R} {K} {E} {L} {A} {C} {O} sys commands making tree fits start traces others list more first second = record {
  covers = λ trace among chosen shows. elim (among_either traces others trace among) [
    | inl here ↦ let b = first.covers trace here chosen shows in record { more = b.more; among = among-left list more b.more b.among; is = b.is }
    | inr there ↦ let b = second.covers trace there chosen shows in record { more = b.more; among = among-right list more b.more b.among; is = b.is }
  ];
  reached = λ one among. elim (among_either list more one among) [
    | inl here ↦ let r = first.reached one here in record { trace = r.trace; among = among-left traces others r.trace r.among; chosen = r.chosen; shows = r.shows; is = r.is }
    | inr there ↦ let r = second.reached one there in record { trace = r.trace; among = among-right traces others r.trace r.among; chosen = r.chosen; shows = r.shows; is = r.is }
  ];
}

pub marked_decides : {S T R K E L A C O : Type 0} (sys : System S T R K E L A) (commands : Commands S T E C) (making : Making E) (tree : S → R → Tree K E L) (fits : A → O → Bool) (start : S) (traces : List (List (T × O))) (list : List (Marked S E)) →
    AreMarked sys commands making tree fits start traces list → is_any list ≡ true → IsOneAllowed (thorough sys commands making tree) fits (late_from start) traces
marked_decides {S} {T} {R} {K} {E} sys commands making tree fits start traces list are any =
    let o : IsOne list = one_of list any in
    let r : IsEndMarked sys commands making tree fits start traces o.one = are.reached o.one o.among in
    record { trace = r.trace; among = r.among; allowed = record { chosen = r.chosen; shows = r.shows } }

pub allowed_marked : {S T R K E L A C O : Type 0} (sys : System S T R K E L A) (commands : Commands S T E C) (making : Making E) (tree : S → R → Tree K E L) (fits : A → O → Bool) (start : S) (traces : List (List (T × O))) (list : List (Marked S E)) →
    AreMarked sys commands making tree fits start traces list → IsOneAllowed (thorough sys commands making tree) fits (late_from start) traces → is_any list ≡ true
allowed_marked {S} {T} {R} {K} {E} sys commands making tree fits start traces list are a =
    let b : IsBehindMarked list (marks commands (end_as (thorough sys commands making tree) (late_from start) a.allowed.chosen)) = are.covers a.trace a.among a.allowed.chosen a.allowed.shows in
    any_of list b.more b.among
