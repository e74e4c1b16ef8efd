-- What the system may be after a trace, by the fold, is what some choices make it.
use Rattle.std.proofs.Common.{◌≡◌, ◌∙◌, ◌++◌, not, Bool, true, List, [], ◌∷◌, Option, Some, None, refl, sym, ap, subst, inl, inr, append_assoc}
use Rattle.std.specs.Prelude.{filter, flat_map, map}
use Rattle.std.specs.List.{AllByRecursion}
use Rattle.iom_choices.specs.Systems.{System, ModelWalk, IsAmong, aimed, led_of, reads_of}
use Rattle.iom_choices.specs.Choices.{Choice, Holder, Walk, end_as, gained, led_as, looked, next_as, numbered, read_by, undropped}
use Rattle.iom_choices.specs.Settled.{EachUse}
use Rattle.iom_choices.specs.Trees.{AreAhead, AreTrees, Tree, ahead_reads, reads_at, reads_in, way_over, ways_of, ways_over}
use Rattle.iom_choices.specs.Traces.{IsAllowed, Shows, held_behind, is_any, leds_of, possible_after, possible_behind}
use Rattle.iom_choices.proofs.Lists.{IsFrom, IsPassed, among-left, among-right, among_either, among_flat, each_append, each_of, filter_all, passed}
use Rattle.iom_choices.proofs.Numbers.{AreAt, AreUsed, among_numbered, each_looked, numbers_of, uses_of}
use Rattle.iom_choices.proofs.Reached.{AreWalks, Read, read_of, walks_of}
use Rattle.iom_choices.proofs.Trees.{IsFromOne, from_one, IsAllowed as IsAllowedWay, aimed_ahead, aimed_listed, allowed, among_filter, among_map, way_among}

-- lists
pub among_mapped : {X Y : Type 0} (f : X → Y) (xs : List X) (x : X) → IsAmong xs x → IsAmong (map f xs) (f x)
among_mapped f [] x h = absurd h
among_mapped f (y ∷ xs) x (inl same) = inl (ap f same)
among_mapped f (y ∷ xs) x (inr h) = inr (among_mapped f xs x h)

flat_append : {X Y : Type 0} (f : X → List Y) (xs more : List X) → flat_map f (xs ++ more) ≡ flat_map f xs ++ flat_map f more
flat_append f [] more = refl
flat_append {X} {Y} f (x ∷ xs) more = ap (λ (ys : List Y). f x ++ ys) (flat_append f xs more) ∙ sym (append_assoc (f x) (flat_map f xs) (flat_map f more))

pub record IsImage {X Y : Type 0} (f : X → Y) (xs : List X) (y : Y) : Type 0 where
  pub source : X
  pub among : IsAmong xs source
  pub is : f source ≡ y

pub image_of : {X Y : Type 0} (f : X → Y) (xs : List X) (y : Y) → IsAmong (map f xs) y → IsImage f xs y
image_of f [] y h = absurd h
image_of f (x ∷ xs) y (inl same) = record { source = x; among = inl refl; is = same }
image_of f (x ∷ xs) y (inr h) = let k : IsImage f xs y = image_of f xs y h in record { source = k.source; among = inr k.among; is = k.is }

-- Each run is covered: one of the possible has its state, and holds at least what it holds.
pub record IsCovered {S E : Type 0} (possible : List (Holder S E)) (i : Holder S E) : Type 0 where
  pub one : Holder S E
  pub among : IsAmong possible one
  pub state : i.state ≡ one.state
  pub holds : (entry : E) → IsAmong i.holds entry → IsAmong one.holds entry

led_among : {S T R K E L A : Type 0} (sys : System S T R K E L A) (tree : S → R → Tree K E L) → AreTrees sys tree → (state : S) (held : List E) (source : List (K × E)) →
    EachUse (IsAmong held) source → (request : Option R) → IsAmong (leds_of tree state held request) (led_of sys state source request)
led_among sys tree trees state held source each None = inl refl
led_among {S} {T} {R} {K} {E} {L} sys tree trees state held source each (Some request) =
    let f : ModelWalk E L → Option L = λ way. Some way.led in
    subst (λ (way : ModelWalk E L). IsAmong (map f (ways_over held (tree state request))) (Some way.led)) (trees.way state source request)
    (among_mapped f (ways_over held (tree state request)) (way_over source (tree state request)) (way_among held [] (tree state request) (trees.apart state request) source each))

pub covered_step : {S T R K E L A O : Type 0} (sys : System S T R K E L A) (tree : S → R → Tree K E L) → AreTrees sys tree → (requests : List R) → AreAhead sys requests → (fits : A → O → Bool) →
    (i one : Holder S E) → i.state ≡ one.state → ((entry : E) → IsAmong i.holds entry → IsAmong one.holds entry) →
    (step : T) (choice : Choice R K) (seen : O) → fits (sys.reply i.state step (led_as sys i step choice)) seen ≡ true →
    IsCovered (possible_behind sys tree requests fits (step, seen) one) (next_as sys i step choice)
covered_step {S} {T} {R} {K} {E} {L} {A} {O} sys tree trees requests ahead fits i one state holds step choice seen fit =
    let source : List (K × E) = looked i.holds choice.uses in
    let asked : Option R = sys.asked one.state step in
    let led : Option L = led_of sys one.state source asked in
    let led_is : led_as sys i step choice ≡ led = λ n. led_of sys (state n) source (sys.asked (state n) step) in
    let fits_too : fits (sys.reply one.state step led) seen ≡ true = sym (λ n. fits (sys.reply (state n) step (led_is n)) seen) ∙ fit in
    let leds : List (Option L) = leds_of tree one.state one.holds asked in
    let walks : List (Walk R K) = record { target = None; uses = choice.uses } ∷ choice.again in
    let reads : List E = reads_at sys tree requests one.state one.holds step in
    let test : Option L → Bool = λ led. fits (sys.reply one.state step led) seen in
    let next : Option L → Holder S E = λ led. record { state = sys.after one.state step led; holds = held_behind sys tree requests one step } in
    let read_too : (entry : E) → IsFrom (read_by sys i step) entry → IsAmong reads entry = λ entry f.
    aimed_listed sys tree trees requests ahead one.holds one.state step (looked i.holds f.source.uses) (each_looked (IsAmong one.holds) i.holds f.source.uses holds) entry f.source.target
    (subst (λ (s : S). IsAmong (reads_of sys s (looked i.holds f.source.uses) (aimed sys s step f.source.target)) entry) state f.among) in
    record {
      one = next led;
      among = among_mapped next (filter test leds) led
          (among_filter test leds led (led_among sys tree trees one.state one.holds source (each_looked (IsAmong one.holds) i.holds choice.uses holds) asked) fits_too);
      state = λ n. sys.after (state n) step (led_is n);
      holds = λ entry held.
          let p : IsPassed (λ (entry : E). not (sys.drops i.state step entry)) (numbered (gained sys i step choice) choice.keeps) entry = passed _ _ entry held in
          let before : IsAmong (one.holds ++ reads) entry =
          elim (among_either i.holds (flat_map (read_by sys i step) walks) entry (among_numbered (i.holds ++ flat_map (read_by sys i step) walks) choice.keeps entry p.among)) [
            | inl old ↦ among-left one.holds reads entry (holds entry old)
            | inr read ↦ among-right one.holds reads entry (read_too entry (among_flat (read_by sys i step) walks entry read))
          ] in
          among_filter (λ (entry : E). not (sys.drops one.state step entry)) (one.holds ++ reads) entry before
          (subst (λ (s : S). not (sys.drops s step entry) ≡ true) state p.passes);
    }

pub covered_next : {S T R K E L A O : Type 0} (sys : System S T R K E L A) (tree : S → R → Tree K E L) → AreTrees sys tree → (requests : List R) → AreAhead sys requests → (fits : A → O → Bool) →
    (all : List (Holder S E)) (i : Holder S E) → IsCovered all i → (step : T) (choice : Choice R K) (seen : T × O) → step ≡ seen.0 →
    fits (sys.reply i.state step (led_as sys i step choice)) seen.1 ≡ true →
    IsCovered (flat_map (possible_behind sys tree requests fits seen) all) (next_as sys i step choice)
covered_next {S} {T} {R} {K} {E} sys tree trees requests ahead fits all i c step choice seen same fit =
    let k : IsCovered (possible_behind sys tree requests fits (step, seen.1) c.one) (next_as sys i step choice) =
    covered_step sys tree trees requests ahead fits i c.one c.state c.holds step choice seen.1 fit in
    record {
      one = k.one;
      among = among_map (possible_behind sys tree requests fits seen) all c.one k.one c.among
          (subst (λ (step : T). IsAmong (possible_behind sys tree requests fits (step, seen.1) c.one) k.one) same k.among);
      state = k.state;
      holds = k.holds;
    }

pub covered : {S T R K E L A O : Type 0} (sys : System S T R K E L A) (tree : S → R → Tree K E L) → AreTrees sys tree → (requests : List R) → AreAhead sys requests → (fits : A → O → Bool) →
    (start : S) (chosen : List (T × Choice R K)) (trace : List (T × O)) → Shows sys fits start chosen trace →
    IsCovered (possible_after sys tree requests fits start trace) (end_as sys start chosen)
covered sys tree trees requests ahead fits start [] [] shows = record { one = record { state = start; holds = [] }; among = inl refl; state = refl; holds = λ entry h. h }
covered sys tree trees requests ahead fits start [] (seen ∷ trace) shows = absurd shows
covered sys tree trees requests ahead fits start (last ∷ chosen) [] shows = absurd shows
covered sys tree trees requests ahead fits start (last ∷ chosen) (seen ∷ trace) shows =
    covered_next sys tree trees requests ahead fits (possible_after sys tree requests fits start trace) (end_as sys start chosen)
    (covered sys tree trees requests ahead fits start chosen trace shows.2) last.0 last.1 seen shows.0 shows.1

-- Each of the possible is reached by some choices.
pub record IsReached {S T R K E L A O : Type 0} (sys : System S T R K E L A) (fits : A → O → Bool) (start : S) (trace : List (T × O)) (one : Holder S E) : Type 0 where
  pub chosen : List (T × Choice R K)
  pub shows : Shows sys fits start chosen trace
  pub is : end_as sys start chosen ≡ one

record IsLed {S T R K E L A : Type 0} (sys : System S T R K E L A) (state : S) (held : List E) (request : Option R) (led : Option L) : Type 0 where
  source : List (K × E)
  each : EachUse (IsAmong held) source
  is : led_of sys state source request ≡ led

led_from : {S T R K E L A : Type 0} (sys : System S T R K E L A) (tree : S → R → Tree K E L) → AreTrees sys tree → (state : S) (held : List E) (request : Option R) (led : Option L) →
    IsAmong (leds_of tree state held request) led → IsLed sys state held request led
led_from sys tree trees state held None led (inl same) = record { source = []; each = tt; is = same }
led_from sys tree trees state held None led (inr h) = absurd h
led_from {S} {T} {R} {K} {E} {L} sys tree trees state held (Some request) led h =
    let f : ModelWalk E L → Option L = λ way. Some way.led in
    let m : IsImage f (ways_over held (tree state request)) led = image_of f (ways_over held (tree state request)) led h in
    let a : IsAllowedWay held [] (tree state request) m.source = allowed held [] (tree state request) (trees.apart state request) m.source m.among in
    record {
      source = a.source;
      each = a.each;
      is = ap f (sym (trees.way state a.source request) ∙ a.leads [] tt) ∙ m.is;
    }

-- walks that read these
record AreRead {S T R K E L A : Type 0} (sys : System S T R K E L A) (state : S) (step : T) (held : List E) (entries : List E) : Type 0 where
  reads : List (Read R K E)
  within : AllByRecursion (λ (read : Read R K E). EachUse (IsAmong held) read.source) reads
  are : flat_map (read_of sys state step) reads ≡ entries

read_both : {S T R K E L A : Type 0} (sys : System S T R K E L A) (state : S) (step : T) (held : List E) (some more : List E) →
    AreRead sys state step held some → AreRead sys state step held more → AreRead sys state step held (some ++ more)
read_both {S} {T} {R} {K} {E} sys state step held some more a b = record {
  reads = a.reads ++ b.reads;
  within = each_append (λ (read : Read R K E). EachUse (IsAmong held) read.source) a.reads b.reads a.within b.within;
  are = flat_append (read_of sys state step) a.reads b.reads ∙ (λ n. a.are n ++ b.are n);
}

ways_read : {S T R K E L A : Type 0} (sys : System S T R K E L A) (tree : S → R → Tree K E L) → AreTrees sys tree → (state : S) (step : T) (held : List E) (target : Option R) (request : R) →
    aimed sys state step target ≡ Some request → (ways : List (ModelWalk E L)) → AllByRecursion (IsAmong (ways_over held (tree state request))) ways → AreRead sys state step held (reads_in ways)
ways_read sys tree trees state step held target request is [] h = record { reads = []; within = tt; are = refl }
ways_read {S} {T} {R} {K} {E} {L} sys tree trees state step held target request is (way ∷ ways) h =
    let k : AreRead sys state step held (reads_in ways) = ways_read sys tree trees state step held target request is ways h.1 in
    let a : IsAllowedWay held [] (tree state request) way = allowed held [] (tree state request) (trees.apart state request) way h.0 in
    let one : reads_of sys state a.source (aimed sys state step target) ≡ way.reads =
    ap (reads_of sys state a.source) is ∙ ap (λ (way : ModelWalk E L). way.reads) (sym (trees.way state a.source request) ∙ a.leads [] tt) in
    record {
      reads = record { target = target; source = a.source } ∷ k.reads;
      within = (a.each, k.within);
      are = λ n. one n ++ k.are n;
    }

own_read : {S T R K E L A : Type 0} (sys : System S T R K E L A) (tree : S → R → Tree K E L) → AreTrees sys tree → (state : S) (step : T) (held : List E) (request : Option R) →
    sys.asked state step ≡ request → AreRead sys state step held (reads_in (ways_of tree state held request))
own_read sys tree trees state step held None is = record { reads = []; within = tt; are = refl }
own_read sys tree trees state step held (Some request) is =
    ways_read sys tree trees state step held None request is (ways_over held (tree state request)) (each_of _ (ways_over held (tree state request)) (λ way among. among))

ahead_read : {S T R K E L A : Type 0} (sys : System S T R K E L A) (tree : S → R → Tree K E L) → AreTrees sys tree → (state : S) (step : T) (held : List E) (requests : List R) →
    AllByRecursion (λ (request : R). sys.ahead request ≡ true) requests → AreRead sys state step held (flat_map (ahead_reads tree state held) requests)
ahead_read sys tree trees state step held [] each = record { reads = []; within = tt; are = refl }
ahead_read {S} {T} {R} {K} {E} {L} sys tree trees state step held (request ∷ requests) each =
    read_both sys state step held (ahead_reads tree state held request) (flat_map (ahead_reads tree state held) requests)
    (ways_read sys tree trees state step held (Some request) request (aimed_ahead sys state step request each.0) (ways_over held (tree state request))
    (each_of _ (ways_over held (tree state request)) (λ way among. among)))
    (ahead_read sys tree trees state step held requests each.1)

all_read : {S T R K E L A : Type 0} (sys : System S T R K E L A) (tree : S → R → Tree K E L) → AreTrees sys tree → (requests : List R) → AreAhead sys requests → (state : S) (step : T) (held : List E) →
    AreRead sys state step held (reads_at sys tree requests state held step)
all_read {S} {T} {R} sys tree trees requests ahead state step held =
    read_both sys state step held _ _
    (ahead_read sys tree trees state step held requests (each_of (λ (request : R). sys.ahead request ≡ true) requests ahead.each))
    (own_read sys tree trees state step held (sys.asked state step) refl)

pub record IsStep {S T R K E L A O : Type 0} (sys : System S T R K E L A) (fits : A → O → Bool) (before : Holder S E) (step : T) (seen : O) (next : Holder S E) : Type 0 where
  pub choice : Choice R K
  pub fit : fits (sys.reply before.state step (led_as sys before step choice)) seen ≡ true
  pub is : next_as sys before step choice ≡ next

pub step_to : {S T R K E L A O : Type 0} (sys : System S T R K E L A) (tree : S → R → Tree K E L) → AreTrees sys tree → (requests : List R) → AreAhead sys requests → (fits : A → O → Bool) →
    (before : Holder S E) (step : T) (seen : O) (next : Holder S E) → IsAmong (possible_behind sys tree requests fits (step, seen) before) next → IsStep sys fits before step seen next
step_to {S} {T} {R} {K} {E} {L} {A} {O} sys tree trees requests ahead fits before step seen next h =
    let state : S = before.state in
    let held : List E = before.holds in
    let asked : Option R = sys.asked state step in
    let leds : List (Option L) = leds_of tree state held asked in
    let reads : List E = reads_at sys tree requests state held step in
    let wanted : List E = held_behind sys tree requests before step in
    let test : Option L → Bool = λ led. fits (sys.reply state step led) seen in
    let make : Option L → Holder S E = λ led. record { state = sys.after state step led; holds = wanted } in
    let m : IsImage make (filter test leds) next = image_of make (filter test leds) next h in
    let p : IsPassed test leds m.source = passed test leds m.source m.among in
    let l : IsLed sys state held asked m.source = led_from sys tree trees state held asked m.source p.among in
    let u : AreUsed held l.source = uses_of held l.source l.each in
    let r : AreRead sys state step held reads = all_read sys tree trees requests ahead state step held in
    let w : AreWalks sys before step r.reads = walks_of sys before step r.reads r.within in
    let first : List E = read_by sys before step (record { target = None; uses = u.uses }) in
    let rest : List E = flat_map (read_by sys before step) w.walks in
    let rest_is : rest ≡ reads = w.are ∙ r.are in
    let spared : E → Bool = λ entry. not (sys.drops state step entry) in
    let in_gained : (e : E) → IsAmong wanted e → IsAmong (held ++ (first ++ rest)) e = λ e among.
    let q : IsPassed spared (held ++ reads) e = passed spared (held ++ reads) e among in
    elim (among_either held reads e q.among) [
      | inl old ↦ among-left held (first ++ rest) e old
      | inr new ↦ among-right held (first ++ rest) e (among-right first rest e (subst (λ (xs : List E). IsAmong xs e) (sym rest_is) new))
    ] in
    let n : AreAt (held ++ (first ++ rest)) wanted = numbers_of (held ++ (first ++ rest)) wanted (each_of _ wanted in_gained) in
    let choice : Choice R K = record { uses = u.uses; again = w.walks; keeps = n.numbers } in
    let led : led_as sys before step choice ≡ m.source = (λ k. led_of sys state (u.are k) asked) ∙ l.is in
    let kept : undropped sys state step (numbered (gained sys before step choice) n.numbers) ≡ wanted =
    ap (undropped sys state step) n.are ∙ filter_all spared wanted (each_of _ wanted (λ e among. let q : IsPassed spared (held ++ reads) e = passed spared (held ++ reads) e among in q.passes)) in
    let to : next_as sys before step choice ≡ make m.source = λ k. record { state = sys.after state step (led k); holds = kept k } in
    record {
      choice = choice;
      fit = ap test led ∙ p.passes;
      is = to ∙ m.is;
    }

pub reached_next : {S T R K E L A O : Type 0} (sys : System S T R K E L A) (tree : S → R → Tree K E L) → AreTrees sys tree → (requests : List R) → AreAhead sys requests → (fits : A → O → Bool) →
    (start : S) (trace : List (T × O)) (before : Holder S E) → IsReached sys fits start trace before → (seen : T × O) (one : Holder S E) →
    IsAmong (possible_behind sys tree requests fits seen before) one → IsReached sys fits start (seen ∷ trace) one
reached_next {S} {T} {R} {K} {E} sys tree trees requests ahead fits start trace before b seen one h =
    let s : IsStep sys fits before seen.0 seen.1 one = step_to sys tree trees requests ahead fits before seen.0 seen.1 one h in
    let fit : (i : Holder S E) → Type 0 = λ i. fits (sys.reply i.state seen.0 (led_as sys i seen.0 s.choice)) seen.1 ≡ true in
    record {
      chosen = (seen.0, s.choice) ∷ b.chosen;
      shows = (refl, subst fit (sym b.is) s.fit, b.shows);
      is = ap (λ (i : Holder S E). next_as sys i seen.0 s.choice) b.is ∙ s.is;
    }

pub reached_trace : {S T R K E L A O : Type 0} (sys : System S T R K E L A) (tree : S → R → Tree K E L) → AreTrees sys tree → (requests : List R) → AreAhead sys requests → (fits : A → O → Bool) →
    (start : S) (trace : List (T × O)) (one : Holder S E) → IsAmong (possible_after sys tree requests fits start trace) one → IsReached sys fits start trace one
reached_trace sys tree trees requests ahead fits start [] one (inl same) = record { chosen = []; shows = tt; is = same }
reached_trace sys tree trees requests ahead fits start [] one (inr h) = absurd h
reached_trace {S} {T} {R} {K} {E} sys tree trees requests ahead fits start (seen ∷ trace) one h =
    let f : IsFromOne (possible_behind sys tree requests fits seen) (possible_after sys tree requests fits start trace) one =
    from_one (possible_behind sys tree requests fits seen) (possible_after sys tree requests fits start trace) one h in
    reached_next sys tree trees requests ahead fits start trace f.source (reached_trace sys tree trees requests ahead fits start trace f.source f.at) seen one f.among

-- the decision
pub any_of : {X : Type 0} (xs : List X) (x : X) → IsAmong xs x → is_any xs ≡ true
any_of [] x h = absurd h
any_of (y ∷ xs) x h = refl

pub allowed_possible : {S T R K E L A O : Type 0} (sys : System S T R K E L A) (tree : S → R → Tree K E L) → AreTrees sys tree → (requests : List R) → AreAhead sys requests → (fits : A → O → Bool) →
    (start : S) (trace : List (T × O)) → IsAllowed sys fits start trace → is_any (possible_after sys tree requests fits start trace) ≡ true
allowed_possible {S} {T} {R} {K} {E} sys tree trees requests ahead fits start trace a =
    let c : IsCovered (possible_after sys tree requests fits start trace) (end_as sys start a.chosen) = covered sys tree trees requests ahead fits start a.chosen trace a.shows in
    any_of (possible_after sys tree requests fits start trace) c.one c.among

pub record IsOne {X : Type 0} (xs : List X) : Type 0 where
  pub one : X
  pub among : IsAmong xs one

pub one_of : {X : Type 0} (xs : List X) → is_any xs ≡ true → IsOne xs
one_of [] h = absurd (cc)
one_of (x ∷ xs) h = record { one = x; among = inl refl }

pub possible_allowed : {S T R K E L A O : Type 0} (sys : System S T R K E L A) (tree : S → R → Tree K E L) → AreTrees sys tree → (requests : List R) → AreAhead sys requests → (fits : A → O → Bool) →
    (start : S) (trace : List (T × O)) → is_any (possible_after sys tree requests fits start trace) ≡ true → IsAllowed sys fits start trace
possible_allowed {S} {T} {R} {K} {E} sys tree trees requests ahead fits start trace any =
    let o : IsOne (possible_after sys tree requests fits start trace) = one_of (possible_after sys tree requests fits start trace) any in
    let r : IsReached sys fits start trace o.one = reached_trace sys tree trees requests ahead fits start trace o.one o.among in
    record { chosen = r.chosen; shows = r.shows }
