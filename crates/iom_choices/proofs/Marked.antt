-- What a thorough system may be, without marks, goes on from step to step as it does with marks.
use Rattle.std.proofs.Common.{◌≡◌, ◌∙◌, ◌++◌, ◌&&◌, ◌||◌, ◌<◌, ◌≤◌, ℕ, suc, not, Bool, true, false, List, [], ◌∷◌, Option, Some, None, if◌then◌else◌, refl, sym, ap, subst, inl, inr, arith}
use Rattle.std.proofs.Math.Nat.{lt-suc_self, lt_trans}
use Rattle.std.proofs.lemmas.Bool.{le-leb}
use Rattle.std.proofs.lemmas.List.{map-append}
use Rattle.std.proofs.lemmas.List.Elements.{filter-append}
use Rattle.std.specs.Prelude.{filter, flat_map, map}
use Rattle.std.specs.List.{AllByRecursion}
use Rattle.iom_choices.specs.Systems.{System, ModelWalk, IsAmong, aimed, reads_of}
use Rattle.iom_choices.specs.Choices.{Choice, Holder, Walk, end_as, gained, looked, next_as, numbered, read_by}
use Rattle.iom_choices.specs.Late.{Commands, Late, is_fence_by, is_named, left_pending, named_by, with_command}
use Rattle.iom_choices.specs.Marked.{AreMarkedAlike, IsMoreMarked, Marked, fresh_reads, holds_behind, lasting, late_from, marked_behind, marks, outlasts_behind, spared_by}
use Rattle.iom_choices.specs.Thorough.{Making, due_by, entries_of_marked, is_due, lends_due, marked_by, thorough, thorough_tree, tree_marked, walk_marked}
use Rattle.iom_choices.specs.Traces.{held_behind, leds_of, possible_behind}
use Rattle.iom_choices.specs.Trees.{Ends, Looks, Tree, ahead_reads, reads_at, reads_in, way_over, ways_of, ways_over}
use Rattle.iom_choices.proofs.Alike.{fails}
use Rattle.iom_choices.proofs.Late.{and_false, earlier_left, unnamed_fresh}
use Rattle.iom_choices.proofs.Lists.{IsFrom, IsPassed, among-left, among-right, among_either, among_flat, each_of, filter_all, passed}
use Rattle.iom_choices.proofs.Numbers.{among_numbered}
use Rattle.iom_choices.proofs.Traces.{IsImage, among_mapped, image_of}
use Rattle.iom_choices.proofs.Trees.{IsFromOne, among_filter, among_map, each_at, from_one}

-- walks over marked entries are those over the entries, with marks
abbrev plain : {E : Type 0} → E × Option ℕ → E
plain held = held.0

abbrev plain_way : {E L : Type 0} → ModelWalk (E × Option ℕ) L → ModelWalk E L
plain_way walk = record { led = walk.led; reads = entries_of_marked walk.reads }

unmarked_is : {E : Type 0} (making : Making E) (number : ℕ) (helped : Bool) (entries : List E) → entries_of_marked (map (marked_by making number helped) entries) ≡ entries
unmarked_is making number helped [] = refl
unmarked_is {E} making number helped (entry ∷ entries) = ap (λ (rest : List E). entry ∷ rest) (unmarked_is making number helped entries)

map_both : {X Y Z : Type 0} (g : Y → Z) (f : X → Y) (h : X → Z) → ((x : X) → g (f x) ≡ h x) → (xs : List X) → map g (map f xs) ≡ map h xs
map_both g f h each [] = refl
map_both g f h each (x ∷ xs) = λ n. each x n ∷ map_both g f h each xs n

flat_filter : {E X Y : Type 0} (test : E → Bool) (f : E × Option ℕ → List X) (g : E → List Y) (h : X → Y) → ((one : E × Option ℕ) → map h (f one) ≡ g one.0) → (held : List (E × Option ℕ)) →
    map h (flat_map f (filter (λ (one : E × Option ℕ). test one.0) held)) ≡ flat_map g (filter test (entries_of_marked held))
flat_filter test f g h each [] = refl
flat_filter {E} {X} {Y} test f g h each (one ∷ held) =
    let some : List (E × Option ℕ) = filter (λ (one : E × Option ℕ). test one.0) held in
    let others : List E = filter test (entries_of_marked held) in
    let Goal : Bool → Type 0 = λ b. map h (flat_map f (if b then one ∷ some else some)) ≡ flat_map g (if b then one.0 ∷ others else others) in
    let by_test : (b : Bool) → Goal b = λ b. elim b as Goal [
      | true ↦ map-append h (f one) (flat_map f some) ∙ (λ n. each one n ++ flat_filter test f g h each held n)
      | false ↦ flat_filter test f g h each held
    ] in by_test (test one.0)

module _ {K E L : Type 0} (making : Making E) (due : E × Option ℕ → Bool) (number : ℕ) (held : List (E × Option ℕ)) where
  plain_ways : (helped : Bool) (tree : Tree K E L) → map plain_way (ways_over held (tree_marked making due number helped tree)) ≡ ways_over (entries_of_marked held) tree
  plain_ways helped (Ends way) = ap (λ (reads : List E). record { led = way.led; reads = reads } ∷ []) (unmarked_is making number helped way.reads)
  plain_ways helped (Looks look fits more) =
      let later : E × Option ℕ → List (ModelWalk (E × Option ℕ) L) = λ one. ways_over held (tree_marked making due number (helped || lends_due making due (Some one)) (more (Some one.0))) in
      let others : E → List (ModelWalk E L) = λ entry. ways_over (entries_of_marked held) (more (Some entry)) in
      map-append plain_way (ways_over held (tree_marked making due number (helped || false) (more None))) (flat_map later (filter (λ (one : E × Option ℕ). fits look one.0) held))
      ∙ (λ n. plain_ways (helped || false) (more None) n
      ++ flat_filter (fits look) later others plain_way (λ one. plain_ways (helped || lends_due making due (Some one)) (more (Some one.0))) held n)

plain_reads : {E L : Type 0} (ways : List (ModelWalk (E × Option ℕ) L)) → entries_of_marked (reads_in ways) ≡ reads_in (map plain_way ways)
plain_reads [] = refl
plain_reads {E} {L} (way ∷ ways) =
    map-append _ way.reads (reads_in ways) ∙ ap (λ (rest : List E). entries_of_marked way.reads ++ rest) (plain_reads ways)

module _ {S T R K E L C : Type 0} (commands : Commands S T E C) (making : Making E) (tree : S → R → Tree K E L) (state : Late S C) (held : List (E × Option ℕ)) where
  plain_leds : (request : Option R) → leds_of (thorough_tree commands making tree) state held request ≡ leds_of tree state.now (entries_of_marked held) request
  plain_leds None = refl
  plain_leds (Some request) =
      let some : ModelWalk (E × Option ℕ) L → Option L = λ way. Some way.led in
      let led : ModelWalk E L → Option L = λ way. Some way.led in
      sym (map_both led plain_way some (λ way. refl) (ways_over held (thorough_tree commands making tree state request)))
      ∙ ap (map led) (plain_ways making (is_due commands state.pending) state.count held false (tree state.now request))

  plain_of_ways : (request : Option R) → entries_of_marked (reads_in (ways_of (thorough_tree commands making tree) state held request)) ≡ reads_in (ways_of tree state.now (entries_of_marked held) request)
  plain_of_ways None = refl
  plain_of_ways (Some request) =
      plain_reads (ways_over held (thorough_tree commands making tree state request))
      ∙ ap (λ (ways : List (ModelWalk E L)). reads_in ways) (plain_ways making (is_due commands state.pending) state.count held false (tree state.now request))

  plain_ahead : (requests : List R) → entries_of_marked (flat_map (ahead_reads (thorough_tree commands making tree) state held) requests) ≡ flat_map (ahead_reads tree state.now (entries_of_marked held)) requests
  plain_ahead [] = refl
  plain_ahead (request ∷ requests) =
      map-append _ (ahead_reads (thorough_tree commands making tree) state held request) (flat_map (ahead_reads (thorough_tree commands making tree) state held) requests)
      ∙ (λ n. plain_of_ways (Some request) n ++ plain_ahead requests n)

plain_reads_at : {S T R K E L A C : Type 0} (sys : System S T R K E L A) (commands : Commands S T E C) (making : Making E) (tree : S → R → Tree K E L) (requests : List R) (state : Late S C) (held : List (E × Option ℕ)) (step : T) →
    entries_of_marked (reads_at (thorough sys commands making tree) (thorough_tree commands making tree) requests state held step) ≡ reads_at sys tree requests state.now (entries_of_marked held) step
plain_reads_at sys commands making tree requests state held step =
    map-append _ (flat_map (ahead_reads (thorough_tree commands making tree) state held) requests) (reads_in (ways_of (thorough_tree commands making tree) state held (sys.asked state.now step)))
    ∙ (λ n. plain_ahead commands making tree state held requests n ++ plain_of_ways commands making tree state held (sys.asked state.now step) n)

-- A read has the step's number if a walk that reads it uses nothing that lends and is due: a walk over the few entries that don't lend, or of which
-- some version isn't due.
record IsFree {E : Type 0} (making : Making E) (due : E × Option ℕ → Bool) (held : List (E × Option ℕ)) (entry : E) : Type 0 where
  one : E × Option ℕ
  among : IsAmong held one
  free : (making.lends one.0 && due one) ≡ false
  is : one.0 ≡ entry

record AreFree {E : Type 0} (making : Making E) (due : E × Option ℕ → Bool) (held : List (E × Option ℕ)) (few : List E) : Type 0 where
  all : (one : E × Option ℕ) → IsAmong held one → (making.lends one.0 && due one) ≡ false → IsAmong few one.0
  each : (entry : E) → IsAmong few entry → IsFree making due held entry

record IsWayBack {E L : Type 0} (making : Making E) (number : ℕ) (helped : Bool) (ways : List (ModelWalk E L)) (way : ModelWalk (E × Option ℕ) L) : Type 0 where
  own : ModelWalk E L
  used : Bool
  is : walk_marked making number used own ≡ way
  free : used ≡ false → (helped ≡ false) × IsAmong ways own

record IsReadBack {E : Type 0} (making : Making E) (number : ℕ) (reads : List E) (read : E × Option ℕ) : Type 0 where
  used : Bool
  is : marked_by making number used read.0 ≡ read
  free : used ≡ false → IsAmong reads read.0

or_left : (a b : Bool) → (a || b) ≡ false → a ≡ false
or_left true b off = off
or_left false b off = refl

or_right : (a b : Bool) → (a || b) ≡ false → b ≡ false
or_right true b off = absurd (cc)
or_right false b off = off

module _ {K E L : Type 0} (making : Making E) (due : E × Option ℕ → Bool) (number : ℕ) (held : List (E × Option ℕ)) (few : List E) (are : AreFree making due held few) where
  way_back : (helped : Bool) (tree : Tree K E L) (way : ModelWalk (E × Option ℕ) L) → IsAmong (ways_over held (tree_marked making due number helped tree)) way →
      IsWayBack making number helped (ways_over few tree) way
  way_back helped (Ends own) way (inl same) = record { own = own; used = helped; is = same; free = λ off. (off, inl refl) }
  way_back helped (Ends own) way (inr h) = absurd h
  way_back helped (Looks look fits more) way h =
      let fit : E × Option ℕ → Bool = λ one. fits look one.0 in
      let helped_by : E × Option ℕ → Bool = λ one. making.lends one.0 && due one in
      let later : E × Option ℕ → List (ModelWalk (E × Option ℕ) L) = λ one. ways_over held (tree_marked making due number (helped || helped_by one) (more (Some one.0))) in
      let others : E → List (ModelWalk E L) = λ entry. ways_over few (more (Some entry)) in
      elim (among_either (ways_over held (tree_marked making due number (helped || false) (more None))) (flat_map later (filter fit held)) way h) [
        | inl here ↦
            let b : IsWayBack making number (helped || false) (ways_over few (more None)) way = way_back (helped || false) (more None) way here in
            record {
              own = b.own;
              used = b.used;
              is = b.is;
              free = λ off. (or_left helped false (b.free off).0, among-left (ways_over few (more None)) (flat_map others (filter (fits look) few)) b.own (b.free off).1);
            }
        | inr there ↦
            let f : IsFromOne later (filter fit held) way = from_one later (filter fit held) way there in
            let p : IsPassed fit held f.source = passed fit held f.source f.at in
            let b : IsWayBack making number (helped || helped_by f.source) (others f.source.0) way = way_back (helped || helped_by f.source) (more (Some f.source.0)) way f.among in
            record {
              own = b.own;
              used = b.used;
              is = b.is;
              free = λ off. (
                or_left helped (helped_by f.source) (b.free off).0,
                among-right (ways_over few (more None)) (flat_map others (filter (fits look) few)) b.own
                    (among_map others (filter (fits look) few) f.source.0 b.own
                    (among_filter (fits look) few f.source.0 (are.all f.source p.among (or_right helped (helped_by f.source) (b.free off).0)) p.passes) (b.free off).1),
              );
            }
      ]

  way_there : (tree : Tree K E L) (way : ModelWalk E L) → IsAmong (ways_over few tree) way → IsAmong (ways_over held (tree_marked making due number false tree)) (walk_marked making number false way)
  way_there (Ends own) way (inl same) = inl (ap (walk_marked making number false) same)
  way_there (Ends own) way (inr h) = absurd h
  way_there (Looks look fits more) way h =
      let marked : ModelWalk (E × Option ℕ) L = walk_marked making number false way in
      let fit : E × Option ℕ → Bool = λ one. fits look one.0 in
      let later : E × Option ℕ → List (ModelWalk (E × Option ℕ) L) = λ one. ways_over held (tree_marked making due number (making.lends one.0 && due one) (more (Some one.0))) in
      let others : E → List (ModelWalk E L) = λ entry. ways_over few (more (Some entry)) in
      elim (among_either (ways_over few (more None)) (flat_map others (filter (fits look) few)) way h) [
        | inl here ↦ among-left (ways_over held (tree_marked making due number false (more None))) (flat_map later (filter fit held)) marked (way_there (more None) way here)
        | inr there ↦
            let f : IsFromOne others (filter (fits look) few) way = from_one others (filter (fits look) few) way there in
            let p : IsPassed (fits look) few f.source = passed (fits look) few f.source f.at in
            let v : IsFree making due held f.source = are.each f.source p.among in
            let plainly : IsAmong (ways_over held (tree_marked making due number false (more (Some v.one.0)))) marked =
            subst (λ (entry : E). IsAmong (ways_over held (tree_marked making due number false (more (Some entry)))) marked) (sym v.is) (way_there (more (Some f.source)) way f.among) in
            among-right (ways_over held (tree_marked making due number false (more None))) (flat_map later (filter fit held)) marked
            (among_map later (filter fit held) v.one marked (among_filter fit held v.one v.among (subst (λ (entry : E). fits look entry ≡ true) (sym v.is) p.passes))
            (subst (λ (helped : Bool). IsAmong (ways_over held (tree_marked making due number helped (more (Some v.one.0)))) marked) (sym v.free) plainly))
      ]

  reads_back : (tree : Tree K E L) (read : E × Option ℕ) → IsAmong (reads_in (ways_over held (tree_marked making due number false tree))) read → IsReadBack making number (reads_in (ways_over few tree)) read
  reads_back tree read h =
      let reads : ModelWalk (E × Option ℕ) L → List (E × Option ℕ) = λ way. way.reads in
      let f : IsFromOne reads (ways_over held (tree_marked making due number false tree)) read = from_one reads (ways_over held (tree_marked making due number false tree)) read h in
      let b : IsWayBack making number false (ways_over few tree) f.source = way_back false tree f.source f.at in
      let m : IsImage (marked_by making number b.used) b.own.reads read =
      image_of (marked_by making number b.used) b.own.reads read (subst (λ (way : ModelWalk (E × Option ℕ) L). IsAmong way.reads read) (sym b.is) f.among) in
      let same : m.source ≡ read.0 = ap plain m.is in
      record {
        used = b.used;
        is = ap (marked_by making number b.used) (sym same) ∙ m.is;
        free = λ off. among_map (λ (way : ModelWalk E L). way.reads) (ways_over few tree) b.own read.0 (b.free off).1 (subst (IsAmong b.own.reads) same m.among);
      }

  reads_there : (tree : Tree K E L) (entry : E) → IsAmong (reads_in (ways_over few tree)) entry → IsAmong (reads_in (ways_over held (tree_marked making due number false tree))) (entry, Some number)
  reads_there tree entry h =
      let reads : ModelWalk E L → List E = λ way. way.reads in
      let f : IsFromOne reads (ways_over few tree) entry = from_one reads (ways_over few tree) entry h in
      among_map (λ (way : ModelWalk (E × Option ℕ) L). way.reads) (ways_over held (tree_marked making due number false tree)) (walk_marked making number false f.source) (entry, Some number)
      (way_there tree f.source f.at) (among_mapped (marked_by making number false) f.source.reads entry f.among)

module _ {S T R K E L A C : Type 0} (sys : System S T R K E L A) (commands : Commands S T E C) (making : Making E) (tree : S → R → Tree K E L) (requests : List R) (state : Late S C)
    (held : List (E × Option ℕ)) (few : List E) (are : AreFree making (is_due commands state.pending) held few) (step : T) where
  of_back : (request : Option R) (read : E × Option ℕ) → IsAmong (reads_in (ways_of (thorough_tree commands making tree) state held request)) read →
      IsReadBack making state.count (reads_in (ways_of tree state.now few request)) read
  of_back None read h = absurd h
  of_back (Some request) read h = reads_back making (is_due commands state.pending) state.count held few are (tree state.now request) read h

  of_there : (request : Option R) (entry : E) → IsAmong (reads_in (ways_of tree state.now few request)) entry →
      IsAmong (reads_in (ways_of (thorough_tree commands making tree) state held request)) (entry, Some state.count)
  of_there None entry h = absurd h
  of_there (Some request) entry h = reads_there making (is_due commands state.pending) state.count held few are (tree state.now request) entry h

  at_back : (read : E × Option ℕ) → IsAmong (reads_at (thorough sys commands making tree) (thorough_tree commands making tree) requests state held step) read →
      IsReadBack making state.count (reads_at sys tree requests state.now few step) read
  at_back read h =
      let marked : R → List (E × Option ℕ) = ahead_reads (thorough_tree commands making tree) state held in
      let ahead : R → List E = ahead_reads tree state.now few in
      let asked : Option R = sys.asked state.now step in
      elim (among_either (flat_map marked requests) (reads_in (ways_of (thorough_tree commands making tree) state held asked)) read h) [
        | inl early ↦
            let f : IsFromOne marked requests read = from_one marked requests read early in
            let r : IsReadBack making state.count (ahead f.source) read = of_back (Some f.source) read f.among in
            record {
              used = r.used;
              is = r.is;
              free = λ off. among-left (flat_map ahead requests) (reads_in (ways_of tree state.now few asked)) read.0 (among_map ahead requests f.source read.0 f.at (r.free off));
            }
        | inr own ↦
            let r : IsReadBack making state.count (reads_in (ways_of tree state.now few asked)) read = of_back asked read own in
            record { used = r.used; is = r.is; free = λ off. among-right (flat_map ahead requests) (reads_in (ways_of tree state.now few asked)) read.0 (r.free off) }
      ]

  at_there : (entry : E) → IsAmong (reads_at sys tree requests state.now few step) entry →
      IsAmong (reads_at (thorough sys commands making tree) (thorough_tree commands making tree) requests state held step) (entry, Some state.count)
  at_there entry h =
      let marked : R → List (E × Option ℕ) = ahead_reads (thorough_tree commands making tree) state held in
      let ahead : R → List E = ahead_reads tree state.now few in
      let asked : Option R = sys.asked state.now step in
      elim (among_either (flat_map ahead requests) (reads_in (ways_of tree state.now few asked)) entry h) [
        | inl early ↦
            let f : IsFromOne ahead requests entry = from_one ahead requests entry early in
            among-left (flat_map marked requests) (reads_in (ways_of (thorough_tree commands making tree) state held asked)) (entry, Some state.count)
            (among_map marked requests f.source (entry, Some state.count) f.at (of_there (Some f.source) entry f.among))
        | inr own ↦ among-right (flat_map marked requests) (reads_in (ways_of (thorough_tree commands making tree) state held asked)) (entry, Some state.count) (of_there asked entry own)
      ]

-- numbers are of steps that were taken
abbrev IsEarlier : ℕ → Option ℕ → Type 0
IsEarlier count None = Unit {0}
IsEarlier count (Some number) = number < count

pub record IsNumbered {S E C : Type 0} (i : Holder (Late S C) (E × Option ℕ)) : Type 0 where
  pub pending : AllByRecursion (λ (one : ℕ × C). one.0 < i.state.count) i.state.pending
  pub holds : AllByRecursion (λ (held : E × Option ℕ). IsEarlier i.state.count held.1) i.holds

still_earlier : (count : ℕ) (mark : Option ℕ) → IsEarlier count mark → IsEarlier (suc count) mark
still_earlier count None h = tt
still_earlier count (Some number) h = lt_trans h (lt-suc_self count)

marked_now : (count : ℕ) (made : Bool) → IsEarlier (suc count) (if made then None else Some count)
marked_now count true = tt
marked_now count false = lt-suc_self count

walk_now : {K E L : Type 0} (making : Making E) (due : E × Option ℕ → Bool) (number : ℕ) (source : List (K × (E × Option ℕ))) (helped : Bool) (tree : Tree K E L) (read : E × Option ℕ) →
    IsAmong (way_over source (tree_marked making due number helped tree)).reads read → IsEarlier (suc number) read.1
walk_now {K} {E} making due number source helped (Ends way) read h =
    let m : IsImage (marked_by making number helped) way.reads read = image_of (marked_by making number helped) way.reads read h in
    subst (λ (read : E × Option ℕ). IsEarlier (suc number) read.1) m.is (marked_now number (helped && making.is_made m.source))
walk_now making due number source helped (Looks look fits more) read h = walk_now making due number source _ (more _) read h

read_now : {S T R K E L A C : Type 0} (sys : System S T R K E L A) (commands : Commands S T E C) (making : Making E) (tree : S → R → Tree K E L) (state : Late S C) (source : List (K × (E × Option ℕ))) (request : Option R) (read : E × Option ℕ) →
    IsAmong (reads_of (thorough sys commands making tree) state source request) read → IsEarlier (suc state.count) read.1
read_now sys commands making tree state source None read h = absurd h
read_now sys commands making tree state source (Some request) read h = walk_now making (is_due commands state.pending) state.count source false (tree state.now request) read h

next_numbered : {S T R K E L A C : Type 0} (sys : System S T R K E L A) (commands : Commands S T E C) (making : Making E) (tree : S → R → Tree K E L) (i : Holder (Late S C) (E × Option ℕ)) → IsNumbered i → (step : T) (choice : Choice R K) →
    IsNumbered (next_as (thorough sys commands making tree) i step choice)
next_numbered {S} {T} {R} {K} {E} {L} {A} {C} sys commands making tree i are step choice = record {
  pending = earlier_left commands i.state.count (commands.executed i.state.now step) i.state.pending are.pending;
  holds = each_of (λ (held : E × Option ℕ). IsEarlier (suc i.state.count) held.1) (next_as (thorough sys commands making tree) i step choice).holds (λ held h.
      let walks : List (Walk R K) = record { target = None; uses = choice.uses } ∷ choice.again in
      let reads : Walk R K → List (E × Option ℕ) = read_by (thorough sys commands making tree) i step in
      let p : IsPassed (λ (held : E × Option ℕ). not ((thorough sys commands making tree).drops i.state step held)) (numbered (gained (thorough sys commands making tree) i step choice) choice.keeps) held = passed _ _ held h in
      elim (among_either i.holds (flat_map reads walks) held (among_numbered (i.holds ++ flat_map reads walks) choice.keeps held p.among)) [
        | inl old ↦ still_earlier i.state.count held.1 (each_at (λ (held : E × Option ℕ). IsEarlier i.state.count held.1) i.holds held are.holds old)
        | inr new ↦
            let f : IsFrom reads held = among_flat reads walks held new in
            read_now sys commands making tree i.state (looked i.holds f.source.uses) (aimed (thorough sys commands making tree) i.state step f.source.target) held f.among
      ]);
}

pub run_numbered : {S T R K E L A C : Type 0} (sys : System S T R K E L A) (commands : Commands S T E C) (making : Making E) (tree : S → R → Tree K E L) (start : S) (chosen : List (T × Choice R K)) →
    IsNumbered (end_as (thorough sys commands making tree) (late_from start) chosen)
run_numbered sys commands making tree start [] = record { pending = tt; holds = tt }
run_numbered sys commands making tree start (last ∷ chosen) =
    next_numbered sys commands making tree (end_as (thorough sys commands making tree) (late_from start) chosen) (run_numbered sys commands making tree start chosen) last.0 last.1

-- what is due by the step's own command and those before it
named_with : {S T E C : Type 0} (commands : Commands S T E C) (count : ℕ) (executed : Option C) (pending : List (ℕ × C)) (entry : E) (number : ℕ) → number ≤ count →
    is_named commands (with_command count executed pending) (entry, number) ≡ (named_by commands executed entry || is_named commands pending (entry, number))
named_with commands count None pending entry number h = refl
named_with commands count (Some command) pending entry number h = rw (le-leb number count h) refl

or_true : (b : Bool) → (b || true) ≡ true
or_true true = refl
or_true false = refl

or_false : (b : Bool) → (b || false) ≡ b
or_false true = refl
or_false false = refl

due_with : {S T E C : Type 0} (commands : Commands S T E C) (count : ℕ) (executed : Option C) (pending : List (ℕ × C)) (entry : E) (mark : Option ℕ) → IsEarlier count mark →
    due_by commands (with_command count executed pending) entry mark ≡ (named_by commands executed entry || due_by commands pending entry mark)
due_with commands count executed pending entry None h = sym (or_true (named_by commands executed entry))
due_with commands count executed pending entry (Some number) h = let less : number < count = h in named_with commands count executed pending entry number (omega (arith, less))

fresh_due : {S T E C : Type 0} (commands : Commands S T E C) (count : ℕ) (executed : Option C) (pending : List (ℕ × C)) → AllByRecursion (λ (one : ℕ × C). one.0 < count) pending → (entry : E) →
    is_named commands (with_command count executed pending) (entry, count) ≡ named_by commands executed entry
fresh_due commands count executed pending each entry =
    named_with commands count executed pending entry count (omega arith)
    ∙ ap (λ (b : Bool). named_by commands executed entry || b) (unnamed_fresh commands entry count pending each)
    ∙ or_false (named_by commands executed entry)

abbrev spared_entry : {S T E C : Type 0} → Commands S T E C → Option C → E → Bool
spared_entry commands executed entry = not (named_by commands executed entry)

old_spared : {S T E C : Type 0} (commands : Commands S T E C) (count : ℕ) (executed : Option C) (pending : List (ℕ × C)) (held : List (E × Option ℕ)) → AllByRecursion (λ (one : E × Option ℕ). IsEarlier count one.1) held →
    entries_of_marked (filter (spared_by commands (with_command count executed pending)) held) ≡ filter (spared_entry commands executed) (entries_of_marked (filter (spared_by commands pending) held))
old_spared commands count executed pending [] each = refl
old_spared {S} {T} {E} {C} commands count executed pending (one ∷ held) each =
    let few : List (E × Option ℕ) = filter (spared_by commands (with_command count executed pending)) held in
    let some : List (E × Option ℕ) = filter (spared_by commands pending) held in
    let spare : E → Bool = spared_entry commands executed in
    let rest : entries_of_marked few ≡ filter spare (entries_of_marked some) = old_spared commands count executed pending held each.1 in
    let named : Bool = named_by commands executed one.0 in
    let Goal : Bool → Type 0 = λ b. entries_of_marked (if not (named || b) then one ∷ few else few) ≡ filter spare (entries_of_marked (if not b then one ∷ some else some)) in
    let Pending : Bool → Type 0 = λ b. entries_of_marked (if not (b || true) then one ∷ few else few) ≡ filter spare (entries_of_marked some) in
    let named_before : (b : Bool) → Pending b = λ b. elim b as Pending [ true ↦ rest | false ↦ rest ] in
    let Now : Bool → Type 0 = λ b. entries_of_marked (if not (b || false) then one ∷ few else few) ≡ (if not b then one.0 ∷ filter spare (entries_of_marked some) else filter spare (entries_of_marked some)) in
    let now : (b : Bool) → Now b = λ b. elim b as Now [ true ↦ rest | false ↦ ap (λ (rest : List E). one.0 ∷ rest) rest ] in
    let by_pending : (b : Bool) → Goal b = λ b. elim b as Goal [
      | true ↦ named_before named
      | false ↦ now named
    ] in
    ap (λ (b : Bool). entries_of_marked (if not b then one ∷ few else few)) (due_with commands count executed pending one.0 one.1 each.0) ∙ by_pending (is_due commands pending one)

-- what a fence leaves the next one leaves too
spared_still : {S T E C : Type 0} (commands : Commands S T E C) (pending : List (ℕ × C)) (entry : E) (mark : Option ℕ) → spared_by commands pending (entry, mark) ≡ true → spared_by commands [] (entry, mark) ≡ true
spared_still commands pending entry None h = h
spared_still commands pending entry (Some number) h = refl

-- what is spared has a number
spared_mark : {S T E C : Type 0} (commands : Commands S T E C) (pending : List (ℕ × C)) (entry : E) (number : ℕ) (made : Bool) → spared_by commands pending (entry, if made then None else Some number) ≡ true → made ≡ false
spared_mark commands pending entry number true h = sym h
spared_mark commands pending entry number false h = refl

and_left : (a b : Bool) → (a && b) ≡ false → b ≡ true → a ≡ false
and_left true b off on = sym on ∙ off
and_left false b off on = refl

filter_true : {X : Type 0} (xs : List X) → filter (λ (x : X). true) xs ≡ xs
filter_true [] = refl
filter_true {X} (x ∷ xs) = ap (λ (rest : List X). x ∷ rest) (filter_true xs)

-- lists of the same
record AreSame {X : Type 0} (xs ys : List X) : Type 0 where
  within : (x : X) → IsAmong xs x → IsAmong ys x
  enough : (x : X) → IsAmong ys x → IsAmong xs x

same_list : {X : Type 0} (xs ys : List X) → xs ≡ ys → AreSame xs ys
same_list {X} xs ys is = record { within = λ x h. subst (λ (list : List X). IsAmong list x) is h; enough = λ x h. subst (λ (list : List X). IsAmong list x) (sym is) h }

pub both_more : {X : Type 0} (xs ys more others : List X) → ((x : X) → IsAmong xs x → IsAmong more x) → ((x : X) → IsAmong ys x → IsAmong others x) → (x : X) → IsAmong (xs ++ ys) x → IsAmong (more ++ others) x
both_more xs ys more others first second x h = elim (among_either xs ys x h) [
  | inl here ↦ among-left more others x (first x here)
  | inr there ↦ among-right more others x (second x there)
]

-- what a step reads, with marks and without
module _ {S T R K E L A C : Type 0} (sys : System S T R K E L A) (commands : Commands S T E C) (making : Making E) (tree : S → R → Tree K E L) (requests : List R) (i : Holder (Late S C) (E × Option ℕ)) (step : T) where
  abbrev pending_now : List (ℕ × C)
  pending_now = with_command i.state.count (commands.executed i.state.now step) i.state.pending

  abbrev reads_marked : List (E × Option ℕ)
  reads_marked = reads_at (thorough sys commands making tree) (thorough_tree commands making tree) requests i.state i.holds step

  abbrev reads_all : List E
  reads_all = reads_at sys tree requests i.state.now (entries_of_marked i.holds) step

  abbrev reads_lasting : List E
  reads_lasting = reads_at sys tree requests i.state.now (lasting making (marks commands i)) step

  abbrev spare : E → Bool
  spare = spared_entry commands (commands.executed i.state.now step)

  abbrev fresh : List E
  fresh = fresh_reads sys making tree requests (marks commands i) step

  lasting_all : (one : E × Option ℕ) → IsAmong i.holds one → (making.lends one.0 && is_due commands i.state.pending one) ≡ false → IsAmong (lasting making (marks commands i)) one.0
  lasting_all one h off =
      let idle : E → Bool = λ entry. not (making.lends entry) in
      let kept : E × Option ℕ → Bool = spared_by commands i.state.pending in
      let Goal : Bool → Type 0 = λ b. making.lends one.0 ≡ b → (b && is_due commands i.state.pending one) ≡ false → IsAmong (lasting making (marks commands i)) one.0 in
      let by_lending : (b : Bool) → Goal b = λ b. elim b as Goal [
        | true ↦ λ is off. among-right (filter idle (entries_of_marked i.holds)) (filter making.lends (entries_of_marked (filter kept i.holds))) one.0
            (among_filter making.lends (entries_of_marked (filter kept i.holds)) one.0 (among_mapped plain (filter kept i.holds) one (among_filter kept i.holds one h (ap not off))) is)
        | false ↦ λ is off. among-left (filter idle (entries_of_marked i.holds)) (filter making.lends (entries_of_marked (filter kept i.holds))) one.0
            (among_filter idle (entries_of_marked i.holds) one.0 (among_mapped plain i.holds one h) (ap not is))
      ] in by_lending (making.lends one.0) refl off

  lasting_each : (entry : E) → IsAmong (lasting making (marks commands i)) entry → IsFree making (is_due commands i.state.pending) i.holds entry
  lasting_each entry h =
      let idle : E → Bool = λ entry. not (making.lends entry) in
      let kept : E × Option ℕ → Bool = spared_by commands i.state.pending in
      elim (among_either (filter idle (entries_of_marked i.holds)) (filter making.lends (entries_of_marked (filter kept i.holds))) entry h) [
        | inl here ↦
            let p : IsPassed idle (entries_of_marked i.holds) entry = passed idle (entries_of_marked i.holds) entry here in
            let m : IsImage plain i.holds entry = image_of plain i.holds entry p.among in
            let off : making.lends m.source.0 ≡ false = ap making.lends m.is ∙ fails (making.lends entry) p.passes in
            record { one = m.source; among = m.among; free = ap (λ (b : Bool). b && is_due commands i.state.pending m.source) off; is = m.is }
        | inr there ↦
            let p : IsPassed making.lends (entries_of_marked (filter kept i.holds)) entry = passed making.lends (entries_of_marked (filter kept i.holds)) entry there in
            let m : IsImage plain (filter kept i.holds) entry = image_of plain (filter kept i.holds) entry p.among in
            let q : IsPassed kept i.holds m.source = passed kept i.holds m.source m.among in
            record { one = m.source; among = q.among; free = and_false (making.lends m.source.0) (is_due commands i.state.pending m.source) (fails _ q.passes); is = m.is }
      ]

  lasting_free : AreFree making (is_due commands i.state.pending) i.holds (lasting making (marks commands i))
  lasting_free = record { all = lasting_all; each = lasting_each }

  plain_is : entries_of_marked reads_marked ≡ reads_all
  plain_is = plain_reads_at sys commands making tree requests i.state i.holds step

  back : (read : E × Option ℕ) → IsAmong reads_marked read → IsReadBack making i.state.count reads_lasting read
  back = at_back sys commands making tree requests i.state i.holds (lasting making (marks commands i)) lasting_free step

  -- what a step reads freshly has its number
  fresh_marked : (entry : E) → IsAmong fresh entry → IsAmong reads_marked (entry, Some i.state.count)
  fresh_marked entry h =
      let unmade : E → Bool = λ entry. not (making.is_made entry) in
      elim (among_either (filter unmade reads_all) (filter making.is_made reads_lasting) entry h) [
        | inl here ↦
            let p : IsPassed unmade reads_all entry = passed unmade reads_all entry here in
            let m : IsImage plain reads_marked entry = image_of plain reads_marked entry (subst (λ (reads : List E). IsAmong reads entry) (sym plain_is) p.among) in
            let r : IsReadBack making i.state.count reads_lasting m.source = back m.source m.among in
            let off : making.is_made m.source.0 ≡ false = ap making.is_made m.is ∙ fails (making.is_made entry) p.passes in
            let under : E → Bool → E × Option ℕ = λ entry made. (entry, if made then None else Some i.state.count) in
            let is : m.source ≡ under entry false = sym r.is ∙ ap (under m.source.0) (and_false r.used (making.is_made m.source.0) off) ∙ ap (λ (entry : E). under entry false) m.is in
            subst (IsAmong reads_marked) is m.among
        | inr there ↦
            let p : IsPassed making.is_made reads_lasting entry = passed making.is_made reads_lasting entry there in
            at_there sys commands making tree requests i.state i.holds (lasting making (marks commands i)) lasting_free step entry p.among
      ]

-- what is held behind a step, without marks
module _ {S T R K E L A C : Type 0} (sys : System S T R K E L A) (commands : Commands S T E C) (making : Making E) (tree : S → R → Tree K E L) (requests : List R) (i : Holder (Late S C) (E × Option ℕ)) (are : IsNumbered i) (step : T) where
  named_now : (entry : E) → spared_by commands (pending_now sys commands making tree requests i step) (entry, Some i.state.count) ≡ spare sys commands making tree requests i step entry
  named_now entry = ap not (fresh_due commands i.state.count (commands.executed i.state.now step) i.state.pending are.pending entry)

  read_fresh : (read : E × Option ℕ) → IsAmong (reads_marked sys commands making tree requests i step) read → spared_by commands (pending_now sys commands making tree requests i step) read ≡ true →
      IsAmong (filter (spare sys commands making tree requests i step) (fresh sys commands making tree requests i step)) read.0
  read_fresh read h passes =
      let all : List E = reads_all sys commands making tree requests i step in
      let few : List E = reads_lasting sys commands making tree requests i step in
      let unmade : E → Bool = λ entry. not (making.is_made entry) in
      let kept : E × Option ℕ → Bool = spared_by commands (pending_now sys commands making tree requests i step) in
      let under : Bool → E × Option ℕ = λ made. (read.0, if made then None else Some i.state.count) in
      let r : IsReadBack making i.state.count few read = back sys commands making tree requests i step read h in
      let off : (r.used && making.is_made read.0) ≡ false =
      spared_mark commands (pending_now sys commands making tree requests i step) read.0 i.state.count (r.used && making.is_made read.0) (ap kept r.is ∙ passes) in
      let left : spare sys commands making tree requests i step read.0 ≡ true =
      sym (named_now read.0) ∙ ap (λ (made : Bool). kept (under made)) (sym off) ∙ ap kept r.is ∙ passes in
      let here : IsAmong all read.0 =
      subst (λ (reads : List E). IsAmong reads read.0) (plain_is sys commands making tree requests i step) (among_mapped plain (reads_marked sys commands making tree requests i step) read h) in
      let Goal : Bool → Type 0 = λ b. making.is_made read.0 ≡ b → IsAmong (filter unmade all ++ filter making.is_made few) read.0 in
      let by_making : (b : Bool) → Goal b = λ b. elim b as Goal [
        | true ↦ λ is. among-right (filter unmade all) (filter making.is_made few) read.0 (among_filter making.is_made few read.0 (r.free (and_left r.used (making.is_made read.0) off is)) is)
        | false ↦ λ is. among-left (filter unmade all) (filter making.is_made few) read.0 (among_filter unmade all read.0 here (ap not is))
      ] in
      among_filter (spare sys commands making tree requests i step) (fresh sys commands making tree requests i step) read.0 (by_making (making.is_made read.0) refl) left

  fresh_same : AreSame (entries_of_marked (filter (spared_by commands (pending_now sys commands making tree requests i step)) (reads_marked sys commands making tree requests i step)))
      (filter (spare sys commands making tree requests i step) (fresh sys commands making tree requests i step))
  fresh_same =
      let kept : E × Option ℕ → Bool = spared_by commands (pending_now sys commands making tree requests i step) in
      let left : E → Bool = spare sys commands making tree requests i step in
      let marked : List (E × Option ℕ) = reads_marked sys commands making tree requests i step in
      let some : List E = fresh sys commands making tree requests i step in
      record {
        within = λ entry h.
            let m : IsImage plain (filter kept marked) entry = image_of plain (filter kept marked) entry h in
            let p : IsPassed kept marked m.source = passed kept marked m.source m.among in
            subst (IsAmong (filter left some)) m.is (read_fresh m.source p.among p.passes);
        enough = λ entry h.
            let p : IsPassed left some entry = passed left some entry h in
            let read : E × Option ℕ = (entry, Some i.state.count) in
            among_mapped plain (filter kept marked) read
            (among_filter kept marked read (fresh_marked sys commands making tree requests i step entry p.among) (named_now entry ∙ p.passes));
      }

  left_same : AreSame (entries_of_marked (filter (spared_by commands (pending_now sys commands making tree requests i step)) (i.holds ++ reads_marked sys commands making tree requests i step)))
      (outlasts_behind sys commands making tree requests (marks commands i) step)
  left_same =
      let kept : E × Option ℕ → Bool = spared_by commands (pending_now sys commands making tree requests i step) in
      let left : E → Bool = spare sys commands making tree requests i step in
      let marked : List (E × Option ℕ) = reads_marked sys commands making tree requests i step in
      let before : List E = (marks commands i).outlasts in
      let read : List E = fresh sys commands making tree requests i step in
      let some : List E = entries_of_marked (filter kept marked) in
      let is : entries_of_marked (filter kept (i.holds ++ marked)) ≡ filter left before ++ some =
      ap (λ (all : List (E × Option ℕ)). entries_of_marked all) (filter-append kept i.holds marked)
      ∙ map-append _ (filter kept i.holds) (filter kept marked)
      ∙ ap (λ (old : List E). old ++ some) (old_spared commands i.state.count (commands.executed i.state.now step) i.state.pending i.holds are.holds) in
      let parts : filter left (before ++ read) ≡ filter left before ++ filter left read = filter-append left before read in
      record {
        within = λ entry h. subst (λ (all : List E). IsAmong all entry) (sym parts)
            (both_more (filter left before) some (filter left before) (filter left read) (λ x h. h) fresh_same.within entry (subst (λ (all : List E). IsAmong all entry) is h));
        enough = λ entry h. subst (λ (all : List E). IsAmong all entry) (sym is)
            (both_more (filter left before) (filter left read) (filter left before) some (λ x h. h) fresh_same.enough entry (subst (λ (all : List E). IsAmong all entry) parts h));
      }

  holds_same : AreSame (entries_of_marked (held_behind (thorough sys commands making tree) (thorough_tree commands making tree) requests i step)) (holds_behind sys commands making tree requests (marks commands i) step)
  holds_same =
      let pending : List (ℕ × C) = pending_now sys commands making tree requests i step in
      let marked : List (E × Option ℕ) = reads_marked sys commands making tree requests i step in
      let Goal : Bool → Type 0 = λ b. AreSame (entries_of_marked (filter (λ (held : E × Option ℕ). not (b && is_due commands pending held)) (i.holds ++ marked)))
      (if b then outlasts_behind sys commands making tree requests (marks commands i) step else entries_of_marked i.holds ++ reads_all sys commands making tree requests i step) in
      let by_fence : (b : Bool) → Goal b = λ b. elim b as Goal [
        | true ↦ left_same
        | false ↦ same_list _ _
            (ap (λ (held : List (E × Option ℕ)). entries_of_marked held) (filter_true (i.holds ++ marked))
            ∙ map-append _ i.holds marked
            ∙ ap (λ (reads : List E). entries_of_marked i.holds ++ reads) (plain_is sys commands making tree requests i step))
      ] in by_fence (is_fence_by commands (commands.executed i.state.now step))

  outlasts_same : AreSame (entries_of_marked (filter (spared_by commands (left_pending commands i.state.count (commands.executed i.state.now step) i.state.pending))
      (held_behind (thorough sys commands making tree) (thorough_tree commands making tree) requests i step))) (outlasts_behind sys commands making tree requests (marks commands i) step)
  outlasts_same =
      let pending : List (ℕ × C) = pending_now sys commands making tree requests i step in
      let all : List (E × Option ℕ) = i.holds ++ reads_marked sys commands making tree requests i step in
      let kept : E × Option ℕ → Bool = spared_by commands pending in
      let still : (held : E × Option ℕ) → IsAmong (filter kept all) held → spared_by commands [] held ≡ true = λ held among.
      let p : IsPassed kept all held = passed kept all held among in spared_still commands pending held.0 held.1 p.passes in
      let Goal : Bool → Type 0 = λ b. AreSame
      (entries_of_marked (filter (spared_by commands (if b then [] else pending)) (filter (λ (held : E × Option ℕ). not (b && is_due commands pending held)) all)))
      (outlasts_behind sys commands making tree requests (marks commands i) step) in
      let by_fence : (b : Bool) → Goal b = λ b. elim b as Goal [
        | true ↦ subst (λ (list : List (E × Option ℕ)). AreSame (entries_of_marked list) (outlasts_behind sys commands making tree requests (marks commands i) step))
            (sym (filter_all (spared_by commands []) (filter kept all) (each_of _ (filter kept all) still))) left_same
        | false ↦ subst (λ (list : List (E × Option ℕ)). AreSame (entries_of_marked (filter kept list)) (outlasts_behind sys commands making tree requests (marks commands i) step))
            (sym (filter_true all)) left_same
      ] in by_fence (is_fence_by commands (commands.executed i.state.now step))

alike_mapped : {X S E : Type 0} (f g : X → Marked S E) → ((x : X) → IsMoreMarked (f x) (g x) × IsMoreMarked (g x) (f x)) → (xs : List X) → AreMarkedAlike (map f xs) (map g xs)
alike_mapped {X} {S} {E} f g each xs = record {
  within = λ one h.
      let m : IsImage f xs one = image_of f xs one h in
      record { more = g m.source; among = among_mapped g xs m.source m.among; is = subst (λ (one : Marked S E). IsMoreMarked one (g m.source)) m.is (each m.source).0 };
  enough = λ one h.
      let m : IsImage g xs one = image_of g xs one h in
      record { more = f m.source; among = among_mapped f xs m.source m.among; is = subst (λ (one : Marked S E). IsMoreMarked one (f m.source)) m.is (each m.source).1 };
}

-- all that may come behind a holder, without marks
pub marked_alike : {S T R K E L A C O : Type 0} (sys : System S T R K E L A) (commands : Commands S T E C) (making : Making E) (tree : S → R → Tree K E L) (requests : List R) (fits : A → O → Bool) (seen : T × O) (i : Holder (Late S C) (E × Option ℕ)) → IsNumbered i →
    AreMarkedAlike (map (marks commands) (possible_behind (thorough sys commands making tree) (thorough_tree commands making tree) requests fits seen i)) (marked_behind sys commands making tree requests fits seen (marks commands i))
marked_alike {S} {T} {R} {K} {E} {L} {A} {C} {O} sys commands making tree requests fits seen i are =
    let request : Option R = sys.asked i.state.now seen.0 in
    let test : Option L → Bool = λ led. fits (sys.reply i.state.now seen.0 led) seen.1 in
    let make : Option L → Holder (Late S C) (E × Option ℕ) = λ led. record {
      state = (thorough sys commands making tree).after i.state seen.0 led;
      holds = held_behind (thorough sys commands making tree) (thorough_tree commands making tree) requests i seen.0;
    } in
    let mark : Option L → Marked S E = λ led. record {
      state = sys.after i.state.now seen.0 led;
      holds = holds_behind sys commands making tree requests (marks commands i) seen.0;
      outlasts = outlasts_behind sys commands making tree requests (marks commands i) seen.0;
    } in
    let held : AreSame (marks commands (make None)).holds (mark None).holds = holds_same sys commands making tree requests i are seen.0 in
    let longer : AreSame (marks commands (make None)).outlasts (mark None).outlasts = outlasts_same sys commands making tree requests i are seen.0 in
    let each : (led : Option L) → IsMoreMarked (marks commands (make led)) (mark led) × IsMoreMarked (mark led) (marks commands (make led)) = λ led. (
      record { state = refl; holds = held.within; outlasts = longer.within },
      record { state = refl; holds = held.enough; outlasts = longer.enough },
    ) in
    let ways : List (Option L) = leds_of (thorough_tree commands making tree) i.state i.holds request in
    let leds : List (Option L) = filter test (leds_of tree i.state.now (entries_of_marked i.holds) request) in
    let is : map (marks commands) (map make (filter test ways)) ≡ map (λ (led : Option L). marks commands (make led)) leds =
    map_both (marks commands) make (λ (led : Option L). marks commands (make led)) (λ led. refl) (filter test ways)
    ∙ ap (λ (leds : List (Option L)). map (λ (led : Option L). marks commands (make led)) (filter test leds)) (plain_leds commands making tree i.state i.holds request) in
    subst (λ (list : List (Marked S E)). AreMarkedAlike list (map mark leds)) (sym is) (alike_mapped (λ (led : Option L). marks commands (make led)) mark each leds)
