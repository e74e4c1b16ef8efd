-- Any entries that may be held are held by some system that has done as the run.
use Rattle.std.proofs.Common.{◌≡◌, ◌∙◌, ◌++◌, not, true, List, [], ◌∷◌, Option, None, refl, sym, ap, subst, inl, inr}
use Rattle.std.specs.Prelude.{flat_map}
use Rattle.std.specs.List.{AllByRecursion}
use Rattle.iom_choices.specs.Systems.{System, IsAmong, aimed, led_of, reads_of}
use Rattle.iom_choices.specs.Choices.{Choice, Holder, Walk, end_as, led_as, read_by, undropped}
use Rattle.iom_choices.specs.Models.{IsRun, Run, entries_in}
use Rattle.iom_choices.specs.Settled.{EachUse, MayHold}
use Rattle.iom_choices.specs.Laws.{CanUse, DoesAlike}
use Rattle.iom_choices.proofs.Lists.{among-left, among-right, among_either, each_append, each_of, each_weaker, filter_all}
use Rattle.iom_choices.proofs.Numbers.{AreAt, AreUsed, each_entry, each_use, numbers_of, uses_of}
use Rattle.iom_choices.proofs.Alike.{cache_may}

-- a walk by the entries that it uses
pub record Read (R K E : Type 0) : Type 0 where
  pub target : Option R
  pub source : List (K × E)

abbrev pub read_of : {S T R K E L A : Type 0} → System S T R K E L A → S → T → Read R K E → List E
read_of sys state step read = reads_of sys state read.source (aimed sys state step read.target)

-- How some entries can be had behind a step: what must be held before it, and the walks that it makes with that.
pub record Plan {S T R K E L A : Type 0} (sys : System S T R K E L A) (at : List T → S) (step : T) (steps : List T) (wanted : List E) : Type 0 where
  pub before : List E
  pub may : AllByRecursion (MayHold sys at steps) before
  pub reads : List (Read R K E)
  pub within : AllByRecursion (λ (read : Read R K E). EachUse (IsAmong before) read.source) reads
  pub gives : AllByRecursion (IsAmong (before ++ flat_map (read_of sys (at steps) step) reads)) wanted
  pub spared : AllByRecursion (λ (entry : E). not (sys.drops (at steps) step entry) ≡ true) wanted

-- what is among two lists is among two longer ones
among_more : {X : Type 0} (xs ys more others : List X) (x : X) → IsAmong (xs ++ ys) x → IsAmong ((more ++ xs) ++ (others ++ ys)) x
among_more xs ys more others x h = elim (among_either xs ys x h) [
  | inl here ↦ among-left (more ++ xs) (others ++ ys) x (among-right more xs x here)
  | inr there ↦ among-right (more ++ xs) (others ++ ys) x (among-right others ys x there)
]

use_more : {K E : Type 0} (before more : List E) (source : List (K × E)) → EachUse (IsAmong before) source → EachUse (IsAmong (more ++ before)) source
use_more before more source h = each_weaker _ _ source (λ used among. among-right more before used.1 among) h

reads_more : {R K E : Type 0} (before more : List E) (reads : List (Read R K E)) → AllByRecursion (λ (read : Read R K E). EachUse (IsAmong before) read.source) reads → AllByRecursion (λ (read : Read R K E). EachUse (IsAmong (more ++ before)) read.source) reads
reads_more before more [] h = tt
reads_more before more (read ∷ reads) h = (use_more before more read.source h.0, reads_more before more reads h.1)

pub planned : {S T R K E L A : Type 0} (sys : System S T R K E L A) (at : List T → S) (step : T) (steps : List T) (wanted : List E) → AllByRecursion (MayHold sys at (step ∷ steps)) wanted → Plan sys at step steps wanted
planned sys at step steps [] h = record { before = []; may = tt; reads = []; within = tt; gives = tt; spared = tt }
planned {S} {T} {R} {K} {E} sys at step steps (entry ∷ wanted) h =
    let p : Plan sys at step steps wanted = planned sys at step steps wanted h.1 in
    let spared : not (sys.drops (at steps) step entry) ≡ true = ap not h.0.0 in
    elim h.0.1 [
      | inl held ↦ record {
        before = entry ∷ p.before;
        may = (held, p.may);
        reads = p.reads;
        within = reads_more p.before (entry ∷ []) p.reads p.within;
        gives = (inl refl, each_weaker _ _ wanted (λ e among. inr among) p.gives);
        spared = (spared, p.spared);
      }
      | inr read ↦
          let walk : Read R K E = record { target = read.target; source = read.source } in
          let more : List E = entries_in read.source in
          let walked : List E = read_of sys (at steps) step walk in
          record {
            before = more ++ p.before;
            may = each_append _ more p.before (each_entry _ read.source read.may) p.may;
            reads = walk ∷ p.reads;
            within = (each_use _ read.source (each_of _ more (λ e among. among-left more p.before e among)), reads_more p.before more p.reads p.within);
            gives = (
              among-right (more ++ p.before) (walked ++ flat_map (read_of sys (at steps) step) p.reads) entry (among-left walked (flat_map (read_of sys (at steps) step) p.reads) entry read.among),
              each_weaker _ _ wanted (λ e among. among_more p.before (flat_map (read_of sys (at steps) step) p.reads) more walked e among) p.gives,
            );
            spared = (spared, p.spared);
          }
    ]

-- the walks by the numbers of what they use
pub record AreWalks {S T R K E L A : Type 0} (sys : System S T R K E L A) (i : Holder S E) (step : T) (reads : List (Read R K E)) : Type 0 where
  pub walks : List (Walk R K)
  pub are : flat_map (read_by sys i step) walks ≡ flat_map (read_of sys i.state step) reads

pub walks_of : {S T R K E L A : Type 0} (sys : System S T R K E L A) (i : Holder S E) (step : T) (reads : List (Read R K E)) → AllByRecursion (λ (read : Read R K E). EachUse (IsAmong i.holds) read.source) reads → AreWalks sys i step reads
walks_of sys i step [] h = record { walks = []; are = refl }
walks_of {S} {T} {R} {K} {E} sys i step (read ∷ reads) h =
    let u : AreUsed i.holds read.source = uses_of i.holds read.source h.0 in
    let w : AreWalks sys i step reads = walks_of sys i step reads h.1 in
    record {
      walks = record { target = read.target; uses = u.uses } ∷ w.walks;
      are = λ n. reads_of sys i.state (u.are n) (aimed sys i.state step read.target) ++ w.are n;
    }

-- One step: an IOMMU that has done as the run, and holds what the plan wants and what the run caches, can do so again and hold just
-- these entries.
stepped : {S T R K E L A : Type 0} (sys : System S T R K E L A) (run : Run S T K E A) → IsRun sys run → (step : T) (steps : List T) (wanted : List E) (p : Plan sys run.at step steps wanted) → DoesAlike sys run.at run.tells steps (p.before ++ entries_in (run.uses steps)) → DoesAlike sys run.at run.tells (step ∷ steps) wanted
stepped {S} {T} {R} {K} {E} {L} {A} sys run is step steps wanted p done =
    let cached : List E = entries_in (run.uses steps) in
    let i : Holder S E = end_as sys (run.at []) done.chosen in
    let here : S = run.at steps in
    let in_i : (e : E) → IsAmong (p.before ++ cached) e → IsAmong i.holds e = λ e among. subst (λ (held : List E). IsAmong held e) (sym done.holds) among in
    let u : AreUsed i.holds (run.uses steps) = uses_of i.holds (run.uses steps)
    (each_use _ (run.uses steps) (each_of _ cached (λ e among. in_i e (among-right p.before cached e among)))) in
    let w : AreWalks sys i step p.reads = walks_of sys i step p.reads
    (each_weaker _ _ p.reads (λ read within. each_weaker _ _ read.source (λ used among. in_i used.1 (among-left p.before cached used.1 among)) within) p.within) in
    let own : Walk R K = record { target = None; uses = u.uses } in
    let first : List E = read_by sys i step own in
    let rest : List E = flat_map (read_by sys i step) w.walks in
    let rest_is : rest ≡ flat_map (read_of sys here step) p.reads =
    w.are ∙ ap (λ (s : S). flat_map (read_of sys s step) p.reads) done.state in
    let in_gained : (e : E) → IsAmong (p.before ++ flat_map (read_of sys here step) p.reads) e → IsAmong (i.holds ++ (first ++ rest)) e =
    λ e among. elim (among_either p.before (flat_map (read_of sys here step) p.reads) e among) [
      | inl old ↦ among-left i.holds (first ++ rest) e (in_i e (among-left p.before cached e old))
      | inr new ↦ among-right i.holds (first ++ rest) e (among-right first rest e (subst (λ (xs : List E). IsAmong xs e) (sym rest_is) new))
    ] in
    let n : AreAt (i.holds ++ (first ++ rest)) wanted = numbers_of (i.holds ++ (first ++ rest)) wanted
    (each_weaker _ _ wanted in_gained p.gives) in
    let choice : Choice R K = record { uses = u.uses; again = w.walks; keeps = n.numbers } in
    let led : led_as sys i step choice ≡ led_of sys here (run.uses steps) (sys.asked here step) =
    λ k. led_of sys (done.state k) (u.are k) (sys.asked (done.state k) step) in
    let reply = (λ k. sys.reply (done.state k) step (led k)) ∙ sym (is.answer steps step) in
    record {
      chosen = (step, choice) ∷ done.chosen;
      steps_are = ap (λ (steps : List T). step ∷ steps) done.steps_are;
      state = (λ k. sys.after (done.state k) step (led k)) ∙ sym (is.state steps step);
      replies_are = λ k. reply k ∷ done.replies_are k;
      holds = (λ k. undropped sys (done.state k) step (n.are k)) ∙ filter_all _ wanted p.spared;
    }

pub reached : {S T R K E L A : Type 0} (sys : System S T R K E L A) (run : Run S T K E A) → IsRun sys run → (steps : List T) (wanted : List E) → AllByRecursion (MayHold sys run.at steps) wanted → DoesAlike sys run.at run.tells steps wanted
reached sys run is [] [] h = record { chosen = []; steps_are = refl; state = refl; replies_are = refl; holds = refl }
reached sys run is [] (entry ∷ wanted) h = absurd (h.0)
reached sys run is (step ∷ steps) wanted h =
    let p = planned sys run.at step steps wanted h in
    let cached = entries_in (run.uses steps) in
    stepped sys run is step steps wanted p
    (reached sys run is steps (p.before ++ cached)
    (each_append _ p.before cached p.may (each_of _ cached (cache_may sys run is steps))))

-- what the run caches is held by a system that does as the run
pub own : {S T R K E L A : Type 0} (sys : System S T R K E L A) (run : Run S T K E A) → IsRun sys run → (steps : List T) → DoesAlike sys run.at run.tells steps (entries_in (run.uses steps))
own sys run is steps =
    reached sys run is steps _ (each_of _ (entries_in (run.uses steps)) (cache_may sys run is steps))

pub taken : {S T R K E L A : Type 0} (sys : System S T R K E L A) (run : Run S T K E A) → IsRun sys run → (steps : List T) (source : List (K × E)) → EachUse (MayHold sys run.at steps) source → CanUse sys run.at run.tells steps source
taken {S} {T} {R} {K} {E} sys run is steps source may =
    let entries : List E = entries_in source in
    let done : DoesAlike sys run.at run.tells steps entries = reached sys run is steps entries (each_entry _ source may) in
    let i : Holder S E = end_as sys (run.at []) done.chosen in
    let u : AreUsed i.holds source = uses_of i.holds source (each_use _ source (each_of _ entries (λ e among. subst (λ (held : List E). IsAmong held e) (sym done.holds) among))) in
    record {
      entries = entries;
      done = done;
      uses = u.uses;
      used = u.are;
      led = λ request n. led_of sys (done.state n) (u.are n) request;
    }
