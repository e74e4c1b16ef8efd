-- A system that carries out each command as a whole holds nothing that may not be held late.
use Rattle.std.proofs.Common.{◌≡◌, ◌∙◌, ◌⊎◌, ◌&&◌, ◌||◌, ◌<◌, ◌++◌, ℕ, not, Bool, true, false, List, [], ◌∷◌, length, Option, Some, None, if◌then◌else◌, refl, sym, ap, subst, inl, inr}
use Rattle.std.proofs.lemmas.Bool.{lt-leb}
use Rattle.std.specs.Prelude.{flat_map, nat_le}
use Rattle.std.specs.List.{AllByRecursion}
use Rattle.iom_choices.specs.Systems.{System, IsAmong, aimed, led_of, reads_of}
use Rattle.iom_choices.specs.Choices.{Choice, Holder, Walk, end_as, gained, led_as, looked, next_as, numbered, read_by, replies_as, steps_of}
use Rattle.iom_choices.specs.Models.{IsRun, Run, replies_in}
use Rattle.iom_choices.specs.Settled.{AreSettled, EachUse, IsSettled, MayHold}
use Rattle.iom_choices.specs.Late.{Commands, DropsNamed, IsLateRun, Late, is_fence_by, is_named, late, late_at, late_run, left_pending, pending_at, unnumbered, with_command}
use Rattle.iom_choices.specs.Carried.{Due, carried_by, carrying, left_over, names_any, due_behind, picked_out, plain_steps, with_due}
use Rattle.iom_choices.proofs.Alike.{fails, uses_may}
use Rattle.iom_choices.proofs.Late.{aimed_late, each_earlier, late_run_is, led_late, reads_late}
use Rattle.iom_choices.proofs.Lists.{IsFrom, IsPassed, among_either, among_flat, each_weaker, passed}
use Rattle.iom_choices.proofs.Numbers.{among_numbered, each_looked}

-- no command that is still to be carried out is forgotten: a pending one is due, or doesn't name what is held
abbrev pub IsSpared : {S T E C : Type 0} → Commands S T E C → List (ℕ × C) → List C → E × ℕ → Type 0
IsSpared {S} {T} {E} {C} commands pending due held =
    AllByRecursion (λ (one : ℕ × C). IsAmong due one.1 ⊎ ((nat_le held.1 one.0 && commands.names one.1 held.0) ≡ false)) pending

or_left : (a b : Bool) → (a || b) ≡ false → a ≡ false
or_left true b is = absurd (cc)
or_left false b is = refl

or_right : (a b : Bool) → (a || b) ≡ false → b ≡ false
or_right true b is = absurd (cc)
or_right false b is = is

named_none : {S T E C : Type 0} (commands : Commands S T E C) (due : List C) (entry : E) (command : C) → names_any commands due entry ≡ false → IsAmong due command → commands.names command entry ≡ false
named_none commands [] entry command is h = absurd h
named_none {S} {T} {E} {C} commands (one ∷ due) entry command is (inl same) = subst (λ (command : C). commands.names command entry ≡ false) same (or_left (commands.names one entry) (names_any commands due entry) is)
named_none commands (one ∷ due) entry command is (inr h) = named_none commands due entry command (or_right (commands.names one entry) (names_any commands due entry) is) h

-- an due command is carried out or left over
picked_or_left : {C : Type 0} (flags : List Bool) (due : List C) (command : C) → IsAmong due command → IsAmong (left_over flags due) command ⊎ IsAmong (picked_out flags due) command
picked_or_left [] due command h = inl h
picked_or_left (flag ∷ flags) [] command h = absurd h
picked_or_left (true ∷ flags) (one ∷ due) command (inl same) = inr (inl same)
picked_or_left (true ∷ flags) (one ∷ due) command (inr h) = elim (picked_or_left flags due command h) [
  | inl left ↦ inl left
  | inr out ↦ inr (inr out)
]
picked_or_left (false ∷ flags) (one ∷ due) command (inl same) = inl (inl same)
picked_or_left (false ∷ flags) (one ∷ due) command (inr h) = elim (picked_or_left flags due command h) [
  | inl left ↦ inl (inr left)
  | inr out ↦ inr out
]

-- with the step's own command
spared_with : {S T E C : Type 0} (commands : Commands S T E C) (count : ℕ) (executed : Option C) (pending : List (ℕ × C)) (due : List C) (held : E × ℕ) →
    IsSpared commands pending due held → IsSpared commands (with_command count executed pending) (with_due executed due) held
spared_with commands count None pending due held h = h
spared_with {S} {T} {E} {C} commands count (Some command) pending due held h = (
  inl (inl refl),
  each_weaker (λ (one : ℕ × C). IsAmong due one.1 ⊎ ((nat_le held.1 one.0 && commands.names one.1 held.0) ≡ false)) (λ (one : ℕ × C). IsAmong (command ∷ due) one.1 ⊎ ((nat_le held.1 one.0 && commands.names one.1 held.0) ≡ false)) pending
      (λ one either. elim either [
        | inl among ↦ inl (inr among)
        | inr off ↦ inr off
      ]) h,
)

and_off : (a b : Bool) → b ≡ false → (a && b) ≡ false
and_off true b off = off
and_off false b off = refl

-- what is left over spares what isn't dropped; and where all is carried out, nothing pending names it
spared_left : {S T E C : Type 0} (commands : Commands S T E C) (flags : List Bool) (pending : List (ℕ × C)) (due : List C) (held : E × ℕ) →
    names_any commands (picked_out flags due) held.0 ≡ false → IsSpared commands pending due held → IsSpared commands pending (left_over flags due) held
spared_left {S} {T} {E} {C} commands flags pending due held none h =
    each_weaker (λ (one : ℕ × C). IsAmong due one.1 ⊎ ((nat_le held.1 one.0 && commands.names one.1 held.0) ≡ false)) (λ (one : ℕ × C). IsAmong (left_over flags due) one.1 ⊎ ((nat_le held.1 one.0 && commands.names one.1 held.0) ≡ false)) pending
    (λ one either. elim either [
      | inl among ↦ elim (picked_or_left flags due one.1 among) [
        | inl left ↦ inl left
        | inr out ↦ inr (and_off (nat_le held.1 one.0) (commands.names one.1 held.0) (named_none commands (picked_out flags due) held.0 one.1 none out))
      ]
      | inr off ↦ inr off
    ]) h

spared_none : {S T E C : Type 0} (commands : Commands S T E C) (pending : List (ℕ × C)) (due : List C) (held : E × ℕ) →
    names_any commands due held.0 ≡ false → IsSpared commands pending due held → is_named commands pending held ≡ false
spared_none commands [] due held none h = refl
spared_none commands (one ∷ pending) due held none h =
    let here : (nat_le held.1 one.0 && commands.names one.1 held.0) ≡ false = elim h.0 [
      | inl among ↦ and_off (nat_le held.1 one.0) (commands.names one.1 held.0) (named_none commands due held.0 one.1 none among)
      | inr off ↦ off
    ] in rw (here, spared_none commands pending due held none h.1) refl

-- one step, whose own command is this, of an entry that it doesn't drop
record StaysLate {S T E C : Type 0} (commands : Commands S T E C) (count : ℕ) (executed : Option C) (flags : List Bool) (pending : List (ℕ × C)) (due : List C) (held : E × ℕ) : Type 0 where
  pub drops : (is_fence_by commands executed && is_named commands (with_command count executed pending) held) ≡ false
  pub spared : IsSpared commands (left_pending commands count executed pending) (due_behind commands executed flags due) held

stays_late : {S T E C : Type 0} (commands : Commands S T E C) (count : ℕ) (executed : Option C) (flags : List Bool) (pending : List (ℕ × C)) (due : List C) (held : E × ℕ) →
    names_any commands (carried_by commands executed flags due) held.0 ≡ false → IsSpared commands pending due held → StaysLate commands count executed flags pending due held
stays_late {S} {T} {E} {C} commands count executed flags pending due held none h =
    let more : IsSpared commands (with_command count executed pending) (with_due executed due) held = spared_with commands count executed pending due held h in
    let Goal : Bool → Type 0 = λ b.
    names_any commands (if b then with_due executed due else picked_out flags (with_due executed due)) held.0 ≡ false →
    ((b && is_named commands (with_command count executed pending) held) ≡ false)
    × IsSpared commands (if b then [] else with_command count executed pending) (if b then [] else left_over flags (with_due executed due)) held in
    let by_test : (b : Bool) → Goal b = λ b. elim b as Goal [
      | true ↦ λ none. (spared_none commands (with_command count executed pending) (with_due executed due) held none more, tt)
      | false ↦ λ none. (refl, spared_left commands flags (with_command count executed pending) (with_due executed due) held none more)
    ] in
    let k = by_test (is_fence_by commands executed) none in
    record { drops = k.0; spared = k.1 }

-- an entry that is read now
spared_fresh : {S T E C : Type 0} (commands : Commands S T E C) (due : List C) (entry : E) (count : ℕ) (pending : List (ℕ × C)) →
    AllByRecursion (λ (one : ℕ × C). one.0 < count) pending → IsSpared commands pending due (entry, count)
spared_fresh commands due entry count [] h = tt
spared_fresh {S} {T} {E} {C} commands due entry count (one ∷ pending) h =
    (inr (ap (λ (b : Bool). b && commands.names one.1 entry) (lt-leb count one.0 h.0)), spared_fresh commands due entry count pending h.1)

pub record HeldLate {S T R K E L A C : Type 0} (sys : System S T R K E L A) (commands : Commands S T E C) (at : List T → S) (due : List C) (steps : List T) (entry : E) : Type 0 where
  pub number : ℕ
  pub may : MayHold (late sys commands) (late_at commands at) steps (entry, number)
  pub spared : IsSpared commands (pending_at commands at steps) due (entry, number)

-- the run's state, and nothing is held but what may be held late
pub record IsCarriedAlike {S T R K E L A C : Type 0} (sys : System S T R K E L A) (commands : Commands S T E C) (at : List T → S) (i : Holder (Due S C) E) (steps : List T) : Type 0 where
  pub state : i.state.now ≡ at steps
  pub holds : (entry : E) → IsAmong i.holds entry → HeldLate sys commands at i.state.due steps entry

record NumberedSource {S T R K E L A C : Type 0} (sys : System S T R K E L A) (commands : Commands S T E C) (at : List T → S) (steps : List T) (source : List (K × E)) : Type 0 where
  pub numbered : List (K × (E × ℕ))
  pub same : unnumbered numbered ≡ source
  pub may : EachUse (MayHold (late sys commands) (late_at commands at) steps) numbered

numbered_source : {S T R K E L A C : Type 0} (sys : System S T R K E L A) (commands : Commands S T E C) (at : List T → S) (due : List C) (steps : List T) (source : List (K × E)) →
    EachUse (HeldLate sys commands at due steps) source → NumberedSource sys commands at steps source
numbered_source sys commands at due steps [] h = record { numbered = []; same = refl; may = tt }
numbered_source sys commands at due steps (used ∷ source) h =
    let rest : NumberedSource sys commands at steps source = numbered_source sys commands at due steps source h.1 in
    record { numbered = (used.0, (used.1, h.0.number)) ∷ rest.numbered; same = λ n. used ∷ rest.same n; may = (h.0.may, rest.may) }

pub reads_carrying : {S T R K E L A C : Type 0} (sys : System S T R K E L A) (commands : Commands S T E C) (state : Due S C) (source : List (K × E)) (request : Option R) →
    reads_of (carrying sys commands) state source request ≡ reads_of sys state.now source request
reads_carrying sys commands state source None = refl
reads_carrying sys commands state source (Some request) = refl

pub led_carrying : {S T R K E L A C : Type 0} (sys : System S T R K E L A) (commands : Commands S T E C) (state : Due S C) (source : List (K × E)) (request : Option R) →
    led_of (carrying sys commands) state source request ≡ led_of sys state.now source request
led_carrying sys commands state source None = refl
led_carrying sys commands state source (Some request) = refl

pub aimed_carrying : {S T R K E L A C : Type 0} (sys : System S T R K E L A) (commands : Commands S T E C) (state : Due S C) (step : T × List Bool) (target : Option R) →
    aimed (carrying sys commands) state step target ≡ aimed sys state.now step.0 target
aimed_carrying sys commands state step None = refl
aimed_carrying sys commands state step (Some request) = refl

holds_carried : {S T R K E L A C : Type 0} (sys : System S T R K E L A) (commands : Commands S T E C) (at : List T → S) (i : Holder (Due S C) E) (steps : List T) → IsCarriedAlike sys commands at i steps →
    (step : T × List Bool) (choice : Choice R K) (entry : E) → IsAmong (next_as (carrying sys commands) i step choice).holds entry →
    HeldLate sys commands at (due_behind commands (commands.executed i.state.now step.0) step.1 i.state.due) (step.0 ∷ steps) entry
holds_carried {S} {T} {R} {K} {E} {L} {A} {C} sys commands at i steps h step choice entry held =
    let due : List C = i.state.due in
    let own : Option C = commands.executed (at steps) step.0 in
    let pending : List (ℕ × C) = pending_at commands at steps in
    let p : IsPassed (λ (entry : E). not ((carrying sys commands).drops i.state step entry)) (numbered (gained (carrying sys commands) i step choice) choice.keeps) entry = passed _ _ entry held in
    let none : names_any commands (carried_by commands own step.1 due) entry ≡ false =
    subst (λ (s : S). names_any commands (carried_by commands (commands.executed s step.0) step.1 due) entry ≡ false) h.state (fails _ p.passes) in
    let walks : List (Walk R K) = record { target = None; uses = choice.uses } ∷ choice.again in
    let gained : IsAmong i.holds entry ⊎ IsAmong (flat_map (read_by (carrying sys commands) i step) walks) entry =
    among_either i.holds (flat_map (read_by (carrying sys commands) i step) walks) entry (among_numbered (i.holds ++ flat_map (read_by (carrying sys commands) i step) walks) choice.keeps entry p.among) in
    let back : (number : ℕ) → IsSpared commands (left_pending commands (length steps) own pending) (due_behind commands own step.1 due) (entry, number) →
    IsSpared commands (left_pending commands (length steps) own pending) (due_behind commands (commands.executed i.state.now step.0) step.1 due) (entry, number) =
    λ number spared. subst (λ (s : S). IsSpared commands (left_pending commands (length steps) own pending) (due_behind commands (commands.executed s step.0) step.1 due) (entry, number)) (sym h.state) spared in
    elim gained [
      | inl before ↦
          let k : HeldLate sys commands at due steps entry = h.holds entry before in
          let stays : StaysLate commands (length steps) own step.1 pending due (entry, k.number) = stays_late commands (length steps) own step.1 pending due (entry, k.number) none k.spared in
          record { number = k.number; may = (stays.drops, inl k.may); spared = back k.number stays.spared }
      | inr read ↦
          let f : IsFrom (read_by (carrying sys commands) i step) entry = among_flat (read_by (carrying sys commands) i step) walks entry read in
          let source : List (K × E) = looked i.holds f.source.uses in
          let target : Option R = aimed sys (at steps) step.0 f.source.target in
          let n : NumberedSource sys commands at steps source = numbered_source sys commands at due steps source (each_looked (HeldLate sys commands at due steps) i.holds f.source.uses h.holds) in
          let plain : IsAmong (reads_of sys (at steps) source target) entry =
          subst (λ (s : S). IsAmong (reads_of sys s source (aimed sys s step.0 f.source.target)) entry) h.state
          (subst (λ (reads : List E). IsAmong reads entry) (reads_carrying sys commands i.state source (aimed (carrying sys commands) i.state step f.source.target) ∙ ap (reads_of sys i.state.now source) (aimed_carrying sys commands i.state step f.source.target)) f.among) in
          let among : IsAmong (reads_of (late sys commands) (late_at commands at steps) n.numbered target) (entry, length steps) =
          reads_late sys commands (late_at commands at steps) n.numbered source n.same target entry plain in
          let stays : StaysLate commands (length steps) own step.1 pending due (entry, length steps) =
          stays_late commands (length steps) own step.1 pending due (entry, length steps) none (spared_fresh commands due entry (length steps) pending (each_earlier commands at steps)) in
          record {
            number = length steps;
            may = (
              stays.drops,
              inr (record {
                target = f.source.target;
                source = n.numbered;
                may = n.may;
                among = subst (λ (request : Option R). IsAmong (reads_of (late sys commands) (late_at commands at steps) n.numbered request) (entry, length steps)) (aimed_late sys commands (late_at commands at steps) step.0 f.source.target) among;
              }),
            );
            spared = back (length steps) stays.spared;
          }
    ]

-- where an access is settled late, it is led as the run's
led_carried : {S T R K E L A C : Type 0} (sys : System S T R K E L A) (commands : Commands S T E C) → DropsNamed sys commands → (run : Run S T K E A) → IsRun sys run →
    (i : Holder (Due S C) E) (steps : List T) → IsCarriedAlike sys commands run.at i steps → (step : T × List Bool) (choice : Choice R K) →
    IsSettled (late sys commands) (MayHold (late sys commands) (late_at commands run.at) steps) (late_at commands run.at steps) (sys.asked (run.at steps) step.0) →
    led_as (carrying sys commands) i step choice ≡ led_of sys (run.at steps) (run.uses steps) (sys.asked (run.at steps) step.0)
led_carried {S} {T} {R} {K} {E} {L} {A} {C} sys commands named run is i steps h step choice settled =
    let source : List (K × E) = looked i.holds choice.uses in
    let request : Option R = sys.asked (run.at steps) step.0 in
    let state : Late S C = late_at commands run.at steps in
    let n : NumberedSource sys commands run.at steps source = numbered_source sys commands run.at i.state.due steps source (each_looked (HeldLate sys commands run.at i.state.due steps) i.holds choice.uses h.holds) in
    let l : IsLateRun sys commands run = late_run_is sys commands named run is in
    led_carrying sys commands i.state source (sys.asked i.state.now step.0)
    ∙ ap (λ (s : S). led_of sys s source (sys.asked s step.0)) h.state
    ∙ led_late sys commands state n.numbered source n.same request
    ∙ settled n.numbered n.may
    ∙ sym (settled (l.numbered steps) (uses_may (late sys commands) (late_run commands run l.numbered) l.is steps))
    ∙ sym (led_late sys commands state (l.numbered steps) (run.uses steps) (l.same steps) request)

pub carried_alike : {S T R K E L A C : Type 0} (sys : System S T R K E L A) (commands : Commands S T E C) → DropsNamed sys commands → (run : Run S T K E A) → IsRun sys run →
    (chosen : List ((T × List Bool) × Choice R K)) → AreSettled (late sys commands) (late_at commands run.at) (plain_steps (steps_of chosen)) →
    IsCarriedAlike sys commands run.at (end_as (carrying sys commands) (record { now = run.at []; due = [] }) chosen) (plain_steps (steps_of chosen))
carried_alike sys commands named run is [] settled = record { state = refl; holds = λ entry h. absurd h }
carried_alike {S} {T} {R} {K} {E} {L} {A} {C} sys commands named run is (last ∷ chosen) settled =
    let i : Holder (Due S C) E = end_as (carrying sys commands) (record { now = run.at []; due = [] }) chosen in
    let steps : List T = plain_steps (steps_of chosen) in
    let h : IsCarriedAlike sys commands run.at i steps = carried_alike sys commands named run is chosen settled.1 in
    let led = led_carried sys commands named run is i steps h last.0 last.1 settled.0 in
    record {
      state = (λ n. sys.after (h.state n) last.0.0 (led n)) ∙ sym (is.state steps last.0.0);
      holds = λ entry held. holds_carried sys commands run.at i steps h last.0 last.1 entry held;
    }

pub carried_replies : {S T R K E L A C : Type 0} (sys : System S T R K E L A) (commands : Commands S T E C) → DropsNamed sys commands → (run : Run S T K E A) → IsRun sys run →
    (chosen : List ((T × List Bool) × Choice R K)) → AreSettled (late sys commands) (late_at commands run.at) (plain_steps (steps_of chosen)) →
    replies_as (carrying sys commands) (record { now = run.at []; due = [] }) chosen ≡ replies_in run.tells (plain_steps (steps_of chosen))
carried_replies sys commands named run is [] settled = refl
carried_replies {S} {T} {R} {K} {E} {L} {A} {C} sys commands named run is (last ∷ chosen) settled =
    let i : Holder (Due S C) E = end_as (carrying sys commands) (record { now = run.at []; due = [] }) chosen in
    let steps : List T = plain_steps (steps_of chosen) in
    let h : IsCarriedAlike sys commands run.at i steps = carried_alike sys commands named run is chosen settled.1 in
    let led = led_carried sys commands named run is i steps h last.0 last.1 settled.0 in
    let reply = (λ n. sys.reply (h.state n) last.0.0 (led n)) ∙ sym (is.answer steps last.0.0) in
    λ n. reply n ∷ carried_replies sys commands named run is chosen settled.1 n
