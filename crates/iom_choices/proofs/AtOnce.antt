-- A system that drops at once is one that carries out each command in its own step.
use Rattle.std.proofs.Common.{◌≡◌, ◌∙◌, ◌||◌, ◌++◌, not, Bool, true, false, List, [], ◌∷◌, Option, Some, None, if◌then◌else◌, refl, sym, ap}
use Rattle.std.specs.Prelude.{filter, flat_map}
use Rattle.iom_choices.specs.Systems.{System, aimed, reads_of}
use Rattle.iom_choices.specs.Choices.{Choice, Holder, Walk, end_as, led_as, looked, next_as, numbered, read_by, replies_as, steps_of}
use Rattle.iom_choices.specs.Laws.{DoesAlike}
use Rattle.iom_choices.specs.Models.{IsRun, Run, entries_in}
use Rattle.iom_choices.specs.Late.{Commands, DropsNamed, named_by}
use Rattle.iom_choices.specs.Carried.{DoesAlikeCarried, Due, at_once, carried_by, carrying, due_behind, left_over, names_any, picked_out, plain_steps}
use Rattle.iom_choices.proofs.Carried.{aimed_carrying, led_carrying, reads_carrying}
use Rattle.iom_choices.proofs.Reached.{own}

abbrev lifted : {S E C : Type 0} → Holder S E → Holder (Due S C) E
lifted i = record { state = record { now = i.state; due = [] }; holds = i.holds }

none_due : {S T E C : Type 0} (commands : Commands S T E C) (executed : Option C) → due_behind commands executed (true ∷ []) [] ≡ []
none_due commands None = refl
none_due {C = C} commands (Some command) =
    let Goal : Bool → Type 0 = λ b. (if b then [] else left_over (true ∷ []) (command ∷ [])) ≡ [] in
    let by_test : (b : Bool) → Goal b = λ b. elim b as Goal [
      | true ↦ refl
      | false ↦ refl
    ] in by_test (commands.is_fence command)

or_false : (b : Bool) → (b || false) ≡ b
or_false true = refl
or_false false = refl

names_own : {S T E C : Type 0} (commands : Commands S T E C) (executed : Option C) (entry : E) → names_any commands (carried_by commands executed (true ∷ []) []) entry ≡ named_by commands executed entry
names_own commands None entry = refl
names_own commands (Some command) entry =
    let Goal : Bool → Type 0 = λ b. names_any commands (if b then command ∷ [] else picked_out (true ∷ []) (command ∷ [])) entry ≡ commands.names command entry in
    let by_test : (b : Bool) → Goal b = λ b. elim b as Goal [
      | true ↦ or_false (commands.names command entry)
      | false ↦ or_false (commands.names command entry)
    ] in by_test (commands.is_fence command)

-- one step
step_same : {S T R K E L A C : Type 0} (sys : System S T R K E L A) (commands : Commands S T E C) → DropsNamed sys commands → (i : Holder S E) (step : T) (choice : Choice R K) →
    next_as (carrying sys commands) (lifted i) (step, true ∷ []) choice ≡ lifted (next_as sys i step choice)
step_same {S} {T} {R} {K} {E} {L} {A} {C} sys commands named i step choice =
    let executed : Option C = commands.executed i.state step in
    let read : (walk : Walk R K) → read_by (carrying sys commands) (lifted i) (step, true ∷ []) walk ≡ read_by sys i step walk = λ walk.
    reads_carrying sys commands (record { now = i.state; due = [] }) (looked i.holds walk.uses) (aimed (carrying sys commands) (record { now = i.state; due = [] }) (step, true ∷ []) walk.target)
    ∙ ap (λ (request : Option R). reads_of sys i.state (looked i.holds walk.uses) request) (aimed_carrying sys commands (record { now = i.state; due = [] }) (step, true ∷ []) walk.target) in
    let led : led_as (carrying sys commands) (lifted i) (step, true ∷ []) choice ≡ led_as sys i step choice = led_carrying sys commands (record { now = i.state; due = [] }) (looked i.holds choice.uses) (sys.asked i.state step) in
    let drops : (entry : E) → names_any commands (carried_by commands executed (true ∷ []) []) entry ≡ sys.drops i.state step entry = λ entry. names_own commands executed entry ∙ sym (named i.state step entry) in
    let walks : List (Walk R K) = record { target = None; uses = choice.uses } ∷ choice.again in
    λ n. record {
      state = record { now = sys.after i.state step (led n); due = none_due commands executed n };
      holds = filter (λ entry. not (drops entry n)) (numbered (i.holds ++ flat_map (λ walk. read walk n) walks) choice.keeps);
    }

end_same : {S T R K E L A C : Type 0} (sys : System S T R K E L A) (commands : Commands S T E C) → DropsNamed sys commands → (start : S) (chosen : List (T × Choice R K)) →
    end_as (carrying sys commands) (record { now = start; due = [] }) (at_once chosen) ≡ lifted (end_as sys start chosen)
end_same sys commands named start [] = refl
end_same {S} {T} {R} {K} {E} {L} {A} {C} sys commands named start (last ∷ chosen) =
    ap (λ (i : Holder (Due S C) E). next_as (carrying sys commands) i (last.0, true ∷ []) last.1) (end_same sys commands named start chosen)
    ∙ step_same sys commands named (end_as sys start chosen) last.0 last.1

replies_same : {S T R K E L A C : Type 0} (sys : System S T R K E L A) (commands : Commands S T E C) → DropsNamed sys commands → (start : S) (chosen : List (T × Choice R K)) →
    replies_as (carrying sys commands) (record { now = start; due = [] }) (at_once chosen) ≡ replies_as sys start chosen
replies_same sys commands named start [] = refl
replies_same {S} {T} {R} {K} {E} {L} {A} {C} sys commands named start (last ∷ chosen) =
    let i : Holder S E = end_as sys start chosen in
    let reply = ap (λ (j : Holder (Due S C) E). sys.reply j.state.now last.0 (led_as (carrying sys commands) j (last.0, true ∷ []) last.1)) (end_same sys commands named start chosen)
    ∙ ap (λ (led : Option L). sys.reply i.state last.0 led) (led_carrying sys commands (record { now = i.state; due = [] }) (looked i.holds last.1.uses) (sys.asked i.state last.0)) in
    λ n. reply n ∷ replies_same sys commands named start chosen n

steps_same : {T R K : Type 0} (chosen : List (T × Choice R K)) → plain_steps (steps_of (at_once chosen)) ≡ steps_of chosen
steps_same [] = refl
steps_same {T} {R} {K} (last ∷ chosen) = ap (λ (steps : List T). last.0 ∷ steps) (steps_same chosen)

pub own_carried : {S T R K E L A C : Type 0} (sys : System S T R K E L A) (commands : Commands S T E C) → DropsNamed sys commands → (run : Run S T K E A) → IsRun sys run → (steps : List T) → DoesAlikeCarried sys commands run steps
own_carried {S} {T} {R} {K} {E} {L} {A} {C} sys commands named run is steps =
    let d : DoesAlike sys run.at run.tells steps (entries_in (run.uses steps)) = own sys run is steps in
    let e = end_same sys commands named (run.at []) d.chosen in
    record {
      chosen = at_once d.chosen;
      steps_are = steps_same d.chosen ∙ d.steps_are;
      state = ap (λ (i : Holder (Due S C) E). i.state) e ∙ (λ n. record { now = d.state n; due = [] });
      replies_are = replies_same sys commands named (run.at []) d.chosen ∙ d.replies_are;
      holds = ap (λ (i : Holder (Due S C) E). i.holds) e ∙ d.holds;
    }
