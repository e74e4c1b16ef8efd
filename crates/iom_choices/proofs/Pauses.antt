-- Runs with pauses are runs of a system; and a closed list bounds what may be held after any pauses.
use Rattle.std.proofs.Common.{◌≡◌, ◌∙◌, ◌⊎◌, false, List, ◌∷◌, Option, Some, None, refl, ap, subst, inl, inr}
use Rattle.iom_choices.specs.Systems.{System, IsAmong, led_of, reads_of}
use Rattle.iom_choices.specs.Models.{IsRun, Run, entries_in}
use Rattle.iom_choices.specs.Late.{Commands, DropsNamed}
use Rattle.iom_choices.specs.Pauses.{paused, paused_commands, paused_run, taken}

pub led_paused : {S T R K E L A : Type 0} (sys : System S T R K E L A) (state : S) (source : List (K × E)) (request : Option R) → led_of sys state source request ≡ led_of (paused sys) state source request
led_paused sys state source None = refl
led_paused sys state source (Some request) = refl

pub reads_paused : {S T R K E L A : Type 0} (sys : System S T R K E L A) (state : S) (source : List (K × E)) (request : Option R) → reads_of sys state source request ≡ reads_of (paused sys) state source request
reads_paused sys state source None = refl
reads_paused sys state source (Some request) = refl

paused_state : {S T R K E L A : Type 0} (sys : System S T R K E L A) (run : Run S T K E A) → IsRun sys run → (steps : List (Option T)) (step : Option T) →
    run.at (taken (step ∷ steps)) ≡ (paused sys).after (run.at (taken steps)) step (led_of (paused sys) (run.at (taken steps)) (run.uses (taken steps)) ((paused sys).asked (run.at (taken steps)) step))
paused_state sys run is steps None = refl
paused_state {L = L} sys run is steps (Some step) =
    is.state (taken steps) step ∙ ap (λ (led : Option L). sys.after (run.at (taken steps)) step led) (led_paused sys (run.at (taken steps)) (run.uses (taken steps)) (sys.asked (run.at (taken steps)) step))

paused_answer : {S T R K E L A : Type 0} (sys : System S T R K E L A) (run : Run S T K E A) → IsRun sys run → (steps : List (Option T)) (step : Option T) →
    (paused_run run).tells steps step ≡ (paused sys).reply (run.at (taken steps)) step (led_of (paused sys) (run.at (taken steps)) (run.uses (taken steps)) ((paused sys).asked (run.at (taken steps)) step))
paused_answer sys run is steps None = refl
paused_answer {L = L} sys run is steps (Some step) =
    ap Some (is.answer (taken steps) step ∙ ap (λ (led : Option L). sys.reply (run.at (taken steps)) step led) (led_paused sys (run.at (taken steps)) (run.uses (taken steps)) (sys.asked (run.at (taken steps)) step)))

paused_kept : {S T R K E L A : Type 0} (sys : System S T R K E L A) (run : Run S T K E A) → IsRun sys run → (steps : List (Option T)) (step : Option T) (entry : E) → IsAmong (entries_in (run.uses (taken (step ∷ steps)))) entry →
    ((paused sys).drops (run.at (taken steps)) step entry ≡ false)
    × (IsAmong (entries_in (run.uses (taken steps))) entry ⊎ IsAmong (reads_of (paused sys) (run.at (taken steps)) (run.uses (taken steps)) ((paused sys).asked (run.at (taken steps)) step)) entry)
paused_kept sys run is steps None entry h = (refl, inl h)
paused_kept {E = E} sys run is steps (Some step) entry h =
    let k = is.kept (taken steps) step entry h in (
      k.0,
      elim k.1 [
        | inl old ↦ inl old
        | inr new ↦ inr (subst (λ (reads : List E). IsAmong reads entry) (reads_paused sys (run.at (taken steps)) (run.uses (taken steps)) (sys.asked (run.at (taken steps)) step)) new)
      ],
    )

pub paused_is : {S T R K E L A : Type 0} (sys : System S T R K E L A) (run : Run S T K E A) → IsRun sys run → IsRun (paused sys) (paused_run run)
paused_is sys run is = record {
  none = is.none;
  state = λ steps step. paused_state sys run is steps step;
  answer = λ steps step. paused_answer sys run is steps step;
  kept = λ steps step entry h. paused_kept sys run is steps step entry h;
}

pub paused_named : {S T R K E L A C : Type 0} (sys : System S T R K E L A) (commands : Commands S T E C) → DropsNamed sys commands → DropsNamed (paused sys) (paused_commands commands)
paused_named sys commands named state None entry = refl
paused_named sys commands named state (Some step) entry = named state step entry
