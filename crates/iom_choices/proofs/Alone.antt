-- A run is one of the system, too, that reads ahead by memory alone.
use Rattle.std.proofs.Common.{◌≡◌, ◌∙◌, ◌⊎◌, false, List, ◌∷◌, Option, Some, None, refl, ap, subst, inl, inr}
use Rattle.iom_choices.specs.Systems.{System, IsAmong, led_of, reads_of}
use Rattle.iom_choices.specs.Models.{IsRun, Run, entries_in}
use Rattle.iom_choices.specs.Pauses.{alone, own_walk}

pub led_alone : {S T R K E L A : Type 0} (sys : System S T R K E L A) (state : S) (source : List (K × E)) (request : Option R) → led_of sys state source request ≡ led_of (alone sys) state source (own_walk request)
led_alone sys state source None = refl
led_alone sys state source (Some request) = refl

pub reads_alone : {S T R K E L A : Type 0} (sys : System S T R K E L A) (state : S) (source : List (K × E)) (request : Option R) → reads_of sys state source request ≡ reads_of (alone sys) state source (own_walk request)
reads_alone sys state source None = refl
reads_alone sys state source (Some request) = refl

alone_kept : {S T R K E L A : Type 0} (sys : System S T R K E L A) (run : Run S T K E A) → IsRun sys run → (steps : List T) (step : T) (entry : E) → IsAmong (entries_in (run.uses (step ∷ steps))) entry →
    (sys.drops (run.at steps) step entry ≡ false)
    × (IsAmong (entries_in (run.uses steps)) entry ⊎ IsAmong (reads_of (alone sys) (run.at steps) (run.uses steps) (own_walk (sys.asked (run.at steps) step))) entry)
alone_kept {E = E} sys run is steps step entry h =
    let k = is.kept steps step entry h in (
      k.0,
      elim k.1 [
        | inl old ↦ inl old
        | inr new ↦ inr (subst (λ (reads : List E). IsAmong reads entry) (reads_alone sys (run.at steps) (run.uses steps) (sys.asked (run.at steps) step)) new)
      ],
    )

pub alone_is : {S T R K E L A : Type 0} (sys : System S T R K E L A) (run : Run S T K E A) → IsRun sys run → IsRun (alone sys) run
alone_is {L = L} sys run is = record {
  none = is.none;
  state = λ steps step. is.state steps step
      ∙ ap (λ (led : Option L). sys.after (run.at steps) step led) (led_alone sys (run.at steps) (run.uses steps) (sys.asked (run.at steps) step));
  answer = λ steps step. is.answer steps step
      ∙ ap (λ (led : Option L). sys.reply (run.at steps) step led) (led_alone sys (run.at steps) (run.uses steps) (sys.asked (run.at steps) step));
  kept = λ steps step entry h. alone_kept sys run is steps step entry h;
}
