-- A trace of a run.
use Rattle.std.proofs.Common.{◌≡◌, ◌∙◌, Bool, List, [], ◌∷◌, refl, sym, ap, subst}
use Rattle.iom_choices.specs.Systems.{System}
use Rattle.iom_choices.specs.Choices.{Choice, replies_as, steps_of}
use Rattle.iom_choices.specs.Models.{IsRun, Run, replies_in}
use Rattle.iom_choices.specs.Settled.{AreSettled}
use Rattle.iom_choices.specs.Traces.{AllSeen, IsAllowed, Shows, steps_in}
use Rattle.iom_choices.proofs.Alike.{replies_alike}
use Rattle.iom_choices.proofs.Reached.{own}

head_is : {X : Type 0} (x y : X) (xs ys : List X) → x ∷ xs ≡ y ∷ ys → x ≡ y
head_is x y xs ys is = cc

tail_is : {X : Type 0} (x y : X) (xs ys : List X) → x ∷ xs ≡ y ∷ ys → xs ≡ ys
tail_is x y xs ys is = cc

shows_of : {S T R K E L A O : Type 0} (sys : System S T R K E L A) (fits : A → O → Bool) (start : S) (chosen : List (T × Choice R K)) (trace : List (T × O)) →
    steps_of chosen ≡ steps_in trace → AllSeen fits (replies_as sys start chosen) trace → Shows sys fits start chosen trace
shows_of sys fits start [] [] is seen = tt
shows_of sys fits start [] (each ∷ trace) is seen = seen
shows_of sys fits start (last ∷ chosen) [] is seen = seen
shows_of sys fits start (last ∷ chosen) (each ∷ trace) is seen = (
  head_is last.0 each.0 (steps_of chosen) (steps_in trace) is,
  seen.0,
  shows_of sys fits start chosen trace (tail_is last.0 each.0 (steps_of chosen) (steps_in trace) is) seen.1,
)

shown_steps : {S T R K E L A O : Type 0} (sys : System S T R K E L A) (fits : A → O → Bool) (start : S) (chosen : List (T × Choice R K)) (trace : List (T × O)) →
    Shows sys fits start chosen trace → steps_of chosen ≡ steps_in trace
shown_steps sys fits start [] [] shows = refl
shown_steps sys fits start [] (each ∷ trace) shows = absurd shows
shown_steps sys fits start (last ∷ chosen) [] shows = absurd shows
shown_steps sys fits start (last ∷ chosen) (each ∷ trace) shows = λ n. shows.0 n ∷ shown_steps sys fits start chosen trace shows.2 n

shown_seen : {S T R K E L A O : Type 0} (sys : System S T R K E L A) (fits : A → O → Bool) (start : S) (chosen : List (T × Choice R K)) (trace : List (T × O)) →
    Shows sys fits start chosen trace → AllSeen fits (replies_as sys start chosen) trace
shown_seen sys fits start [] [] shows = tt
shown_seen sys fits start [] (each ∷ trace) shows = shows
shown_seen sys fits start (last ∷ chosen) [] shows = shows
shown_seen sys fits start (last ∷ chosen) (each ∷ trace) shows = (shows.1, shown_seen sys fits start chosen trace shows.2)

pub run_allowed : {S T R K E L A O : Type 0} (sys : System S T R K E L A) (run : Run S T K E A) → IsRun sys run → (fits : A → O → Bool) → (trace : List (T × O)) →
    AllSeen fits (replies_in run.tells (steps_in trace)) trace → IsAllowed sys fits (run.at []) trace
run_allowed {S} {T} {R} {K} {E} {L} {A} {O} sys run is fits trace seen =
    let d = own sys run is (steps_in trace) in
    record {
      chosen = d.chosen;
      shows = shows_of sys fits (run.at []) d.chosen trace d.steps_are (subst (λ (answers : List A). AllSeen fits answers trace) (sym d.replies_are) seen);
    }

pub settled_seen : {S T R K E L A O : Type 0} (sys : System S T R K E L A) (run : Run S T K E A) → IsRun sys run → (fits : A → O → Bool) → (trace : List (T × O)) →
    AreSettled sys run.at (steps_in trace) → IsAllowed sys fits (run.at []) trace → AllSeen fits (replies_in run.tells (steps_in trace)) trace
settled_seen {S} {T} {R} {K} {E} {L} {A} {O} sys run is fits trace settled a =
    let steps : steps_of a.chosen ≡ steps_in trace = shown_steps sys fits (run.at []) a.chosen trace a.shows in
    let here : AreSettled sys run.at (steps_of a.chosen) = subst (AreSettled sys run.at) (sym steps) settled in
    let same : replies_as sys (run.at []) a.chosen ≡ replies_in run.tells (steps_in trace) =
    replies_alike sys run is a.chosen here ∙ ap (replies_in run.tells) steps in
    subst (λ (answers : List A). AllSeen fits answers trace) same (shown_seen sys fits (run.at []) a.chosen trace a.shows)
