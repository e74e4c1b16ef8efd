-- What a script on an image leaves, and its warrants.
use Rattle.std.proofs.Common.{◌≡◌, ℕ, List, [], take, Option, Result, Ok, Err, ◌⊎◌, inl, inr, ap, subst}
use Rattle.iom_core.specs.State.{State}
use Rattle.iom_core.specs.Run.{end_of}
use Rattle.iom_core.specs.Warrants.{IsUncached}
use Rattle.iom_core.proofs.Warranted.{warranted}
use Rattle.iom_image.specs.Image.{Image}
use Rattle.iom_image.specs.Loading.{state_from}
use Rattle.iom_image.specs.Reading.{image_of, mapped}
use Rattle.iom_image.proofs.Found.{read_as}
use Rattle.iom_reader.specs.declared.fault.RunFault.{RunFault}
use Rattle.iom_reader.specs.declared.fault.RunFault.TheVariants as fault
use Rattle.iom_tool.specs.declared.trace.TracedStep.{TracedStep}
use Rattle.iom_tool.specs.Console.{Console, console}
use Rattle.iom_tool.specs.Output.{after}
use Rattle.iom_play.specs.Playing.{Plays, steps_done}
use Rattle.iom_reader.specs.Answering.{Progress, progress}
use Rattle.iom_reader.specs.Running.{Ends}
use Rattle.iom_tool.specs.Running.{Answered, HalfAnswered, by_steps}

-- whether a write failed or a flush
failed : (old new : Progress Console) (lines : List (List ℕ)) (A : Type 0) → HalfAnswered old new lines ⊎ (A × Answered old new lines) →
    new.console ≡ after old.console lines
failed old new lines A (inl half) = half.console
failed old new lines A (inr all) = all.1.console

leaves : (unread left : Option (List ℕ)) (old new : Progress Console) (ended : Result (Unit {0}) RunFault) (run : Ends by_steps unread left old new ended) →
    new.console.state ≡ end_of old.console.state (steps_done unread left old new ended run)
leaves unread left old new (Ok done) run = ap (λ now. now.state) run.answered.console
leaves unread left old new (Err fault.Read) run = ap (λ now. now.state) run.answered.console
leaves unread left old new (Err fault.Write) run = ap (λ now. now.state) (failed old new run.lines (run.lost ≡ []) run.answered)
leaves unread left old new (Err fault.TooLong) run = ap (λ now. now.state) run.answered.console

uncached : (image : Image) → IsUncached (state_from image)
uncached image = record { contexts = tt; pages = tt }

plays_from : (start : State) (unread left written holds : Option (List ℕ)) (end : Console) (ended : Result (Unit {0}) RunFault) →
    Ends by_steps unread left (progress written (console start [])) (progress holds end) ended → IsUncached start → Plays start unread left written holds end ended
plays_from start unread left written holds end ended run none = record {
  run = run;
  state = leaves unread left (progress written (console start [])) (progress holds end) ended run;
  warrants = λ n. warranted start (take n (steps_done unread left (progress written (console start [])) (progress holds end) ended run)) none;
}

pub plays : (bytes : List ℕ) (platform : State) (trace : List TracedStep) (unread left written holds : Option (List ℕ)) (end : Console)
    (ended : Result (Unit {0}) RunFault) → mapped state_from (image_of bytes) ≡ Ok platform → trace ≡ [] →
    Ends by_steps unread left (progress written (console platform trace)) (progress holds end) ended →
    (found : Image) × (image_of bytes ≡ Ok found) × Plays (state_from found) unread left written holds end ended
plays bytes platform trace unread left written holds end ended is empty run =
    let from = read_as state_from (image_of bytes) platform is in
    let untraced = subst (λ kept. Ends by_steps unread left (progress written (console platform kept)) (progress holds end) ended) empty run in
    let started = subst (λ start. Ends by_steps unread left (progress written (console start [])) (progress holds end) ended) from.2 untraced in
    (from.0, from.1, plays_from (state_from from.0) unread left written holds end ended started (uncached from.0))
