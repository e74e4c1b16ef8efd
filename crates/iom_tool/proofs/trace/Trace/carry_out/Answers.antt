use Rattle.std.proofs.Common.{◌∙◌, ◌==◌, ◌++◌, [], ◌∷◌, List, ap, refl}
use Rattle.std.specs.Prelude.{slice_set}
use Rattle.circular_buffer.specs.Buffer.{keep_last}
use Rattle.iom_core.specs.declared.step.Answer.{Answer}
use Rattle.iom_tool.specs.declared.trace.TracedStep.{TracedStep}
use Rattle.iom_tool.specs.Ring.{kept_around}
use Rattle.iom_tool.specs.Texts.{text_of}
use Rattle.iom_tool.specs.Console.{traced}
use Rattle.iom_tool.proofs.Rings.{moved}
use Rattle.iom_tool.proofs.trace.Trace.carry_out.Goals as goal

pub returns-clause-step : goal.returns-clause-step
returns-clause-step c =
    let spare = c.self.inside.spare in
    let places = c.self.inside.places.items in
    let entry : TracedStep = c.carried_out.new.entry in
    let told = c.if-not-carried_out.ensures in
    λ _. (
      entry.step,
      told.step refl,
      told.state refl,
      told.told refl ∙ ap (λ (a : Answer). c.args.out.now ++ text_of a) (told.answer refl),
      ap (λ full. kept_around full c.advance.new.spare (slice_set places spare entry)) c.advance.ensures.full
          ∙ moved (spare == 32) c.self.inside.is_full spare c.advance.new.spare places entry c.self.invariant.0 c.self.invariant.1 refl c.advance.ensures.next
          ∙ ap (λ (l : List TracedStep). keep_last 32 (l ++ entry ∷ [])) c.self.view_is
          ∙ ap (λ (a : Answer). traced c.args.self.now entry.step a) (told.answer refl),
    )
