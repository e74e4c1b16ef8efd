use Rattle.std.proofs.Common.{◌∙◌, ◌==◌, ◌++◌, [], ◌∷◌, List, ap, refl}
use Rattle.std.specs.Prelude.{slice_set}
use Rattle.circular_buffer.specs.Buffer.{keep_last}
use Rattle.iom_tool.specs.declared.trace.TracedStep.{TracedStep}
use Rattle.iom_tool.specs.Ring.{kept_around}
use Rattle.iom_tool.proofs.Rings.{moved}
use Rattle.iom_tool.proofs.trace.Trace.keep.Goals as goal

pub returns : goal.returns
returns c =
    let spare = c.self.inside.spare in
    let places = c.self.inside.places.items in
    let entry : TracedStep = record { step = c.args.step; answer = c.args.answer } in
    ap (λ full. kept_around full c.advance.new.spare (slice_set places spare entry)) c.advance.ensures.full
    ∙ moved (spare == 32) c.self.inside.is_full spare c.advance.new.spare places entry c.self.invariant.0 c.self.invariant.1 refl c.advance.ensures.next
    ∙ ap (λ (l : List TracedStep). keep_last 32 (l ++ entry ∷ [])) c.self.view_is
