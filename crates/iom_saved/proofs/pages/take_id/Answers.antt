use Rattle.std.proofs.Common.{◌∙◌}
use Rattle.std.specs.Prelude.{is_some}
use Rattle.iom_saved.proofs.Taken.{id_front}
use Rattle.iom_saved.proofs.pages.take_id.Goals as goal

pub returns-in_err-has_id-clause-taken : goal.returns-in_err-has_id-clause-taken
returns-in_err-has_id-clause-taken c = λ id rest are below. absurd (c.in_err-has_id.ensures.taken (is_some id) _ (are ∙ id_front id rest))
