use Rattle.std.proofs.Common.{◌∙◌}
use Rattle.std.specs.Prelude.{is_some}
use Rattle.iom_saved.proofs.Taken.{page_front}
use Rattle.iom_saved.proofs.pages.take_place.Goals as goal

pub returns-in_err-flag-clause-taken : goal.returns-in_err-flag-clause-taken
returns-in_err-flag-clause-taken c = λ place rest are is. absurd (c.in_err-flag.ensures.taken (is_some place) _ (are ∙ page_front place rest))
