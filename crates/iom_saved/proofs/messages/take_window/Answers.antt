use Rattle.std.proofs.Common.{◌∙◌}
use Rattle.std.specs.Prelude.{is_some}
use Rattle.iom_saved.proofs.Taken.{window_front}
use Rattle.iom_saved.proofs.messages.take_window.Goals as goal

pub returns-in_err-has_window-clause-taken : goal.returns-in_err-has_window-clause-taken
returns-in_err-has_window-clause-taken c = λ window rest are. absurd (c.in_err-has_window.ensures.taken (is_some window) _ (are ∙ window_front window rest))
