use Rattle.std.proofs.Common.{◌∙◌, List, ℕ, take, ap}
use Rattle.iom_account.proofs.Beside.{zeros_first}
use Rattle.iom_account.proofs.notes.zeros.Goals as goal

pub returns : goal.returns
returns g c = c.truncate.ensures.items ∙ ap (λ (xs : List ℕ). take c.args.count xs) c.from-notes.ensures.0 ∙ zeros_first c.args.count _ c.requires
