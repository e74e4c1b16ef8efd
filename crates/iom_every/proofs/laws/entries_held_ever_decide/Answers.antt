use Rattle.iom_choices.specs.Models.{end_of}
use Rattle.iom_choices.proofs.Between.{settled_paused}
use Rattle.iom_every.specs.Every.{iommu, platform, queue_commands}
use Rattle.iom_every.specs.Rows.{bare}
use Rattle.iom_every.proofs.Ever.{used_ever}
use Rattle.iom_every.proofs.laws.entries_held_ever_decide.Goals as goal

pub returns-clause-settled : goal.returns-clause-settled
returns-clause-settled c = λ ahead start steps request settled. settled_paused (iommu ahead) queue_commands (λ steps. bare (end_of platform start steps)) steps request settled

pub returns-clause-used : goal.returns-clause-used
returns-clause-used c = λ ahead start steps source none each. used_ever ahead start steps source none each
