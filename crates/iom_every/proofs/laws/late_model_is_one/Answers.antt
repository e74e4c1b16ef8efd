use Rattle.iom_choices.proofs.Late.{late_run_is, own_late}
use Rattle.iom_choices.proofs.Outlasting.{settled_at_once}
use Rattle.iom_choices.proofs.Reached.{taken}
use Rattle.iom_choices.specs.Late.{IsLateRun, late_run}
use Rattle.iom_choices.specs.Models.{end_of, run_of}
use Rattle.iom_every.specs.Every.{iommu, late_iommu, platform, queue_commands}
use Rattle.iom_every.specs.Rows.{bare}
use Rattle.iom_every.proofs.Caching.{drops_named, runs}
use Rattle.iom_every.proofs.laws.late_model_is_one.Goals as goal

pub returns-clause-does : goal.returns-clause-does
returns-clause-does c = λ ahead start steps none. own_late (iommu ahead) queue_commands (drops_named ahead) (run_of platform start) (runs ahead start none) steps

pub returns-clause-uses : goal.returns-clause-uses
returns-clause-uses c = λ ahead start steps source none may.
    let l : IsLateRun (iommu ahead) queue_commands (run_of platform start) = late_run_is (iommu ahead) queue_commands (drops_named ahead) (run_of platform start) (runs ahead start none) in
    taken (late_iommu ahead) (late_run queue_commands (run_of platform start) l.numbered) l.is steps source may

pub returns-clause-settled : goal.returns-clause-settled
returns-clause-settled c = λ ahead start steps request settled.
    settled_at_once (iommu ahead) queue_commands (drops_named ahead) (λ steps. bare (end_of platform start steps)) steps request settled
