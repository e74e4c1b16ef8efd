use Rattle.iom_choices.proofs.Alike.{alike, replies_alike}
use Rattle.iom_choices.specs.Late.{late_run}
use Rattle.iom_choices.specs.Models.{run_of}
use Rattle.iom_choices.specs.Pauses.{paused_commands, paused_run}
use Rattle.iom_every.specs.Every.{platform, prefetching_iommu, queue_commands}
use Rattle.iom_every.proofs.Prefetching.{prefetching_late, settled_ahead, used_ahead}
use Rattle.iom_every.proofs.laws.prefetching_iommus_answer_alike.Goals as goal

pub returns-clause-state : goal.returns-clause-state
returns-clause-state c = λ ahead start chosen none settled.
    (alike (prefetching_iommu ahead) (late_run (paused_commands queue_commands) (paused_run (run_of platform start)) (prefetching_late ahead start none).numbered) (prefetching_late ahead start none).is chosen settled).state

pub returns-clause-answers : goal.returns-clause-answers
returns-clause-answers c = λ ahead start chosen none settled.
    replies_alike (prefetching_iommu ahead) (late_run (paused_commands queue_commands) (paused_run (run_of platform start)) (prefetching_late ahead start none).numbered) (prefetching_late ahead start none).is chosen settled

pub returns-clause-settled : goal.returns-clause-settled
returns-clause-settled c = λ ahead start steps request settled. settled_ahead ahead start steps request settled

pub returns-clause-used : goal.returns-clause-used
returns-clause-used c = λ ahead start steps source none each. used_ahead ahead start steps source none each
