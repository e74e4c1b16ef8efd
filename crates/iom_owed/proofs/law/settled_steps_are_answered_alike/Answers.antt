use Rattle.std.proofs.Common.{ap}
use Rattle.iom_choices.proofs.Alike.{alike, replies_alike}
use Rattle.iom_choices.proofs.Carried.{carried_alike, carried_replies}
use Rattle.iom_choices.proofs.Late.{late_run_is}
use Rattle.iom_choices.specs.Carried.{plain_steps}
use Rattle.iom_choices.specs.Choices.{steps_of}
use Rattle.iom_choices.specs.Late.{IsLateRun, Late, late_run}
use Rattle.iom_choices.specs.Models.{run_of}
use Rattle.iom_core.specs.State.{State}
use Rattle.iom_core.specs.Warrants.{IsUncached}
use Rattle.iom_every.specs.Every.{iommu, is_listed, late_iommu, none_ahead, platform, queue_commands}
use Rattle.iom_every.proofs.Caching.{drops_named, runs}
use Rattle.iom_queue.specs.declared.command.Command.{Command}
use Rattle.iom_owed.proofs.Settled.{each_settled, each_settled_ahead}
use Rattle.iom_owed.proofs.law.settled_steps_are_answered_alike.Goals as goal

late_is : (start : State) → IsUncached start → IsLateRun (iommu none_ahead) queue_commands (run_of platform start)
late_is start none = late_run_is (iommu none_ahead) queue_commands (drops_named none_ahead) (run_of platform start) (runs none_ahead start none)

pub returns-clause-state : goal.returns-clause-state
returns-clause-state c = λ ahead start chosen none settled.
    ap (λ (late : Late State Command). late.now)
    (alike (late_iommu none_ahead) (late_run queue_commands (run_of platform start) (late_is start none).numbered) (late_is start none).is chosen (each_settled ahead start (steps_of chosen) settled)).state

pub returns-clause-answers : goal.returns-clause-answers
returns-clause-answers c = λ ahead start chosen none settled.
    replies_alike (late_iommu none_ahead) (late_run queue_commands (run_of platform start) (late_is start none).numbered) (late_is start none).is chosen (each_settled ahead start (steps_of chosen) settled)

pub returns-clause-carried_state : goal.returns-clause-carried_state
returns-clause-carried_state c = λ ahead start chosen none settled.
    (carried_alike (iommu none_ahead) queue_commands (drops_named none_ahead) (run_of platform start) (runs none_ahead start none) chosen (each_settled ahead start (plain_steps (steps_of chosen)) settled)).state

pub returns-clause-carried : goal.returns-clause-carried
returns-clause-carried c = λ ahead start chosen none settled.
    carried_replies (iommu none_ahead) queue_commands (drops_named none_ahead) (run_of platform start) (runs none_ahead start none) chosen (each_settled ahead start (plain_steps (steps_of chosen)) settled)

pub returns-clause-ahead_state : goal.returns-clause-ahead_state
returns-clause-ahead_state c = λ ahead start chosen none settled.
    c.prefetching_iommus_answer_alike.ensures.state (is_listed ahead) start chosen none (each_settled_ahead ahead start (steps_of chosen) settled)

pub returns-clause-ahead_answers : goal.returns-clause-ahead_answers
returns-clause-ahead_answers c = λ ahead start chosen none settled.
    c.prefetching_iommus_answer_alike.ensures.answers (is_listed ahead) start chosen none (each_settled_ahead ahead start (steps_of chosen) settled)
