-- This model's run with pauses is one of an IOMMU that may also pause.
use Rattle.std.proofs.Common.{Bool, List}
use Rattle.iom_choices.specs.Late.{DropsNamed, IsLateRun, late_run}
use Rattle.iom_choices.specs.Models.{IsRun, end_of, run_of}
use Rattle.iom_choices.specs.Pauses.{AreHeldTogether, paused, paused_at, paused_commands, paused_run}
use Rattle.iom_choices.specs.Settled.{EachUse}
use Rattle.iom_choices.proofs.Between.{held_together}
use Rattle.iom_choices.proofs.Late.{late_run_is}
use Rattle.iom_choices.proofs.Outlasting.{NumberedSource, numbered_source}
use Rattle.iom_choices.proofs.Pauses.{paused_is, paused_named}
use Rattle.iom_choices.proofs.Reached.{taken as taken_up}
use Rattle.iom_core.specs.State.{State}
use Rattle.iom_core.specs.Warrants.{IsUncached}
use Rattle.iom_core.specs.declared.access.Request.{Request}
use Rattle.iom_core.specs.declared.step.Step.{Step}
use Rattle.iom_every.specs.Entries.{Entry}
use Rattle.iom_every.specs.Every.{IsUsedEver, MayEver, every_iommu, iommu, platform, queue_commands}
use Rattle.iom_every.specs.Rows.{bare}
use Rattle.iom_every.specs.Uses.{Look}
use Rattle.iom_every.proofs.Caching.{drops_named, runs}

pub paused_drops : (ahead : Request → Bool) → DropsNamed (paused (iommu ahead)) (paused_commands queue_commands)
paused_drops ahead = paused_named (iommu ahead) queue_commands (drops_named ahead)

pub paused_runs : (ahead : Request → Bool) (start : State) → IsUncached start → IsRun (paused (iommu ahead)) (paused_run (run_of platform start))
paused_runs ahead start none = paused_is (iommu ahead) (run_of platform start) (runs ahead start none)

pub paused_late : (ahead : Request → Bool) (start : State) → IsUncached start → IsLateRun (paused (iommu ahead)) (paused_commands queue_commands) (paused_run (run_of platform start))
paused_late ahead start none =
    late_run_is (paused (iommu ahead)) (paused_commands queue_commands) (paused_drops ahead) (paused_run (run_of platform start)) (paused_runs ahead start none)

-- what may be held ever is used by some IOMMU
pub used_ever : (ahead : Request → Bool) (start : State) (steps : List Step) (source : List (Look × Entry)) → IsUncached start → EachUse (MayEver ahead start steps) source → IsUsedEver ahead start steps source
used_ever ahead start steps source none each =
    let at : List Step → State = λ steps. bare (end_of platform start steps) in
    let held : AreHeldTogether (iommu ahead) queue_commands at steps source = held_together (iommu ahead) queue_commands at steps source each in
    let numbered : NumberedSource (paused (iommu ahead)) (paused_commands queue_commands) (paused_at at) held.paused_steps source =
    numbered_source (paused (iommu ahead)) (paused_commands queue_commands) (paused_at at) held.paused_steps source held.may in
    record {
      paused_steps = held.paused_steps;
      same = held.same;
      numbered = numbered.numbered;
      is = numbered.same;
      can = taken_up (every_iommu ahead) (late_run (paused_commands queue_commands) (paused_run (run_of platform start)) (paused_late ahead start none).numbered) (paused_late ahead start none).is
          held.paused_steps numbered.numbered numbered.may;
    }
