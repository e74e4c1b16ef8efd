-- This model's run is one of an IOMMU that reads ahead by memory alone.
use Rattle.std.proofs.Common.{◌∙◌, Bool, List, [], Option, sym}
use Rattle.iom_choices.specs.Late.{DropsNamed, IsLateRun, late_run}
use Rattle.iom_choices.specs.Models.{IsRun, end_of, run_of}
use Rattle.iom_choices.specs.Pauses.{AreHeldTogether, own_walk, paused, paused_at, paused_commands, paused_run, taken}
use Rattle.iom_choices.specs.Settled.{EachUse, IsSettled, MayHold}
use Rattle.iom_choices.proofs.Alone.{alone_is, led_alone}
use Rattle.iom_choices.proofs.Between.{held_together, settled_paused}
use Rattle.iom_choices.proofs.Late.{late_run_is}
use Rattle.iom_choices.proofs.Outlasting.{NumberedSource, numbered_source}
use Rattle.iom_choices.proofs.Pauses.{paused_is, paused_named}
use Rattle.iom_choices.proofs.Reached.{taken as taken_up}
use Rattle.iom_core.specs.State.{State}
use Rattle.iom_core.specs.Warrants.{IsUncached}
use Rattle.iom_core.specs.declared.access.Request.{Request}
use Rattle.iom_core.specs.declared.step.Step.{Step}
use Rattle.iom_every.specs.Entries.{Entry}
use Rattle.iom_every.specs.Every.{IsUsedAhead, MayAhead, alone_iommu, every_view, iommu, platform, prefetching_iommu, queue_commands}
use Rattle.iom_every.specs.Rows.{bare}
use Rattle.iom_every.specs.Uses.{Look}
use Rattle.iom_every.proofs.Caching.{drops_named, runs}

prefetching_drops : (ahead : Request → Bool) → DropsNamed (paused (alone_iommu ahead)) (paused_commands queue_commands)
prefetching_drops ahead = paused_named (alone_iommu ahead) queue_commands (drops_named ahead)

prefetching_runs : (ahead : Request → Bool) (start : State) → IsUncached start → IsRun (paused (alone_iommu ahead)) (paused_run (run_of platform start))
prefetching_runs ahead start none = paused_is (alone_iommu ahead) (run_of platform start) (alone_is (iommu ahead) (run_of platform start) (runs ahead start none))

pub prefetching_late : (ahead : Request → Bool) (start : State) → IsUncached start → IsLateRun (paused (alone_iommu ahead)) (paused_commands queue_commands) (paused_run (run_of platform start))
prefetching_late ahead start none =
    late_run_is (paused (alone_iommu ahead)) (paused_commands queue_commands) (prefetching_drops ahead) (paused_run (run_of platform start)) (prefetching_runs ahead start none)

-- what may be held decides what is settled
pub settled_ahead : (ahead : Request → Bool) (start : State) (steps : List (Option Step)) (request : Option Request) →
    IsSettled (iommu ahead) (MayAhead ahead start (taken steps)) (bare (end_of platform start (taken steps))) request →
    IsSettled (prefetching_iommu ahead) (MayHold (prefetching_iommu ahead) (every_view start) steps) (every_view start steps) (own_walk request)
settled_ahead ahead start steps request settled =
    let at : List Step → State = λ steps. bare (end_of platform start steps) in
    let state : State = at (taken steps) in
    settled_paused (alone_iommu ahead) queue_commands at steps (own_walk request)
    (λ source each. sym (led_alone (iommu ahead) state source request) ∙ settled source each ∙ led_alone (iommu ahead) state [] request)

-- and is used by some such IOMMU
pub used_ahead : (ahead : Request → Bool) (start : State) (steps : List Step) (source : List (Look × Entry)) → IsUncached start → EachUse (MayAhead ahead start steps) source → IsUsedAhead ahead start steps source
used_ahead ahead start steps source none each =
    let at : List Step → State = λ steps. bare (end_of platform start steps) in
    let held : AreHeldTogether (alone_iommu ahead) queue_commands at steps source = held_together (alone_iommu ahead) queue_commands at steps source each in
    let numbered : NumberedSource (paused (alone_iommu ahead)) (paused_commands queue_commands) (paused_at at) held.paused_steps source =
    numbered_source (paused (alone_iommu ahead)) (paused_commands queue_commands) (paused_at at) held.paused_steps source held.may in
    record {
      paused_steps = held.paused_steps;
      same = held.same;
      numbered = numbered.numbered;
      is = numbered.same;
      can = taken_up (prefetching_iommu ahead) (late_run (paused_commands queue_commands) (paused_run (run_of platform start)) (prefetching_late ahead start none).numbered)
          (prefetching_late ahead start none).is held.paused_steps numbered.numbered numbered.may;
    }
