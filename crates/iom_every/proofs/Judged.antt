-- The walks of the IOMMUs that a judge allows are trees, and this model's run is one of theirs.
use Rattle.std.proofs.Common.{ℕ, ◌≡◌, ◌∙◌, Bool, List, Option, Some, None, refl, sym, ap}
use Rattle.iom_choices.specs.Late.{DropsNamed, Late, late_at}
use Rattle.iom_choices.specs.Marked.{telling}
use Rattle.iom_choices.specs.Models.{IsRun, Run, end_of, run_of}
use Rattle.iom_choices.specs.Systems.{led_of}
use Rattle.iom_choices.specs.Thorough.{IsThoroughRun}
use Rattle.iom_choices.specs.Trees.{AreAhead, AreTrees}
use Rattle.iom_choices.proofs.Thorough.{thorough_run_is, thorough_trees}
use Rattle.iom_core.specs.State.{State}
use Rattle.iom_core.specs.Table.{request_of_step}
use Rattle.iom_core.specs.Warrants.{IsUncached}
use Rattle.iom_core.specs.declared.access.Request.{Request}
use Rattle.iom_core.specs.declared.step.Answer.{Answer}
use Rattle.iom_core.specs.declared.step.Step.{Step}
use Rattle.iom_every.specs.Entries.{Entry}
use Rattle.iom_queue.specs.declared.command.Command.{Command}
use Rattle.iom_every.specs.Every.{cached, iommu, is_listed, platform, queue_commands}
use Rattle.iom_every.specs.Judged.{goes_of, judged_iommu, judged_tree, tells}
use Rattle.iom_every.specs.Making.{translations}
use Rattle.iom_every.specs.Rows.{bare}
use Rattle.iom_every.specs.Trees.{every_tree}
use Rattle.iom_every.specs.Uses.{Look}
use Rattle.iom_every.specs.Ways.{Goes}
use Rattle.iom_every.proofs.Ahead.{is_among, listed, trees}
use Rattle.iom_every.proofs.Caching.{drops_named, runs}
use Rattle.iom_every.proofs.Kept.{asks_bare}
use Rattle.iom_every.proofs.Rows.{goes_is}

pub telling_trees : (ahead : Request → Bool) → AreTrees (telling (iommu ahead)) every_tree
telling_trees ahead = record { way = (trees ahead).way; apart = (trees ahead).apart }

pub telling_drops : (ahead : Request → Bool) → DropsNamed (telling (iommu ahead)) queue_commands
telling_drops ahead state taken entry = drops_named ahead state taken entry

went : (ahead : Request → Bool) (state : State) (request : Option Request) → goes_of state request ≡ led_of (iommu ahead) (bare state) (cached state) request
went ahead state None = refl
went ahead state (Some request) = ap Some (sym (goes_is state request))

-- this model's run, whose answers tell besides where each access went
abbrev pub telling_run : State → Run State Step Look Entry (Answer × Option Goes)
telling_run start = record { at = (run_of platform start).at; tells = tells start; uses = (run_of platform start).uses }

pub telling_runs : (ahead : Request → Bool) (start : State) → IsUncached start → IsRun (telling (iommu ahead)) (telling_run start)
telling_runs ahead start none = record {
  none = (runs ahead start none).none;
  state = (runs ahead start none).state;
  answer = λ steps step.
      let state : State = end_of platform start steps in
      let same : goes_of state (request_of_step state step) ≡ led_of (iommu ahead) (bare state) (cached state) (request_of_step (bare state) step) =
      ap (goes_of state) (sym (asks_bare state step)) ∙ went ahead state (request_of_step (bare state) step) in
      λ n. ((runs ahead start none).answer steps step n, same n);
  kept = (runs ahead start none).kept;
}

pub telling_thorough : (ahead : Request → Bool) (start : State) → IsUncached start → IsThoroughRun (telling (iommu ahead)) queue_commands translations every_tree (telling_run start)
telling_thorough ahead start none =
    thorough_run_is (telling (iommu ahead)) queue_commands translations every_tree (telling_trees ahead) (telling_drops ahead) (telling_run start) (telling_runs ahead start none)

abbrev pub judged_run : State → (List Step → List (Look × (Entry × Option ℕ))) → Run (Late State Command) Step Look (Entry × Option ℕ) (Answer × Option Goes)
judged_run start marked = record { at = late_at queue_commands (telling_run start).at; tells = tells start; uses = marked }

pub judged_trees : (requests : List Request) → AreTrees (judged_iommu (is_listed requests)) judged_tree
judged_trees requests = thorough_trees (telling (iommu (is_listed requests))) queue_commands translations every_tree (telling_trees (is_listed requests))

pub judged_ahead : (requests : List Request) → AreAhead (judged_iommu (is_listed requests)) requests
judged_ahead requests = record {
  each = λ request among. listed requests request among;
  covered = λ request is. record { other = request; among = is_among requests request is; reads = λ state source. refl };
}
