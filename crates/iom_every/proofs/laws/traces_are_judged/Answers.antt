use Rattle.iom_choices.specs.Marked.{late_from, telling}
use Rattle.iom_choices.specs.Thorough.{IsThoroughRun}
use Rattle.iom_choices.proofs.Deciding.{allowed_marked, begun, goes_on, joined, marked_decides}
use Rattle.iom_choices.proofs.Seen.{run_allowed, settled_seen}
use Rattle.iom_choices.proofs.Traces.{allowed_possible, possible_allowed}
use Rattle.iom_choices.proofs.Unseen.{possible_unseen_allowed, unseen_possible}
use Rattle.iom_every.specs.Every.{iommu, is_listed, queue_commands}
use Rattle.iom_every.specs.Judged.{judged_iommu, judged_tree}
use Rattle.iom_every.specs.Making.{translations}
use Rattle.iom_every.specs.Rows.{bare}
use Rattle.iom_every.specs.Trees.{every_tree}
use Rattle.iom_every.proofs.Judged.{judged_ahead, judged_run, judged_trees, telling_run, telling_thorough, telling_trees}
use Rattle.iom_every.proofs.laws.traces_are_judged.Goals as goal

pub returns-clause-seen : goal.returns-clause-seen
returns-clause-seen g c = λ requests fits start trace. (
  possible_allowed (judged_iommu (is_listed requests)) judged_tree (judged_trees requests) requests (judged_ahead requests) fits (late_from (bare start)) trace,
  allowed_possible (judged_iommu (is_listed requests)) judged_tree (judged_trees requests) requests (judged_ahead requests) fits (late_from (bare start)) trace,
)

pub returns-clause-hidden : goal.returns-clause-hidden
returns-clause-hidden g c = λ requests fits hidden most thin thins start trace. (
  possible_unseen_allowed (judged_iommu (is_listed requests)) judged_tree (judged_trees requests) requests (judged_ahead requests) fits hidden most thin thins (late_from (bare start)) trace,
  unseen_possible (judged_iommu (is_listed requests)) judged_tree (judged_trees requests) requests (judged_ahead requests) fits hidden most thin thins (late_from (bare start)) trace,
)

pub returns-clause-begins : goal.returns-clause-begins
returns-clause-begins g c = λ requests fits start. begun (telling (iommu (is_listed requests))) queue_commands translations every_tree fits (bare start)

pub returns-clause-goes_on : goal.returns-clause-goes_on
returns-clause-goes_on g c = λ requests fits start traces list are seen next alike.
    goes_on (telling (iommu (is_listed requests))) queue_commands translations every_tree (telling_trees (is_listed requests)) requests (judged_ahead requests) fits (bare start) traces list are seen next alike

pub returns-clause-joins : goal.returns-clause-joins
returns-clause-joins g c = λ requests fits start traces others list more first second.
    joined (telling (iommu (is_listed requests))) queue_commands translations every_tree fits (bare start) traces others list more first second

pub returns-clause-decides : goal.returns-clause-decides
returns-clause-decides g c = λ requests fits start traces list are. (
  marked_decides (telling (iommu (is_listed requests))) queue_commands translations every_tree fits (bare start) traces list are,
  allowed_marked (telling (iommu (is_listed requests))) queue_commands translations every_tree fits (bare start) traces list are,
)

pub returns-clause-own : goal.returns-clause-own
returns-clause-own g c = λ ahead fits start trace none seen.
    let l : IsThoroughRun (telling (iommu ahead)) queue_commands translations every_tree (telling_run start) = telling_thorough ahead start none in
    run_allowed (judged_iommu ahead) (judged_run start l.marked) l.is fits trace seen

pub returns-clause-settled : goal.returns-clause-settled
returns-clause-settled g c = λ ahead fits start trace none settled allowed.
    let l : IsThoroughRun (telling (iommu ahead)) queue_commands translations every_tree (telling_run start) = telling_thorough ahead start none in
    settled_seen (judged_iommu ahead) (judged_run start l.marked) l.is fits trace settled allowed
