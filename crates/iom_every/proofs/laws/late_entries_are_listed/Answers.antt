use Rattle.iom_choices.proofs.Trees.{alike_settled, listed_may, may_listed, settled_alike}
use Rattle.iom_choices.proofs.Late.{late_trees}
use Rattle.iom_choices.specs.Late.{late_tree}
use Rattle.iom_every.specs.Every.{MayLate, iommu, is_listed, late_entries, late_iommu, late_view, queue_commands}
use Rattle.iom_every.specs.Trees.{every_tree}
use Rattle.iom_every.proofs.Ahead.{ahead_late, trees}
use Rattle.iom_choices.specs.Trees.{AreTrees}
use Rattle.iom_core.specs.declared.access.Request.{Request}
use Rattle.std.specs.Prelude.{List}
use Rattle.iom_every.proofs.laws.late_entries_are_listed.Goals as goal

late_ones : (requests : List Request) → AreTrees (late_iommu (is_listed requests)) (late_tree every_tree)
late_ones requests = late_trees (iommu (is_listed requests)) queue_commands every_tree (trees (is_listed requests))

pub returns-clause-held : goal.returns-clause-held
returns-clause-held c = λ requests start steps held. (
  listed_may (late_iommu (is_listed requests)) (late_tree every_tree) (late_ones requests) requests (ahead_late requests) (late_view start) steps held,
  may_listed (late_iommu (is_listed requests)) (late_tree every_tree) (late_ones requests) requests (ahead_late requests) (late_view start) steps held,
)

pub returns-clause-settled : goal.returns-clause-settled
returns-clause-settled c = λ requests start steps request. (
  alike_settled (late_iommu (is_listed requests)) (late_tree every_tree) (late_ones requests) (MayLate (is_listed requests) start steps) (late_entries requests start steps)
      (may_listed (late_iommu (is_listed requests)) (late_tree every_tree) (late_ones requests) requests (ahead_late requests) (late_view start) steps) (late_view start steps) request,
  settled_alike (late_iommu (is_listed requests)) (late_tree every_tree) (late_ones requests) (MayLate (is_listed requests) start steps) (late_entries requests start steps)
      (listed_may (late_iommu (is_listed requests)) (late_tree every_tree) (late_ones requests) requests (ahead_late requests) (late_view start) steps) (late_view start steps) request,
)
