use Rattle.iom_choices.proofs.Trees.{alike_settled, listed_may, may_listed, settled_alike}
use Rattle.iom_choices.specs.Models.{end_of}
use Rattle.iom_every.specs.Every.{MayAtOnce, held_entries, iommu, is_listed, platform}
use Rattle.iom_every.specs.Rows.{bare}
use Rattle.iom_every.specs.Trees.{every_tree}
use Rattle.iom_every.proofs.Ahead.{ahead, trees}
use Rattle.iom_every.proofs.laws.held_entries_are_listed.Goals as goal

pub returns-clause-held : goal.returns-clause-held
returns-clause-held c = λ requests start steps entry. (
  listed_may (iommu (is_listed requests)) every_tree (trees (is_listed requests)) requests (ahead requests) (λ steps. bare (end_of platform start steps)) steps entry,
  may_listed (iommu (is_listed requests)) every_tree (trees (is_listed requests)) requests (ahead requests) (λ steps. bare (end_of platform start steps)) steps entry,
)

pub returns-clause-settled : goal.returns-clause-settled
returns-clause-settled c = λ requests start steps request. (
  alike_settled (iommu (is_listed requests)) every_tree (trees (is_listed requests)) (MayAtOnce (is_listed requests) start steps) (held_entries requests start steps)
      (may_listed (iommu (is_listed requests)) every_tree (trees (is_listed requests)) requests (ahead requests) (λ steps. bare (end_of platform start steps)) steps) (bare (end_of platform start steps)) request,
  settled_alike (iommu (is_listed requests)) every_tree (trees (is_listed requests)) (MayAtOnce (is_listed requests) start steps) (held_entries requests start steps)
      (listed_may (iommu (is_listed requests)) every_tree (trees (is_listed requests)) requests (ahead requests) (λ steps. bare (end_of platform start steps)) steps) (bare (end_of platform start steps)) request,
)
