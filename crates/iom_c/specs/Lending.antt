-- A platform in front of memory that is lent for each call.
use Rattle.std.specs.Prelude.{ℕ}
use Rattle.iom_core.specs.State.{Board}

-- the IOMMU and the block devices; where the memory begins, and how many words of eight bytes it has
pub record Lending : Type 0 where
  pub board : Board
  pub base : ℕ
  pub count : ℕ
