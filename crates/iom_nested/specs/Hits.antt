-- Where a page of IOVAs leads.
use Rattle.std.specs.Prelude.{ℕ, Bool}

-- the frame's PPN; of the first stage's leaf its level, whether its mapping is global, and whether it has N set
pub record Page : Type 0 where
  pub frame : ℕ
  pub level : ℕ
  pub global : Bool
  pub napot : Bool
