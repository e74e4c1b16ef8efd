-- A walk doesn't look at the offset in a page: RISC-V Privileged Architecture 1.12, "Sv39: Page-Based 39-bit Virtual-Memory
-- System". So all addresses of a page have one end, over one source of words.
use Rattle.std.specs.Prelude.{ℕ, ◌≡◌, ◌/◌}
use Rattle.iom_bits.specs.declared.causes.Kind.{Kind}
use Rattle.iom_walk.specs.declared.source.Got.{Got}
use Rattle.iom_walk.specs.declared.shape.Format.{Format}
use Rattle.iom_walk.specs.Outcome.{outcome_of}

abbrev pub OneEndAPage : Type 0
OneEndAPage = (at : ℕ → Got) (format : Format) (root addr other : ℕ) (kind : Kind) → addr / 4096 ≡ other / 4096 →
    outcome_of at format root addr kind ≡ outcome_of at format root other kind
