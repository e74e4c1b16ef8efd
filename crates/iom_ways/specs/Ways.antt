-- The ways that held entries allow a request, as sets that grow: RISC-V IOMMU Architecture 1.0, "Caching in-memory data structures".
use Rattle.std.specs.Prelude.{◌≡◌, ◌⊎◌, ◌↔◌, List, ◌∷◌, map}
use Rattle.iom_core.specs.declared.way.Way.{Way as Led}
use Rattle.iom_choices.specs.Systems.{IsAmong, ModelWalk}
use Rattle.iom_choices.specs.Trees.{reads_in}
use Rattle.iom_every.specs.declared.entry.Entry.{Entry}
use Rattle.iom_ways.specs.declared.ways.Ways.{Ways}

-- where each way leads
abbrev pub leads : List (ModelWalk Entry Led) → List Led
leads ways = map (λ (way : ModelWalk Entry Led). way.led) ways

-- these, and no others, are among the list besides what was
abbrev pub AreAdded : {X : Type 0} → List X → List X → List X → Type 0
AreAdded {X} news before after = (x : X) → IsAmong after x ↔ (IsAmong before x ⊎ IsAmong news x)

-- where these ways lead, and what they read, is added
pub record Gathers (ways : List (ModelWalk Entry Led)) (before after : Ways) : Type 0 where
  pub led : AreAdded (leads ways) before.led.items after.led.items
  pub reads : AreAdded (reads_in ways) before.reads.items after.reads.items

-- where these ways lead, and what they read, is there
pub record Has (ways : List (ModelWalk Entry Led)) (at : Ways) : Type 0 where
  pub led : (led : Led) → IsAmong (leads ways) led → IsAmong at.led.items led
  pub reads : (entry : Entry) → IsAmong (reads_in ways) entry → IsAmong at.reads.items entry

-- this way is the first
pub record BeginsWith (way : ModelWalk Entry Led) (ways : List (ModelWalk Entry Led)) : Type 0 where
  pub others : List (ModelWalk Entry Led)
  pub is : ways ≡ way ∷ others
