-- A queue that is made ready.
use Rattle.std.proofs.Common.{ℕ, Bool, true, List, refl}
use Rattle.iom_virtq.specs.Chains.{DescriptorChain}
use Rattle.iom_blk.specs.declared.phase.Phase.{Phase}
use Rattle.iom_blk.specs.declared.phase.Phase.TheVariants.{Index, Ring, Descriptor, Header, Data, Status, UsedId, UsedLen, UsedIdx}
use Rattle.iom_blk.specs.Sound.{HoldsIn}

-- what holds of a request holds too where the queue is ready
pub still : (ready : Bool) (size : ℕ) (chain : DescriptorChain) (header : List ℕ) (sectors : ℕ) (read_only : Bool) (phase : Phase) →
    HoldsIn ready size chain header sectors read_only phase → HoldsIn true size chain header sectors read_only phase
still ready size chain header sectors read_only Index held = held
still ready size chain header sectors read_only Ring held = refl
still ready size chain header sectors read_only (Descriptor i) held = (refl, held.1, held.2, held.3)
still ready size chain header sectors read_only Header held = (refl, held.1, held.2, held.3)
still ready size chain header sectors read_only (Data position) held = (refl, held.1, held.2, held.3, held.4, held.5)
still ready size chain header sectors read_only Status held = (refl, held.1)
still ready size chain header sectors read_only UsedId held = refl
still ready size chain header sectors read_only UsedLen held = refl
still ready size chain header sectors read_only UsedIdx held = refl
