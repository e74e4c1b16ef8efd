use Rattle.std.proofs.Common.{refl}
use Rattle.iom_ways.proofs.Looked.{ended_way}
use Rattle.iom_ways.proofs.Gathering.{one}
use Rattle.iom_ways.proofs.exploring.put_way.Goals as goal

pub returns : goal.returns
returns c = λ asks held. ended_way asks held _ _ _ (one _ _ _ _ c.in_ok-put_led.ensures c.in_ok-put_entries.ensures) refl
