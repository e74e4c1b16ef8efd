use Rattle.iom_blk.specs.Requests.{status_of}
use Rattle.std.proofs.Common.{rules}
use Rattle.iom_blk.proofs.request.BlockRequest.status.Goals as goal

pub returns-then-is_served : goal.returns-then-is_served
unfolding status_of
returns-then-is_served c = search rules

pub returns-else-is_served : goal.returns-else-is_served
unfolding status_of
returns-else-is_served c = search rules

pub returns-else-kind-eq-FLUSH : goal.returns-else-kind-eq-FLUSH
unfolding status_of
returns-else-kind-eq-FLUSH c = search rules

pub returns-then-has_bit : goal.returns-then-has_bit
unfolding status_of
returns-then-has_bit c = search rules
