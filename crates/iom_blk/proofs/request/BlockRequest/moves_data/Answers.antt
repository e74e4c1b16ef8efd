use Rattle.iom_blk.specs.Requests.{moves_data}
use Rattle.std.proofs.Common.{rules}
use Rattle.iom_blk.proofs.request.BlockRequest.moves_data.Goals as goal

pub returns-then-is_served : goal.returns-then-is_served
unfolding moves_data
returns-then-is_served c = search rules

pub returns-else-is_served : goal.returns-else-is_served
unfolding moves_data
returns-else-is_served c = search rules
