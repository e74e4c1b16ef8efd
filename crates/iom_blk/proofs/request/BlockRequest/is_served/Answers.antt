use Rattle.iom_blk.specs.Requests.{is_served}
use Rattle.std.proofs.Common.{rules}
use Rattle.iom_blk.proofs.request.BlockRequest.is_served.Goals as goal

pub returns-after-read_only : goal.returns-after-read_only
unfolding is_served
returns-after-read_only c = search rules
