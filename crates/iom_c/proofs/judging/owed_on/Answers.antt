use Rattle.std.proofs.Common.{[]}
use Rattle.iom_core.specs.State.{state_on}
use Rattle.iom_c.proofs.Owing.{owed_of}
use Rattle.iom_c.proofs.judging.owed_on.Goals as goal

pub returns : goal.returns
returns g c = owed_of c.owed.result (λ owed. owed.items) c.args.holdings.now (state_on (g.M.Region.memory c.args.ram.now) c.args.board.now) (c.owed.ensures [])
