use Rattle.std.proofs.Common.{rules}
use Rattle.iom_core.specs.Table.{asked}
use Rattle.iom_core.proofs.board.Board.request_of.Goals as goal

pub returns-in-DmaWrite-clause-request : goal.returns-in-DmaWrite-clause-request
unfolding asked
returns-in-DmaWrite-clause-request g c = search rules
