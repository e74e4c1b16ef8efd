use Rattle.iom_blk.proofs.Served.{place_within}
use Rattle.iom_blk.specs.Phases.{ask_of}
use Rattle.std.proofs.Common.{rules}
use Rattle.iom_blk.proofs.device.Blk.access.Goals as goal

pub returns-in-Status-clause-asks : goal.returns-in-Status-clause-asks
unfolding ask_of
returns-in-Status-clause-asks c = search (rules, place_within)

pub returns-in-UsedIdx-clause-asks : goal.returns-in-UsedIdx-clause-asks
unfolding ask_of
returns-in-UsedIdx-clause-asks c = search (rules, place_within)
