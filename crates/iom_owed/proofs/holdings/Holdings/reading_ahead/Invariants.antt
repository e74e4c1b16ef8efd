use Rattle.std.proofs.Common.{take}
use Rattle.iom_owed.specs.Keys.{made_in}
use Rattle.iom_owed.proofs.Listed.{AreListed}
use Rattle.iom_owed.proofs.holdings.Holdings.reading_ahead.Given as goal

-- the first of them are put in
abbrev pub invariant-loop-request : goal.invariant-loop-request
invariant-loop-request l = AreListed (take l.request-index l.request-items) (made_in l.requests.entries)
