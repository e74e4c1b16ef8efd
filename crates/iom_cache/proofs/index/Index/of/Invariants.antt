use Rattle.std.proofs.Common.{take}
use Rattle.iom_cache.specs.Index.{IsIndex}
use Rattle.iom_cache.proofs.index.Index.of.Given as goal

-- the index so far is that of the places so far
abbrev pub invariant-loop-at : goal.invariant-loop-at
invariant-loop-at l = IsIndex l.index (take l.at l.places)
