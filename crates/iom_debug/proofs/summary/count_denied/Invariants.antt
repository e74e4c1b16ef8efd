use Rattle.std.proofs.Common.{◌≡◌, ◌++◌, map, take, drop}
use Rattle.iom_debug.specs.Summary.{denied_with}
use Rattle.iom_debug.proofs.summary.count_denied.Given as goal

-- the counts so far have the access, the rest are as they were
abbrev pub invariant-loop-entry : goal.invariant-loop-entry
invariant-loop-entry l =
    l.counts ≡ map (denied_with l.outcome) (take l.entry-index l.fn.counts) ++ drop l.entry-index l.fn.counts
