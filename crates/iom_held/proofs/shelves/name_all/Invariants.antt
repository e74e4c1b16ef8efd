use Rattle.std.proofs.Common.{◌≡◌, ◌++◌, map, take, drop}
use Rattle.iom_held.specs.Kept.{named_by}
use Rattle.iom_held.proofs.shelves.name_all.Given as goal

-- the entries so far are noted, the rest as they were
abbrev pub invariant-loop-each : goal.invariant-loop-each
invariant-loop-each l = l.kept ≡ map (named_by l.number l.command) (take l.each-index l.fn.kept) ++ drop l.each-index l.fn.kept
