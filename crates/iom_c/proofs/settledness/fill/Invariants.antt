use Rattle.std.proofs.Common.{◌≡◌, ◌++◌, map, take, drop}
use Rattle.iom_c.specs.Judging.{owed_of}
use Rattle.iom_c.proofs.settledness.fill.Given as goal

abbrev pub invariant-loop-i : goal.invariant-loop-i
invariant-loop-i l = l.out ≡ take l.i (map owed_of l.found) ++ drop l.i l.initial.out
