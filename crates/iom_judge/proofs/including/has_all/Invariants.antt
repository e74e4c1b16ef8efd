use Rattle.std.proofs.Common.{drop}
use Rattle.std.specs.List.{AllByRecursion}
use Rattle.iom_judge.specs.Including.{IsHeldIn}
use Rattle.iom_judge.proofs.including.has_all.Given as goal

-- if those that remain are held, all are
abbrev pub invariant-loop-kept : goal.invariant-loop-kept
invariant-loop-kept l = AllByRecursion (IsHeldIn l.all) (drop l.kept-index l.few) → AllByRecursion (IsHeldIn l.all) l.few
