use Rattle.std.proofs.Common.{drop}
use Rattle.iom_judge.specs.Including.{IsHeldIn}
use Rattle.iom_judge.proofs.including.has_kept.Given as goal

-- if one is as good, one of those that remain is
abbrev pub invariant-loop-own : goal.invariant-loop-own
invariant-loop-own l = IsHeldIn l.all l.kept → IsHeldIn (drop l.own-index l.all) l.kept
