use Rattle.std.proofs.Common.{drop}
use Rattle.iom_judge.specs.Covering.{NoneCovers}
use Rattle.iom_judge.proofs.thinning.is_covered.Given as goal

-- if none of those that remain covers it, none does
abbrev pub invariant-loop-other : goal.invariant-loop-other
invariant-loop-other l = NoneCovers (drop l.other-index l.all) l.one → NoneCovers l.all l.one
