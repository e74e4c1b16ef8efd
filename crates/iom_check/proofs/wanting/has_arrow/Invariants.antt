use Rattle.std.proofs.Common.{◌≡◌, drop}
use Rattle.iom_check.specs.Wanted.{has_arrow}
use Rattle.iom_check.proofs.wanting.has_arrow.Given as goal

-- what remains decides
abbrev pub invariant-loop-i : goal.invariant-loop-i
invariant-loop-i l = has_arrow (drop l.i l.line) ≡ has_arrow l.line
