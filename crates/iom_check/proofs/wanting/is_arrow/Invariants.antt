use Rattle.std.proofs.Common.{◌≡◌, drop}
use Rattle.iom_check.specs.Wanted.{is_arrow}
use Rattle.iom_check.proofs.wanting.is_arrow.Given as goal

-- what remains decides
abbrev pub invariant-loop-byte : goal.invariant-loop-byte
invariant-loop-byte l = is_arrow (drop l.byte-index l.text) ≡ is_arrow l.text
