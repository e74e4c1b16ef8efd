use Rattle.std.proofs.Common.{◌≡◌, length}
use Rattle.iom_explain.proofs.walk.no_lines.Given as goal

abbrev pub invariant-loop-place : goal.invariant-loop-place
invariant-loop-place l = length l.lines.items ≡ l._place
