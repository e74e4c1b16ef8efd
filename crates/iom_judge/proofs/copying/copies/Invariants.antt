use Rattle.std.proofs.Common.{◌≡◌, ◌++◌, drop}
use Rattle.iom_judge.proofs.copying.copies.Given as goal

-- the copies, and those to come, are all
abbrev pub invariant-loop-candidate : goal.invariant-loop-candidate
invariant-loop-candidate l = l.all.items ++ drop l.candidate-index l.candidates ≡ l.candidates
