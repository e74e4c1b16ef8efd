use Rattle.std.proofs.Common.{drop}
use Rattle.iom_judge.specs.Behind.{AreBehind}
use Rattle.iom_judge.specs.Candidates.{AreApart}
use Rattle.iom_judge.proofs.Folding.{Goes}
use Rattle.iom_judge.proofs.behind.behind.Given as goal

-- what the candidates to come add, behind what is there, is what all add
abbrev pub invariant-loop-candidate : goal.invariant-loop-candidate
invariant-loop-candidate l = AreApart l.next.items × Goes (AreBehind l.step l.seen) l.candidates (drop l.candidate-index l.candidates) l.next.items
