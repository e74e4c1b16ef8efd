use Rattle.std.proofs.Common.{◌≡◌, ◌||◌, drop}
use Rattle.iom_held.specs.Kept.{HasNoneTwice}
use Rattle.iom_judge.specs.Candidates.{is_any_fit}
use Rattle.iom_judge.specs.Showing.{can_any_show}
use Rattle.iom_judge.specs.declared.seen.Seen.{Seen}
use Rattle.iom_judge.proofs.possible.find_possible.Given as goal

-- what the answers tell that are there, and those of the candidates to come, all tell
abbrev pub invariant-loop-candidate : goal.invariant-loop-candidate
invariant-loop-candidate l =
    ((seen : Seen) → (is_any_fit seen l.all.items || can_any_show l.step seen (drop l.candidate-index l.candidates)) ≡ can_any_show l.step seen l.candidates)
    × HasNoneTwice l.all.items
