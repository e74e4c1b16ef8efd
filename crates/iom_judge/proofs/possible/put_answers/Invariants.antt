use Rattle.std.proofs.Common.{◌≡◌, ◌||◌, drop}
use Rattle.iom_held.specs.Kept.{HasNoneTwice}
use Rattle.iom_judge.specs.Candidates.{is_any_fit}
use Rattle.iom_judge.specs.Showing.{shows_at}
use Rattle.iom_judge.specs.declared.seen.Seen.{Seen}
use Rattle.iom_judge.proofs.possible.put_answers.Given as goal

-- what the answers tell that are there, and those that are to come, all tell
abbrev pub invariant-loop-goes : goal.invariant-loop-goes
invariant-loop-goes l =
    ((seen : Seen) → (is_any_fit seen l.all.items || shows_at l.platform l.step seen (drop l.goes-index l.places)) ≡ (is_any_fit seen l.fn.all.items || shows_at l.platform l.step seen l.places))
    × HasNoneTwice l.all.items
