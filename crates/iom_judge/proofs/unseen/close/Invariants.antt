use Rattle.std.proofs.Common.{List}
use Rattle.iom_core.specs.State.{State}
use Rattle.iom_core.specs.declared.step.Step.{Step}
use Rattle.iom_judge.specs.Candidates.{AreApart, AreCandidates}
use Rattle.iom_judge.specs.Unseen.{up_to}
use Rattle.iom_judge.specs.declared.seen.Seen.{Seen}
use Rattle.iom_judge.proofs.unseen.close.Given as goal

-- these are all that an IOMMU may be after the step so many times, at most
abbrev pub invariant-loop : goal.invariant-loop
invariant-loop l =
    AreApart l.all.items
    × ((start : State) (traces : List (List (Step × Seen))) → AreCandidates start traces l.fn.all.items → AreCandidates start (up_to l.counter l.step traces) l.all.items)
