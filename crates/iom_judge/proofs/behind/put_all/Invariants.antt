use Rattle.std.proofs.Common.{◌++◌, List, drop}
use Rattle.std.specs.Prelude.{flat_map}
use Rattle.iom_judge.specs.Behind.{behind_one}
use Rattle.iom_judge.specs.Candidates.{AreApart, CandidateView}
use Rattle.iom_judge.specs.Covering.{IsThinned}
use Rattle.iom_judge.proofs.behind.put_all.Given as goal

-- what thins those that are there, with those to come, thins all
abbrev pub invariant-loop-goes : goal.invariant-loop-goes
invariant-loop-goes l =
    AreApart l.all.items
    × ((final : List CandidateView) → IsThinned (l.all.items ++ flat_map (behind_one l.candidate.platform l.held l.step l.seen) (drop l.goes-index l.places)) final →
    IsThinned (l.fn.all.items ++ flat_map (behind_one l.candidate.platform l.held l.step l.seen) l.places) final)
