use Rattle.std.proofs.Common.{◌⊎◌, ◌-◌, take, vec_len}
use Rattle.iom_choices.specs.Systems.{IsAmong}
use Rattle.iom_judge.specs.Candidates.{AreApart, CandidateView, IsCovered}
use Rattle.iom_judge.specs.Covering.{CoversNone}
use Rattle.iom_judge.proofs.thinning.take_out_covered.Given as goal

-- those that were there are there, or are covered; of the first ones none is
abbrev pub invariant-loop-i : goal.invariant-loop-i
invariant-loop-i l =
    AreApart l.all.items
    × ((each : CandidateView) → IsAmong l.all.items each → IsAmong l.fn.all.items each)
    × ((each : CandidateView) → IsAmong l.fn.all.items each → IsAmong l.all.items each ⊎ IsCovered each l.one)
    × CoversNone (take l.i l.all.items) l.one

abbrev pub decreases-loop-i : goal.decreases-loop-i
decreases-loop-i l = vec_len l.all - l.i
