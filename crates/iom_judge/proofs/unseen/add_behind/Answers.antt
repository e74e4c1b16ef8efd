use Rattle.std.proofs.Common.{◌++◌, List, subst, sym}
use Rattle.iom_choices.specs.Traces.{onward}
use Rattle.iom_judge.specs.Candidates.{AreCandidates, CandidateView}
use Rattle.iom_judge.specs.Seen.{unseen}
use Rattle.iom_judge.specs.declared.seen.Seen.{Seen}
use Rattle.iom_owed.proofs.Results.{on_ok}
use Rattle.iom_judge.proofs.Judged.{joins}
use Rattle.iom_judge.proofs.Thinned.{thins}
use Rattle.iom_judge.proofs.unseen.add_behind.Goals as goal

pub returns-clause-added : goal.returns-clause-added
returns-clause-added c = λ start traces are.
    let all : List CandidateView = c.args.all.now.items in
    let next : List CandidateView = c.in_ok-next.next.items in
    let behind : AreCandidates start (onward (c.args.step.now, unseen) traces) next =
    subst (λ (seen : Seen). AreCandidates start (onward (c.args.step.now, seen) traces) next) c.nothing.ensures
    (c.in_ok-next.ensures.follows start traces (subst (AreCandidates start traces) (sym c.deref.ensures.value) are)) in
    on_ok c.merge.result _ _
    (λ merged. thins start (traces ++ onward (c.args.step.now, unseen) traces) (all ++ next) c.merge.new.all.items
    (joins start traces (onward (c.args.step.now, unseen) traces) all next are behind) merged) c.merge.ensures.thinned
