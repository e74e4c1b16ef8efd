use Rattle.std.proofs.Common.{List, subst, sym}
use Rattle.iom_judge.specs.Behind.{AreBehind}
use Rattle.iom_judge.specs.Candidates.{AreApart, CandidateView}
use Rattle.iom_judge.proofs.Folding.{Goes, begun, goes_end, goes_next}
use Rattle.iom_judge.proofs.Judged.{went_thin}
use Rattle.iom_judge.proofs.behind.behind.Goals as goal

pub loop-candidate-preserved : goal.loop-candidate-preserved
loop-candidate-preserved c = (
  c.in_ok-put_behind.ensures.apart,
  goes_next (AreBehind c.args.step.now c.args.seen.now) c.args.candidates.now c.args.candidates.now c.loop-candidate.candidate-index c.candidate-item.result c.loop-candidate.next.items c.put_behind.new.all.items
      c.loop-candidate.invariant.1 c.loop-candidate-test.true c.candidate-item.is c.in_ok-put_behind.ensures.thinned,
)

pub returns-clause-follows : goal.returns-clause-follows
returns-clause-follows c = λ start traces are.
    went_thin start traces c.args.candidates.now c.loop-candidate.next.items c.args.step.now c.args.seen.now are
    (goes_end (AreBehind c.args.step.now c.args.seen.now) c.args.candidates.now c.args.candidates.now c.loop-candidate.candidate-index c.loop-candidate.next.items c.loop-candidate.invariant.1 c.loop-candidate-test.false)

pub loop-candidate-init : goal.loop-candidate-init
loop-candidate-init c =
    let F : CandidateView → List CandidateView → Type 0 = AreBehind c.args.step.now c.args.seen.now in
    subst (λ (next : List CandidateView). AreApart next × Goes F c.args.candidates.now c.args.candidates.now next) (sym c.new-next.ensures.items) (tt, begun F c.args.candidates.now)
