use Rattle.iom_judge.specs.Showing.{can_show}
use Rattle.std.proofs.Common.{refl}
use Rattle.iom_judge.proofs.Allowed.{possible_is}
use Rattle.iom_judge.proofs.Any.{any_end, any_next}
use Rattle.iom_judge.proofs.possible.find_possible.Goals as goal

pub loop-candidate-preserved : goal.loop-candidate-preserved
loop-candidate-preserved c = (
  λ seen. any_next (can_show c.args.step.now seen) c.args.candidates.now c.loop-candidate.candidate-index c.candidate-item.result _ _ _
      c.loop-candidate-test.true c.candidate-item.is (c.in_ok-put_possible.ensures.shown seen) (c.loop-candidate.invariant.0 seen),
  c.in_ok-put_possible.ensures.once,
)

pub returns-clause-possible : goal.returns-clause-possible
returns-clause-possible c = λ start traces are.
    possible_is start traces c.args.candidates.now c.args.candidates.now c.args.step.now c.loop-candidate.all.items are refl
    (λ seen. any_end (can_show c.args.step.now seen) c.args.candidates.now c.loop-candidate.candidate-index _ _ c.loop-candidate-test.false (c.loop-candidate.invariant.0 seen))
