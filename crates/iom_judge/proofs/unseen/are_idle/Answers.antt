use Rattle.iom_judge.specs.Candidates.{CandidateView}
use Rattle.iom_judge.specs.Idle.{IsIdle}
use Rattle.iom_judge.proofs.Each.{all_end}
use Rattle.iom_judge.proofs.Times.{idle_any_time}
use Rattle.iom_judge.proofs.unseen.are_idle.Goals as goal

pub returns : goal.returns
returns c = λ idle start traces are n most.
    idle_any_time start traces c.args.step.now n c.args.candidates.now
    (all_end (λ (candidate : CandidateView). IsIdle c.args.step.now candidate.platform) c.args.candidates.now c.loop-candidate.candidate-index c.loop-candidate-test.false c.loop-candidate.invariant) are
