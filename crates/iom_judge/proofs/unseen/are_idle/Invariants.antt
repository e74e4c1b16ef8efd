use Rattle.std.proofs.Common.{drop}
use Rattle.iom_judge.specs.Idle.{EachIdle}
use Rattle.iom_judge.proofs.unseen.are_idle.Given as goal

-- if those that remain are idle, all are
abbrev pub invariant-loop-candidate : goal.invariant-loop-candidate
invariant-loop-candidate l = EachIdle l.step (drop l.candidate-index l.candidates) → EachIdle l.step l.candidates
