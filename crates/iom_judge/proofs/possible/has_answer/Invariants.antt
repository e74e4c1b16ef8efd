use Rattle.std.proofs.Common.{drop}
use Rattle.iom_choices.specs.Systems.{IsAmong}
use Rattle.iom_judge.proofs.possible.has_answer.Given as goal

-- if it is there, it is among those that remain
abbrev pub invariant-loop-one : goal.invariant-loop-one
invariant-loop-one l = IsAmong l.all (record { answer = l.answer; goes = l.goes }) → IsAmong (drop l.one-index l.all) (record { answer = l.answer; goes = l.goes })
