use Rattle.std.proofs.Common.{◌≡◌, take}
use Rattle.std.specs.Prelude.{fold}
use Rattle.iom_saved.specs.Check.{mixed}
use Rattle.iom_saved.proofs.check.check_of.Given as goal

-- the sum of the words so far
abbrev pub invariant-loop-word : goal.invariant-loop-word
invariant-loop-word l = l.sum ≡ fold mixed 0 (take l.word-index l.words)
