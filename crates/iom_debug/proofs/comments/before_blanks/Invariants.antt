use Rattle.std.proofs.Common.{◌≡◌, ◌≤◌, length, take}
use Rattle.iom_debug.specs.Comments.{before_blanks}
use Rattle.iom_debug.proofs.comments.before_blanks.Given as goal

abbrev pub invariant-loop-end : goal.invariant-loop-end
invariant-loop-end l = record {
  within : l.end ≤ length l.text;
  same : before_blanks (take l.end l.text) ≡ before_blanks l.text;
}

abbrev pub decreases-loop-end : goal.decreases-loop-end
decreases-loop-end l = l.end
