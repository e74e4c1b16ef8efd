use Rattle.std.proofs.Common.{◌≡◌, drop, not}
use Rattle.std.specs.List.{find}
use Rattle.iom_walk.specs.Path.{verdict_on}
use Rattle.iom_walk.specs.Verdict.{is_pointer}
use Rattle.iom_walk.proofs.met.first_end.Given as goal

-- the first of those that are left is the first of all
abbrev pub invariant-loop-entry : goal.invariant-loop-entry
invariant-loop-entry l =
    find (λ entry. not (is_pointer (verdict_on l.rules l.kind entry))) (drop l.entry-index l.path)
    ≡ find (λ entry. not (is_pointer (verdict_on l.rules l.kind entry))) l.path
