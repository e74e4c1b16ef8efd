use Rattle.std.proofs.Common.{◌≡◌, drop, true}
use Rattle.std.specs.List.{AllByRecursion}
use Rattle.iom_held.specs.Kept.{may_lend}
use Rattle.iom_held.specs.declared.kept.Kept.{Kept}
use Rattle.iom_held.proofs.lending.each_may_lend.Given as goal

-- if those that remain may lend, all may
abbrev pub invariant-loop-kept : goal.invariant-loop-kept
invariant-loop-kept l = AllByRecursion (λ (kept : Kept). may_lend kept ≡ true) (drop l.kept-index l.all) → AllByRecursion (λ (kept : Kept). may_lend kept ≡ true) l.all
