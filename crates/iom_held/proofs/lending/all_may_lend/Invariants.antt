use Rattle.std.proofs.Common.{◌≡◌, drop, true}
use Rattle.std.specs.List.{AllByRecursion}
use Rattle.iom_held.specs.Kept.{may_lend}
use Rattle.iom_held.specs.Shelves.{entries_on}
use Rattle.iom_held.specs.declared.kept.Kept.{Kept}
use Rattle.iom_held.proofs.lending.all_may_lend.Given as goal

-- if those on the shelves that remain may lend, all may
abbrev pub invariant-loop-shelf : goal.invariant-loop-shelf
invariant-loop-shelf l =
    AllByRecursion (λ (kept : Kept). may_lend kept ≡ true) (entries_on (drop l.shelf-index l.shelves)) →
    AllByRecursion (λ (kept : Kept). may_lend kept ≡ true) (entries_on l.shelves)
