use Rattle.std.proofs.Common.{drop}
use Rattle.std.specs.List.{AllByRecursion}
use Rattle.iom_judge.specs.Including.{IsHeldIn}
use Rattle.iom_held.specs.Shelves.{Shelf}
use Rattle.iom_judge.proofs.including.includes.Given as goal

-- if those on the shelves that remain are held, all are
abbrev pub invariant-loop-shelf : goal.invariant-loop-shelf
invariant-loop-shelf l =
    AllByRecursion (λ (shelf : Shelf). AllByRecursion (IsHeldIn l.all) shelf.items) (drop l.shelf-index l.shelf-items) →
    AllByRecursion (λ (shelf : Shelf). AllByRecursion (IsHeldIn l.all) shelf.items) l.shelf-items
