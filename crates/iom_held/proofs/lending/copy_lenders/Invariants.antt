use Rattle.std.proofs.Common.{◌≡◌, map, take, vec_items}
use Rattle.iom_held.specs.Shelves.{lenders_on}
use Rattle.iom_held.proofs.lending.copy_lenders.Given as goal

-- those on the shelves so far were copied
abbrev pub invariant-loop-shelf : goal.invariant-loop-shelf
invariant-loop-shelf l = map vec_items l.copies.items ≡ map lenders_on (take l.shelf-index l.shelves)
