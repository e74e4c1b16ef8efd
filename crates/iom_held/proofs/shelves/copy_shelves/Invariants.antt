use Rattle.std.proofs.Common.{◌≡◌, map, take, vec_items}
use Rattle.iom_held.proofs.shelves.copy_shelves.Given as goal

-- the shelves so far were copied
abbrev pub invariant-loop-shelf : goal.invariant-loop-shelf
invariant-loop-shelf l = map vec_items l.copies.items ≡ map vec_items (take l.shelf-index l.shelves)
