use Rattle.std.proofs.Common.{take}
use Rattle.iom_held.specs.Naming.{AreTold, naming}
use Rattle.iom_held.specs.Shelves.{entries_on}
use Rattle.iom_held.proofs.naming.naming_on.Given as goal

-- those on the shelves so far are told
abbrev pub invariant-loop-shelf : goal.invariant-loop-shelf
invariant-loop-shelf l = AreTold (naming l.addr l.len (entries_on (take l.shelf-index l.shelves))) l.found
