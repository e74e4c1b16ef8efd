use Rattle.std.proofs.Common.{◌++◌, List, take}
use Rattle.iom_held.specs.Naming.{AreTold, naming}
use Rattle.iom_held.specs.declared.kept.Kept.{Kept}
use Rattle.iom_held.proofs.naming.add_all.Given as goal

-- those of the entries so far are told behind others
abbrev pub invariant-loop-each : goal.invariant-loop-each
invariant-loop-each l = (all : List Kept) → AreTold all l.fn.found → AreTold (all ++ naming l.addr l.len (take l.each-index l.kept)) l.found
