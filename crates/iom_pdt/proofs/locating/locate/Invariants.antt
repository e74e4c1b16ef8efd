use Rattle.std.proofs.Common.{◌≡◌, ◌-◌, ◌≤◌}
use Rattle.iom_pdt.specs.Directories.{levels_of}
use Rattle.iom_pdt.specs.Located.{located_from}
use Rattle.iom_pdt.proofs.locating.locate.Given as goal

-- the way from here is the whole way
abbrev pub invariant-loop-level : goal.invariant-loop-level
invariant-loop-level g l =
    let memory = g.M.Region.memory l.ram in
    (1 ≤ l.level)
    × (located_from memory l.features l.context l.id (l.level - 1) l.table
    ≡ located_from memory l.features l.context l.id (levels_of l.directory.depth - 1) l.directory.root)
