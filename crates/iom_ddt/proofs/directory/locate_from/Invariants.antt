use Rattle.std.proofs.Common.{◌<◌, ◌≤◌, ◌^◌, ◌-◌}
use Rattle.iom_ddt.specs.Directory.{path_from}
use Rattle.iom_ddt.proofs.Paths.{IsLeft}
use Rattle.iom_ddt.proofs.directory.locate_from.Given as goal

abbrev pub invariant-loop-level : goal.invariant-loop-level
invariant-loop-level g l =
    let memory = g.M.Region.memory l.ram in
    record {
      table_fits : l.table < 2 ^ 44;
      some : 1 ≤ l.level;
      left : IsLeft g.N.Notes.next l.features l.fn.notes (path_from l.format memory l.did (l.count - 1) l.fn.table) l.notes
          (path_from l.format memory l.did (l.level - 1) l.table);
    }
