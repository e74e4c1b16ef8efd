use Rattle.std.proofs.Common.{drop}
use Rattle.iom_every.specs.Uses.{ForAccess, file_use}
use Rattle.iom_held.specs.Kept.{entries_in}
use Rattle.iom_held.specs.declared.kept.Kept.{Kept}
use Rattle.iom_ways.specs.Branches.{behind_file, each_use, own_ways}
use Rattle.iom_ways.proofs.Gathering.{AreLeft}
use Rattle.iom_ways.proofs.file.put_each.Given as goal

abbrev pub invariant-loop-kept : goal.invariant-loop-kept
invariant-loop-kept g l =
    let fits = λ (kept : Kept). file_use l.under.context l.reached.addr ForAccess kept.entry in
    let own = own_ways (entries_in l.under.held.now) (behind_file (g.M.Region.memory l.under.ram.now) l.under.request l.under.context l.under.located.now l.first l.reached) in
    AreLeft (each_use fits own (drop l.kept-index l.used)) (each_use fits own l.used) l.fn.out.ways l.out.ways
