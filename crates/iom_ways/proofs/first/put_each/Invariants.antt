use Rattle.std.proofs.Common.{None, drop}
use Rattle.iom_choices.specs.Trees.{ways_over}
use Rattle.iom_every.specs.Uses.{ForFirst, first_use}
use Rattle.iom_held.specs.Kept.{entries_in}
use Rattle.iom_held.specs.declared.kept.Kept.{Kept}
use Rattle.iom_ways.specs.Branches.{behind_used, each_use, own_ways}
use Rattle.iom_ways.specs.Ways.{Has}
use Rattle.iom_ways.proofs.Gathering.{AreLeft}
use Rattle.iom_ways.proofs.first.put_each.Given as goal

abbrev pub invariant-loop-kept : goal.invariant-loop-kept
invariant-loop-kept g l =
    let fits = λ (kept : Kept). first_use l.under.context l.shape l.under.request.iova ForFirst kept.entry in
    let more = behind_used (g.M.Region.memory l.under.ram.now) l.under.features l.under.request l.under.context l.under.located.now l.shape in
    let own = own_ways (entries_in l.under.held.now) more in
    record {
      left : AreLeft (each_use fits own (drop l.kept-index l.used)) (each_use fits own l.used) l.fn.out.ways l.out.ways;
      has : Has (ways_over (entries_in l.under.held.now) (more None)) l.out.ways;
    }
