use Rattle.std.proofs.Common.{None, drop, ◌+◌, ◌*◌}
use Rattle.iom_choices.specs.Trees.{ways_over}
use Rattle.iom_every.specs.Uses.{ForEntry, entry_use}
use Rattle.iom_held.specs.Kept.{entries_in}
use Rattle.iom_held.specs.declared.kept.Kept.{Kept}
use Rattle.iom_ways.specs.Branches.{behind_entry, each_use, own_ways}
use Rattle.iom_ways.specs.Ways.{Has}
use Rattle.iom_ways.proofs.Gathering.{AreLeft}
use Rattle.iom_ways.proofs.path.+walking.Given as goal

abbrev pub decreases-put_path : goal.decreases-put_path
decreases-put_path g l = 6 * l.count

abbrev pub decreases-put_behind : goal.decreases-put_behind
decreases-put_behind g l = 6 * l.level + 5

abbrev pub decreases-put_each : goal.decreases-put_each
decreases-put_each g l = 6 * l.level + 4

abbrev pub decreases-put_other : goal.decreases-put_other
decreases-put_other g l = 6 * l.level + 3

abbrev pub decreases-put_read : goal.decreases-put_read
decreases-put_read g l = 6 * l.level + 2

abbrev pub decreases-put_met : goal.decreases-put_met
decreases-put_met g l = 6 * l.met.entry.level + 1

abbrev pub invariant-put_each-loop-kept : goal.invariant-put_each-loop-kept
invariant-put_each-loop-kept g l =
    let fits = λ (kept : Kept). entry_use l.under.context l.shape l.level l.place (ForEntry l.level) kept.entry in
    let more = behind_entry (g.M.Region.memory l.under.ram.now) l.under.features l.under.request l.under.context l.under.located.now l.format l.used l.path l.shape l.place l.level in
    let own = own_ways (entries_in l.under.held.now) more in
    record {
      left : AreLeft (each_use fits own (drop l.kept-index l.entries)) (each_use fits own l.entries) l.fn.out.ways l.out.ways;
      has : Has (ways_over (entries_in l.under.held.now) (more None)) l.out.ways;
    }
