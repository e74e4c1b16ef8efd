use Rattle.std.proofs.Common.{None, drop, []}
use Rattle.iom_regs.specs.Views.{mode_of}
use Rattle.iom_ddt.specs.Directory.{levels_of}
use Rattle.iom_ddt.specs.Formats.{context_format}
use Rattle.iom_core.specs.Access.{machine_of}
use Rattle.iom_every.specs.Trees.{entered_tree}
use Rattle.iom_every.specs.Uses.{ForDevice, device_use}
use Rattle.iom_choices.specs.Trees.{ways_over}
use Rattle.iom_held.specs.Kept.{entries_in}
use Rattle.iom_held.specs.declared.kept.Kept.{Kept}
use Rattle.iom_ways.specs.Branches.{each_use, own_ways}
use Rattle.iom_ways.specs.Ways.{Has}
use Rattle.iom_ways.proofs.Gathering.{AreLeft}
use Rattle.iom_ways.proofs.ways.put_each.Given as goal

abbrev pub invariant-loop-kept : goal.invariant-loop-kept
invariant-loop-kept g l =
    let fits = λ (kept : Kept). device_use (context_format l.asking.registers.now.features) (levels_of (mode_of l.asking.registers.now)) l.asking.request.now.did ForDevice kept.entry in
    let more = entered_tree (machine_of (g.M.Region.memory l.asking.ram.now) l.asking.registers.now [] []) l.asking.request.now in
    let own = own_ways (entries_in l.asking.held.now) more in
    record {
      left : AreLeft (each_use fits own (drop l.kept-index l.used)) (each_use fits own l.used) l.fn.out.ways l.out.ways;
      has : Has (ways_over (entries_in l.asking.held.now) (more None)) l.out.ways;
    }
