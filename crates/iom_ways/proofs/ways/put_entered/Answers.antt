use Rattle.std.proofs.Common.{◌∙◌, []}
use Rattle.iom_core.specs.Access.{machine_of}
use Rattle.iom_ways.proofs.Looked.{same_tree}
use Rattle.iom_ways.proofs.Trees.{under_entered}
use Rattle.iom_ways.proofs.ways.put_entered.Goals as goal

pub returns-in-Ok : goal.returns-in-Ok
returns-in-Ok g c =
    same_tree c.put_under.result c.args.asking.now.asks c.args.asking.now.held.now _ _ _ _
    (under_entered (machine_of (g.M.Region.memory c.args.asking.now.ram.now) c.args.asking.now.registers.now [] []) c.args.asking.now.request.now c.args.at.now
    c.features.result c.in-Ok.context c.deref.result.now c.args.found.now c.features.ensures (c.deref.ensures.0 ∙ c.directory_reads-located.ensures.read) c.in-Ok.is c.requires.found)
    c.put_under.ensures
