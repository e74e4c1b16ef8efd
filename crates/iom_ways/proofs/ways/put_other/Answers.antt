use Rattle.std.proofs.Common.{◌∙◌, Some, [], refl, sym}
use Rattle.iom_core.specs.Access.{machine_of}
use Rattle.iom_held.specs.Kept.{entries_in}
use Rattle.iom_ways.proofs.Alike.{device_alike}
use Rattle.iom_ways.proofs.Beside.{beside_gathers}
use Rattle.iom_ways.proofs.Gathering.{added_same}
use Rattle.iom_ways.proofs.Looked.{only_ways}
use Rattle.iom_ways.proofs.ways.put_other.Goals as goal

pub returns-in_ok-put_entries : goal.returns-in_ok-put_entries
returns-in_ok-put_entries g c =
    only_ways c.args.asking.now.asks c.args.asking.now.held.now _ _ _ c.requires.follows
    (beside_gathers _ _ _ _ _
    (device_alike (entries_in c.args.asking.now.held.now) (machine_of (g.M.Region.memory c.args.asking.now.ram.now) c.args.asking.now.registers.now [] []) c.args.asking.now.request.now (Some c.args.at.now)
    (sym c.requires.plain ∙ sym (c.is_same_found.ensures.0 c.if-is_same_found.true) ∙ c.located_by-found.ensures.found))
    c.requires.there refl
    (added_same _ _ _ _ (c.deref.ensures.0 ∙ c.directory_reads-located.ensures.read) c.in_ok-put_entries.ensures))
