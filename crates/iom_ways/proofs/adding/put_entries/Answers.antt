use Rattle.iom_ways.proofs.Gathering.{added_all}
use Rattle.iom_ways.proofs.adding.put_entries.Goals as goal

pub returns : goal.returns
returns c = added_all c.args.entries.now c.args.out.now.items c.extend_from_slice.new.self.items c.in_ok-extend_from_slice.ensures.items
