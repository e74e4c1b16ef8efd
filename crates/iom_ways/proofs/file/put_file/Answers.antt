use Rattle.iom_every.specs.Uses.{ForAccess, file_use}
use Rattle.iom_ways.specs.Branches.{behind_file}
use Rattle.iom_ways.proofs.Looked.{looked, of_some}
use Rattle.iom_ways.proofs.file.put_file.Goals as goal

pub returns : goal.returns
returns g c =
    looked c.put_each.result c.args.under.now.asks c.args.under.now.held.now c.in-Some.used.items c.deref.result.now ForAccess (file_use c.args.under.now.context c.args.reached.addr)
    (behind_file (g.M.Region.memory c.args.under.now.ram.now) c.args.under.now.request c.args.under.now.context c.args.under.now.located.now c.args.first.now c.args.reached)
    c.args.out.now c.put_used.new.out c.followed.new.out c.put_each.new.out (of_some _ _ _ c.in-Some.is c.in_ok-used.ensures.followed) c.deref.ensures.value c.in_ok-put_used.ensures c.put_each.ensures
