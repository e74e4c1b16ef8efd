use Rattle.iom_every.specs.Uses.{ForAccess, file_use}
use Rattle.iom_held.specs.Kept.{entries_in}
use Rattle.iom_held.specs.declared.kept.Kept.{Kept}
use Rattle.iom_ways.specs.Branches.{behind_file, own_ways}
use Rattle.iom_ways.proofs.Gathering.{ended, passed, turned}
use Rattle.iom_ways.proofs.file.put_each.Goals as goal

pub loop-kept-preserved-in_default : goal.loop-kept-preserved-in_default
loop-kept-preserved-in_default g c =
    let fits = λ (kept : Kept). file_use c.args.under.now.context c.args.reached.addr ForAccess kept.entry in
    let more = behind_file (g.M.Region.memory c.args.under.now.ram.now) c.args.under.now.request c.args.under.now.context c.args.under.now.located.now c.args.first.now c.args.reached in
    passed fits (own_ways (entries_in c.args.under.now.held.now) more) c.args.used.now _ _ c.kept-item.result _ _ _ c.loop-kept.invariant c.loop-kept-test.true c.kept-item.is
    c.file_use.ensures c.in_default.is

pub loop-kept-preserved : goal.loop-kept-preserved
loop-kept-preserved g c =
    let fits = λ (kept : Kept). file_use c.args.under.now.context c.args.reached.addr ForAccess kept.entry in
    let more = behind_file (g.M.Region.memory c.args.under.now.ram.now) c.args.under.now.request c.args.under.now.context c.args.under.now.located.now c.args.first.now c.args.reached in
    turned fits (own_ways (entries_in c.args.under.now.held.now) more) c.args.used.now _ _ c.kept-item.result _ _ _ _ _ c.loop-kept.invariant c.loop-kept-test.true c.kept-item.is
    c.file_use.ensures c.in-Some.is (c.in_ok-put_used.ensures.ways c.requires.follows)

pub returns : goal.returns
returns g c =
    let fits = λ (kept : Kept). file_use c.args.under.now.context c.args.reached.addr ForAccess kept.entry in
    let more = behind_file (g.M.Region.memory c.args.under.now.ram.now) c.args.under.now.request c.args.under.now.context c.args.under.now.located.now c.args.first.now c.args.reached in
    ended fits (own_ways (entries_in c.args.under.now.held.now) more) c.args.used.now _ _ _ _ c.loop-kept.invariant c.loop-kept-test.false
