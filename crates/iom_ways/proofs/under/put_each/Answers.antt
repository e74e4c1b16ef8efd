use Rattle.iom_every.specs.Trees.{page_tree}
use Rattle.iom_every.specs.Uses.{ForPage, page_use}
use Rattle.iom_held.specs.Kept.{entries_in}
use Rattle.iom_held.specs.declared.kept.Kept.{Kept}
use Rattle.iom_ways.specs.Branches.{own_ways}
use Rattle.iom_ways.proofs.Gathering.{ended, passed, turned}
use Rattle.iom_ways.proofs.under.put_each.Goals as goal

pub loop-kept-preserved-in_default : goal.loop-kept-preserved-in_default
loop-kept-preserved-in_default g c =
    let fits = λ (kept : Kept). page_use c.args.key.now ForPage kept.entry in
    let more = page_tree (g.M.Region.memory c.args.under.now.ram.now) c.args.under.now.features c.args.under.now.request c.args.under.now.context c.args.under.now.located.now in
    passed fits (own_ways (entries_in c.args.under.now.held.now) more) c.args.used.now _ _ c.kept-item.result _ _ _ c.loop-kept.invariant c.loop-kept-test.true c.kept-item.is
    (c.page_use.ensures) c.in_default.is

pub loop-kept-preserved : goal.loop-kept-preserved
loop-kept-preserved g c =
    let fits = λ (kept : Kept). page_use c.args.key.now ForPage kept.entry in
    let more = page_tree (g.M.Region.memory c.args.under.now.ram.now) c.args.under.now.features c.args.under.now.request c.args.under.now.context c.args.under.now.located.now in
    turned fits (own_ways (entries_in c.args.under.now.held.now) more) c.args.used.now _ _ c.kept-item.result _ _ _ _ _ c.loop-kept.invariant c.loop-kept-test.true c.kept-item.is
    (c.page_use.ensures) c.in-Some.is (c.in_ok-put_page.ensures.ways c.requires.follows)

pub returns : goal.returns
returns g c =
    let fits = λ (kept : Kept). page_use c.args.key.now ForPage kept.entry in
    let more = page_tree (g.M.Region.memory c.args.under.now.ram.now) c.args.under.now.features c.args.under.now.request c.args.under.now.context c.args.under.now.located.now in
    ended fits (own_ways (entries_in c.args.under.now.held.now) more) c.args.used.now _ _ _ _ c.loop-kept.invariant c.loop-kept-test.false
