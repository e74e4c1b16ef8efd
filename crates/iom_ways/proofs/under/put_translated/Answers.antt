use Rattle.std.proofs.Common.{subst}
use Rattle.std.specs.Prelude.{OnOk}
use Rattle.iom_cache.specs.declared.key.Key.{Key}
use Rattle.iom_every.specs.Trees.{looking, page_tree}
use Rattle.iom_every.specs.Uses.{ForPage, page_use}
use Rattle.iom_ways.specs.Asked.{Explores}
use Rattle.iom_ways.proofs.Looked.{looked, of_some}
use Rattle.iom_ways.proofs.under.put_translated.Goals as goal

pub returns : goal.returns
returns g c =
    let more = page_tree (g.M.Region.memory c.args.under.now.ram.now) c.args.under.now.features c.args.under.now.request c.args.under.now.context c.args.under.now.located.now in
    subst (λ (key : Key). OnOk c.put_each.result (Explores c.args.under.now.asks c.args.under.now.held.now (looking ForPage (page_use key) more) c.args.out.now c.put_each.new.out)) c.key_of-key.ensures
    (looked c.put_each.result c.args.under.now.asks c.args.under.now.held.now c.in-Some.used.items c.deref.result.now ForPage (page_use c.key_of-key.result) more
    c.args.out.now c.put_stages.new.out c.followed.new.out c.put_each.new.out (of_some _ _ _ c.in-Some.is c.in_ok-used.ensures.followed) c.deref.ensures.value c.in_ok-put_stages.ensures c.put_each.ensures)
