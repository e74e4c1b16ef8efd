use Rattle.std.proofs.Common.{List, refl, subst, sym}
use Rattle.iom_core.specs.State.{State, state_on}
use Rattle.iom_every.specs.Rows.{bare}
use Rattle.iom_every.specs.Trees.{tree_of}
use Rattle.iom_held.specs.declared.kept.Kept.{Kept}
use Rattle.iom_ways.specs.Asked.{Collects, is_asked}
use Rattle.iom_owed.proofs.Alone.{all_tried, none_tried, tried_more}
use Rattle.iom_owed.proofs.serving.served_alone.Goals as goal

pub loop-kept-init : goal.loop-kept-init
loop-kept-init g c = none_tried _ _ _ _ _

pub loop-kept-preserved : goal.loop-kept-preserved
loop-kept-preserved g c =
    tried_more _ _ _ _ _ c.loop-kept.kept-index c.kept-item.result _ _ c.loop-kept-test.true c.kept-item.is c.loop-kept.invariant c.in_ok-try_entry.ensures

pub returns : goal.returns
returns g c =
    let at : State = state_on (g.M.Region.memory c.args.ram.now) c.args.board.now in
    all_tried c.args.whole at c.args.request.now c.args.tables.now c.args.held.now _ _ c.loop-kept.kept-index c.requires.tables
    (subst (λ (asked : List Kept). Collects c.args.held.now (is_asked (tree_of (bare at) c.args.request.now)) c.new-asked.result.items asked) (sym c.deref-kept-items.ensures.value)
    (c.in_ok-put_asked.ensures (bare at) refl (sym c.registers.ensures)))
    c.loop-kept.oldest c.new-asked.ensures.items c.loop-kept.invariant c.loop-kept-test.false
