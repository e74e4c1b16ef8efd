use Rattle.std.proofs.Common.{◌∙◌, sym}
use Rattle.iom_walk.specs.declared.outcome.Outcome.TheVariants as outcome
use Rattle.iom_nested.specs.Nested.{reached_by}
use Rattle.iom_ways.proofs.Looked.{same_tree}
use Rattle.iom_ways.proofs.Stages.{outside}
use Rattle.iom_ways.proofs.first.put_used.Goals as goal

pub returns-else-covers : goal.returns-else-covers
returns-else-covers g c =
    same_tree c.put_access.result c.args.under.now.asks c.args.under.now.held.now _ _ _ _
    (outside (g.M.Region.memory c.args.under.now.ram.now) c.args.under.now.features c.args.under.now.request c.args.under.now.context c.args.under.now.located.now c.args.shape c.args.used (sym c.covers.ensures ∙ c.if-covers.false))
    (c.put_access.ensures (reached_by c.args.under.now.request.iova outcome.Fault) c.reached_by-reached.ensures.reached)
