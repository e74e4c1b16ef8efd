use Rattle.std.proofs.Common.{◌∙◌, subst}
use Rattle.iom_choices.specs.Systems.{IsAmong}
use Rattle.iom_held.specs.Kept.{entries_in}
use Rattle.iom_every.specs.declared.entry.Held.{Held}
use Rattle.std.proofs.Common.{List}
use Rattle.iom_ways.proofs.Fresh.{fresh_gathers}
use Rattle.iom_ways.proofs.Looked.{only_ways}
use Rattle.iom_ways.proofs.first.put_other.Goals as goal

pub returns-then-has_held : goal.returns-then-has_held
returns-then-has_held g c =
    only_ways c.args.under.now.asks c.args.under.now.held.now _ _ _ c.requires.follows
    (fresh_gathers (entries_in c.args.under.now.held.now) (g.M.Region.memory c.args.under.now.ram.now) c.args.under.now.features c.args.under.now.request c.args.under.now.context c.args.under.now.located.now c.args.shape c.args.used c.args.out.now.ways
    (subst (λ (all : List Held). IsAmong all c.args.used) (c.deref.ensures.0 ∙ c.requires.fresh) (c.has_held.ensures c.if-has_held.true)) c.requires.there)
