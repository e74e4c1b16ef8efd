use Rattle.std.proofs.Common.{◌∙◌, List, Some, refl, subst, sym}
use Rattle.iom_choices.specs.Systems.{IsAmong}
use Rattle.iom_every.specs.declared.entry.Held.{Held}
use Rattle.iom_held.specs.Kept.{entries_in}
use Rattle.iom_ways.proofs.Alike.{access_alike}
use Rattle.iom_ways.proofs.Beside.{beside_gathers}
use Rattle.iom_ways.proofs.Fresh.{access_gathers}
use Rattle.iom_ways.proofs.Gathering.{added_same}
use Rattle.iom_ways.proofs.Looked.{only_ways}
use Rattle.iom_ways.proofs.access.put_other.Goals as goal

pub returns-then-is_same_end : goal.returns-then-is_same_end
returns-then-is_same_end g c =
    only_ways c.args.under.now.asks c.args.under.now.held.now _ _ _ c.requires.follows
    (beside_gathers _ _ _ _ _
    (access_alike (entries_in c.args.under.now.held.now) (g.M.Region.memory c.args.under.now.ram.now) c.args.under.now.features c.args.under.now.request c.args.under.now.context c.args.under.now.located.now c.args.first.now c.args.shape c.args.reached (Some c.args.used)
    (sym c.requires.plain ∙ sym (c.is_same_end.ensures.0 c.if-is_same_end.true) ∙ c.second_outcome-end.ensures.end))
    c.requires.there refl
    (added_same _ _ _ _ (c.deref-then-is_same_end.ensures.0 ∙ c.second_reads-second.ensures.read) c.in_ok-put_entries.ensures))

pub returns-then-has_held : goal.returns-then-has_held
returns-then-has_held g c =
    only_ways c.args.under.now.asks c.args.under.now.held.now _ _ _ c.requires.follows
    (access_gathers (entries_in c.args.under.now.held.now) (g.M.Region.memory c.args.under.now.ram.now) c.args.under.now.features c.args.under.now.request c.args.under.now.context c.args.under.now.located.now c.args.first.now c.args.shape c.args.reached c.args.used c.args.out.now.ways
    (subst (λ (all : List Held). IsAmong all c.args.used) (c.deref.ensures.0 ∙ c.requires.fresh) (c.has_held.ensures c.if-has_held.true)) c.requires.there)
