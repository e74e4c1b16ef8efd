use Rattle.std.proofs.Common.{◌∙◌, Option, Some, ap, refl, sym}
use Rattle.iom_every.specs.declared.entry.Held.{Held}
use Rattle.iom_ways.proofs.Looked.{same_tree}
use Rattle.iom_ways.proofs.Paths.{begins, from_leaf, from_pointer, from_root}
use Rattle.iom_ways.proofs.first.put_entered.Goals as goal

pub returns-in_default : goal.returns-in_default
returns-in_default g c =
    same_tree c.put_from_root.result c.args.under.now.asks c.args.under.now.held.now _ _ _ _
    (from_root (g.M.Region.memory c.args.under.now.ram.now) c.args.under.now.features c.args.under.now.request c.args.under.now.context c.args.under.now.located.now c.args.shape c.args.used _ c.in_default.is refl)
    c.put_from_root.ensures

pub returns-then-is_pointer : goal.returns-then-is_pointer
returns-then-is_pointer g c =
    same_tree c.put_path.result c.args.under.now.asks c.args.under.now.held.now _ _ _ _
    (from_pointer (g.M.Region.memory c.args.under.now.ram.now) c.args.under.now.features c.args.under.now.request c.args.under.now.context c.args.under.now.located.now c.args.shape (Some c.in-Some.held) c.in-Some.held c.entry_of-entry.result c.is_pointer.result c.next_table.result refl c.entry_of-entry.ensures c.is_pointer.ensures c.if-is_pointer.true c.next_table.ensures.table
    ∙ ap (λ (used : Option Held). begins (g.M.Region.memory c.args.under.now.ram.now) c.args.under.now.features c.args.under.now.request c.args.under.now.context c.args.under.now.located.now c.args.shape used) (sym c.in-Some.is))
    c.put_path.ensures

pub returns-else-is_pointer : goal.returns-else-is_pointer
returns-else-is_pointer g c =
    same_tree c.put_found.result c.args.under.now.asks c.args.under.now.held.now _ _ _ _
    (from_leaf (g.M.Region.memory c.args.under.now.ram.now) c.args.under.now.features c.args.under.now.request c.args.under.now.context c.args.under.now.located.now c.args.shape (Some c.in-Some.held) c.in-Some.held c.entry_of-entry.result c.is_pointer.result refl c.entry_of-entry.ensures c.is_pointer.ensures c.if-is_pointer.false
    ∙ ap (λ (used : Option Held). begins (g.M.Region.memory c.args.under.now.ram.now) c.args.under.now.features c.args.under.now.request c.args.under.now.context c.args.under.now.located.now c.args.shape used) (sym c.in-Some.is))
    c.put_found.ensures
