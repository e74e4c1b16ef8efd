use Rattle.std.proofs.Common.{◌∙◌, ap, map}
use Rattle.std.specs.List.{fold}
use Rattle.iom_walk.specs.Told.{path_entry}
use Rattle.iom_every.proofs.OneMemory.{after_pointer, entered_end, none_behind}
use Rattle.iom_every.proofs.walks.walk_after.Goals as goal

pub returns-then-is_pointer-clause-end : goal.returns-then-is_pointer-clause-end
returns-then-is_pointer-clause-end g c = λ root.
    entered_end _ _ _ root _ c.args.held.now _ _ _ _ _ c.entry_of-entry.ensures c.is_pointer.ensures c.if-is_pointer.true c.next_table-table.ensures.table
    c.has_bit.ensures c.walk_from.ensures.outcome

pub returns-then-is_pointer-clause-noted : goal.returns-then-is_pointer-clause-noted
returns-then-is_pointer-clause-noted g c = λ root.
    c.walk_from.ensures.noted
    ∙ ap (λ path. fold g.N.Notes.next c.args.notes.now (map (path_entry c.args.format.rules c.args.kind) path))
    (after_pointer _ _ _ root c.args.held.now _ _ _ c.entry_of-entry.ensures c.is_pointer.ensures c.if-is_pointer.true c.next_table-table.ensures.table)

pub returns-else-is_pointer-clause-noted : goal.returns-else-is_pointer-clause-noted
returns-else-is_pointer-clause-noted g c = λ root.
    none_behind _ _ _ _ root _ _ c.args.held.now _ _ c.entry_of-entry.ensures c.is_pointer.ensures c.if-is_pointer.false
