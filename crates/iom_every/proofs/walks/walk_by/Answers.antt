use Rattle.std.proofs.Common.{◌∙◌, ap, map, sym}
use Rattle.std.specs.List.{fold}
use Rattle.iom_walk.specs.Told.{path_entry}
use Rattle.iom_every.proofs.OneMemory.{end_inside, from_root, met_inside, none_outside, root_end}
use Rattle.iom_every.proofs.walks.walk_by.Goals as goal

pub returns-then-not-covers-clause-noted : goal.returns-then-not-covers-clause-noted
returns-then-not-covers-clause-noted g c = none_outside _ _ _ _ _ _ _ _ (sym c.covers.ensures ∙ c.if-not-covers.true)

pub returns-in-None-clause-end : goal.returns-in-None-clause-end
returns-in-None-clause-end g c =
    end_inside _ _ _ _ _ _ _ (sym c.covers.ensures ∙ c.if-not-covers.false)
    (root_end _ _ _ _ _ _ _ _ c.in-None.is c.levels-levels.ensures.value c.walk_from.ensures.outcome)

pub returns-in-None-clause-noted : goal.returns-in-None-clause-noted
returns-in-None-clause-noted g c =
    c.walk_from.ensures.noted
    ∙ ap (λ path. fold g.N.Notes.next c.args.notes.now (map (path_entry c.args.format.rules c.args.kind) path))
    (from_root _ _ _ _ _ _ c.in-None.is c.levels-levels.ensures.value ∙ met_inside _ _ _ _ _ (sym c.covers.ensures ∙ c.if-not-covers.false))

pub returns-in-Some-clause-end : goal.returns-in-Some-clause-end
returns-in-Some-clause-end g c =
    end_inside _ _ _ _ _ _ _ (sym c.covers.ensures ∙ c.if-not-covers.false) (rw c.in-Some.is (c.walk_after.ensures.end c.args.root))

pub returns-in-Some-clause-noted : goal.returns-in-Some-clause-noted
returns-in-Some-clause-noted g c =
    rw c.in-Some.is (c.walk_after.ensures.noted c.args.root)
    ∙ ap (λ path. fold g.N.Notes.next c.args.notes.now (map (path_entry c.args.format.rules c.args.kind) path))
    (met_inside _ _ _ _ _ (sym c.covers.ensures ∙ c.if-not-covers.false))
