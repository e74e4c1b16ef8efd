use Rattle.std.proofs.Common.{[], List, subst}
use Rattle.iom_held.specs.Kept.{Renews, entry_of}
use Rattle.iom_held.specs.Shelves.{Shelf, entries_on}
use Rattle.iom_held.proofs.Places.{renews_anew}
use Rattle.iom_held.proofs.growing.grow.Goals as goal

pub returns-clause-same : goal.returns-clause-same
returns-clause-same c = λ news before p.
    renews_anew entry_of news before (entries_on c.args.shelves.now.items) (entries_on c.in-Ok.more.items) p
    (subst (λ (shelves : List Shelf). Renews entry_of (entries_on shelves) [] (entries_on c.in-Ok.more.items)) c.deref-2.ensures.value c.in-Ok.ensures.same)
