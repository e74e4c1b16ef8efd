use Rattle.std.proofs.Common.{◌∙◌, ◌++◌, List, ap, subst, take}
use Rattle.std.proofs.lemmas.List.{take_all}
use Rattle.iom_held.specs.Naming.{AreTold, naming}
use Rattle.iom_held.specs.Shelves.{Shelf, entries_on}
use Rattle.iom_held.specs.declared.kept.Kept.{Kept}
use Rattle.iom_held.proofs.Named.{shelves_more}
use Rattle.iom_held.proofs.naming.naming_on.Goals as goal

pub loop-shelf-preserved : goal.loop-shelf-preserved
loop-shelf-preserved c =
    let before : List Kept = naming c.args.addr c.args.len (entries_on (take c.loop-shelf.shelf-index c.args.shelves.now)) in
    subst (λ (xs : List Kept). AreTold xs c.add_all.new.found)
    (ap (λ (ys : List Kept). before ++ naming c.args.addr c.args.len ys) c.deref.ensures.value
    ∙ shelves_more c.args.addr c.args.len c.args.shelves.now c.loop-shelf.shelf-index c.shelf-item.result c.loop-shelf-test.true c.shelf-item.is)
    (c.add_all.ensures before c.loop-shelf.invariant)

pub returns : goal.returns
returns c =
    subst (λ (shelves : List Shelf). AreTold (naming c.args.addr c.args.len (entries_on shelves)) c.loop-shelf.found)
    (take_all c.loop-shelf.shelf-index c.args.shelves.now c.loop-shelf-test.false) c.loop-shelf.invariant
