use Rattle.std.proofs.Common.{◌≡◌, List, true, subst}
use Rattle.std.specs.List.{AllByRecursion}
use Rattle.iom_held.specs.Kept.{may_lend}
use Rattle.iom_held.specs.declared.kept.Kept.{Kept}
use Rattle.iom_held.proofs.Each.{shelf_next}
use Rattle.iom_held.proofs.lending.all_may_lend.Goals as goal

pub loop-shelf-preserved : goal.loop-shelf-preserved
loop-shelf-preserved c =
    shelf_next (λ (kept : Kept). may_lend kept ≡ true) c.args.shelves.now c.loop-shelf.shelf-index c.shelf-item.result c.loop-shelf-test.true c.shelf-item.is c.loop-shelf.invariant
    (subst (λ (all : List Kept). AllByRecursion (λ (kept : Kept). may_lend kept ≡ true) all) c.deref.ensures.value (c.each_may_lend.ensures c.if-not-each_may_lend.false))
