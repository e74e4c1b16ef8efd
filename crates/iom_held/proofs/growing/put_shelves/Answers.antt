use Rattle.std.proofs.Common.{◌≡◌, ◌∙◌, ◌+◌, ◌++◌, ◌∷◌, List, drop, arith, sym, ap, subst}
use Rattle.std.proofs.lemmas.List.{drop_more}
use Rattle.iom_held.specs.Kept.{Renews, entry_of}
use Rattle.iom_held.specs.Shelves.{Shelf, entries_on}
use Rattle.iom_held.specs.declared.kept.Kept.{Kept}
use Rattle.iom_held.proofs.Places.{renews_both}
use Rattle.iom_held.proofs.growing.put_shelves.Goals as goal

pub loop-shelf-preserved : goal.loop-shelf-preserved
loop-shelf-preserved c =
    let rest : List Shelf = drop (c.loop-shelf.shelf-index + 1) c.args.shelves.now in
    let split : entries_on (drop c.loop-shelf.shelf-index c.args.shelves.now) ≡ c.shelf-item.result.items ++ entries_on rest =
    ap entries_on (drop_more c.args.shelves.now c.loop-shelf.shelf-index c.shelf-item.result c.loop-shelf-test.true ∙ ap (λ (shelf : Shelf). shelf ∷ rest) (sym c.shelf-item.is)) in
    let items : c.deref.result.now ≡ c.shelf-item.result.items = c.deref.ensures.value in record {
      some = omega (arith, c.loop-shelf.invariant.some, c.put_all.auto.shelves);
      in_place = c.put_all.ensures.in_place;
      rest = λ after h. c.loop-shelf.invariant.rest after
          (subst (λ (xs : List Kept). Renews entry_of xs (entries_on c.loop-shelf.more) after) (sym split)
          (renews_both entry_of c.shelf-item.result.items (entries_on rest) (entries_on c.loop-shelf.more) (entries_on c.put_all.new.shelves) after
          (subst (λ (xs : List Kept). Renews entry_of xs (entries_on c.loop-shelf.more) (entries_on c.put_all.new.shelves)) items c.in_ok-put_all.ensures.renewed) h));
    }
