use Rattle.std.proofs.Common.{◌≡◌, ◌∙◌, ◌+◌, ◌∷◌, [], List, drop, arith, sym, ap, subst}
use Rattle.std.proofs.lemmas.List.{drop_more}
use Rattle.iom_held.specs.Kept.{Renews, entry_of}
use Rattle.iom_held.specs.Shelves.{entries_on}
use Rattle.iom_held.specs.declared.kept.Kept.{Kept}
use Rattle.iom_held.proofs.Places.{renews_then}
use Rattle.iom_held.proofs.Standing.{grown_in_place, grown_same}
use Rattle.iom_held.proofs.growing.put_all.Goals as goal

pub returns-in_err-reserve-clause-in_place : goal.returns-in_err-reserve-clause-in_place
returns-in_err-reserve-clause-in_place c = grown_in_place c.loop-each.shelves c.reserve.new.shelves c.reserve.ensures.grown c.loop-each.invariant.in_place

pub renew-requires-clause-in_place : goal.renew-requires-clause-in_place
renew-requires-clause-in_place c = grown_in_place c.loop-each.shelves c.reserve.new.shelves c.reserve.ensures.grown c.loop-each.invariant.in_place

pub loop-each-preserved : goal.loop-each-preserved
loop-each-preserved c =
    let item : Kept = c.each-item.result in
    let rest : List Kept = drop (c.loop-each.each-index + 1) c.args.kept.now in
    let split : drop c.loop-each.each-index c.args.kept.now ≡ item ∷ rest =
    drop_more c.args.kept.now c.loop-each.each-index c.each-item.result c.loop-each-test.true ∙ ap (λ (each : Kept). each ∷ rest) (sym c.each-item.is) in record {
      some = omega (arith, c.loop-each.invariant.some, c.reserve.auto.shelves, c.renew.auto.shelves);
      in_place = c.renew.ensures.in_place;
      rest = λ after h. c.loop-each.invariant.rest after
          (subst (λ (xs : List Kept). Renews entry_of xs (entries_on c.loop-each.shelves) after) (sym split)
          (renews_then entry_of item rest (entries_on c.loop-each.shelves) (entries_on c.renew.new.shelves) after
          (subst (λ (before : List Kept). Renews entry_of (item ∷ []) before (entries_on c.renew.new.shelves))
          (grown_same c.loop-each.shelves c.reserve.new.shelves c.reserve.ensures.grown) c.renew.ensures.renewed) h));
    }
