use Rattle.std.proofs.Common.{List, refl, subst, sym}
use Rattle.std.specs.List.{AllByRecursion}
use Rattle.std.specs.Prelude.{flat_map, vec_items}
use Rattle.iom_choices.specs.Systems.{IsAmong}
use Rattle.iom_held.specs.Shelves.{Shelf}
use Rattle.iom_held.specs.declared.kept.Kept.{Kept}
use Rattle.iom_judge.specs.Including.{IsHeldIn}
use Rattle.iom_judge.proofs.Each.{all_end, all_not, false_not, from_shelves, on_shelves}
use Rattle.iom_judge.proofs.including.includes.Goals as goal

pub returns-then-not-has_all : goal.returns-then-not-has_all
returns-then-not-has_all c = (
  λ none. absurd (cc),
  λ includes.
      let shelves : List Shelf = c.shelves-shelf-items.result.now in
      let P : Kept → Type 0 = IsHeldIn c.args.all.now in
      let each : (kept : Kept) → IsAmong (flat_map vec_items shelves) kept → P kept = λ kept h. includes kept (subst (λ (all : List Kept). IsAmong all kept) c.shelves-shelf-items.ensures h) in
      absurd (all_not (λ (shelf : Shelf). AllByRecursion P shelf.items) shelves c.loop-shelf.shelf-index c.shelf-item.result c.loop-shelf-test.true c.shelf-item.is
      (λ all. false_not c.has_all.result c.if-not-has_all.true (c.has_all.ensures.1 (subst (AllByRecursion P) (sym c.deref.ensures.value) all)))
      (on_shelves P shelves each)),
)

pub returns : goal.returns
returns c = (
  λ all kept h.
      let shelves : List Shelf = c.shelves-shelf-items.result.now in
      let P : Kept → Type 0 = IsHeldIn c.args.all.now in
      from_shelves P shelves (all_end (λ (shelf : Shelf). AllByRecursion P shelf.items) shelves c.loop-shelf.shelf-index c.loop-shelf-test.false c.loop-shelf.invariant) kept
      (subst (λ (all : List Kept). IsAmong all kept) (sym c.shelves-shelf-items.ensures) h),
  λ includes. refl,
)
