use Rattle.std.proofs.Common.{◌≡◌, ◌∙◌, List, ap, map}
use Rattle.std.specs.Prelude.{filter, vec_items}
use Rattle.iom_held.specs.Kept.{may_lend}
use Rattle.iom_held.specs.Shelves.{Shelf, lenders_on}
use Rattle.iom_held.proofs.Copied.{lenders_are, lenders_in_place}
use Rattle.iom_held.proofs.Sound.{sound_lenders}
use Rattle.iom_held.proofs.entries.HeldEntries.lenders.Goals as goal

pub invariant_of-result : goal.invariant_of-result
invariant_of-result c =
    let copies : List Shelf = c.in_ok-copy_lenders.field-0.items in
    let shelves : List Shelf = c.self.inside.shelves.items in
    let same : map vec_items copies ≡ map lenders_on shelves = c.in_ok-copy_lenders.ensures ∙ ap (λ (shelves : List Shelf). map lenders_on shelves) c.deref-2.ensures.value in
    sound_lenders c.self.inside.named copies shelves (lenders_are copies shelves same) (lenders_in_place copies shelves same c.self.invariant.in_place) c.self.invariant

pub returns : goal.returns
returns c = lenders_are c.in_ok-copy_lenders.field-0.items c.self.inside.shelves.items
    (c.in_ok-copy_lenders.ensures ∙ ap (λ (shelves : List Shelf). map lenders_on shelves) c.deref-2.ensures.value) ∙ ap (filter may_lend) c.self.view_is
