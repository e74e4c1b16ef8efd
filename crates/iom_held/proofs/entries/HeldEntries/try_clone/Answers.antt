use Rattle.std.proofs.Common.{◌≡◌, ◌∙◌, List, ap, map}
use Rattle.std.specs.Prelude.{vec_items}
use Rattle.iom_held.specs.Shelves.{Shelf}
use Rattle.iom_held.proofs.Copied.{entries_same, in_place_same}
use Rattle.iom_held.proofs.Sound.{sound_same}
use Rattle.iom_held.proofs.entries.HeldEntries.try_clone.Goals as goal

pub invariant_of-result : goal.invariant_of-result
invariant_of-result c =
    let same : map vec_items c.in_ok-copy_shelves.field-0.items ≡ map vec_items c.self.inside.shelves.items =
    c.in_ok-copy_shelves.ensures ∙ ap (λ (shelves : List Shelf). map vec_items shelves) c.deref.ensures.value in
    sound_same c.self.inside.named c.self.inside.shelves.items c.in_ok-copy_shelves.field-0.items (entries_same c.in_ok-copy_shelves.field-0.items c.self.inside.shelves.items same)
    (in_place_same c.in_ok-copy_shelves.field-0.items c.self.inside.shelves.items same c.self.invariant.in_place) c.self.invariant

pub returns : goal.returns
returns c = entries_same c.in_ok-copy_shelves.field-0.items c.self.inside.shelves.items
    (c.in_ok-copy_shelves.ensures ∙ ap (λ (shelves : List Shelf). map vec_items shelves) c.deref.ensures.value) ∙ c.self.view_is
