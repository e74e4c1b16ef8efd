use Rattle.std.proofs.Common.{◌≡◌, ◌∙◌, ◌<◌, ℕ, Some, List, length, get_or, arith, ap, sym, subst}
use Rattle.std.specs.Prelude.{slice_get, vec_items}
use Rattle.std.proofs.lemmas.Option.{slice_get-get_or}
use Rattle.iom_choices.specs.Systems.{IsAmong}
use Rattle.iom_held.specs.Shelves.{Shelf, slot_of}
use Rattle.iom_held.specs.Tags.{tag_of}
use Rattle.iom_held.specs.declared.kept.Kept.{Kept}
use Rattle.iom_held.specs.declared.tags.Tag.{Tag}
use Rattle.iom_held.proofs.Standing.{on_its_shelf}
use Rattle.iom_held.proofs.Within.{among_shelf}
use Rattle.iom_held.proofs.entries.HeldEntries.tagged.Goals as goal

pub returns-clause-among : goal.returns-clause-among
returns-clause-among c = λ kept h.
    let shelves : List Shelf = c.self.inside.shelves.items in
    let i : ℕ = c.slot_of-i.result in
    let shelf : Shelf = get_or shelves i c.index.result.now in
    let inside : c.slot_of-i.result < length c.self.inside.shelves.items = omega (arith, c.slot_of-i.ensures.inside, c.len.ensures, c.self.inside.shelves.ok.0) in
    let read : slice_get shelves i ≡ Some shelf = slice_get-get_or shelves i c.index.result.now inside in
    let items : c.deref.result.now ≡ shelf.items = c.deref.ensures.value ∙ ap (λ (own : Shelf). own.items) c.index.ensures in
    subst (λ (xs : List Kept). IsAmong xs kept) c.self.view_is (among_shelf vec_items shelves i shelf kept read (subst (λ (xs : List Kept). IsAmong xs kept) items h))

pub returns-clause-all : goal.returns-clause-all
returns-clause-all c = λ kept h tag.
    let shelves : List Shelf = c.self.inside.shelves.items in
    let i : ℕ = c.slot_of-i.result in
    let shelf : Shelf = get_or shelves i c.index.result.now in
    let inside : c.slot_of-i.result < length c.self.inside.shelves.items = omega (arith, c.slot_of-i.ensures.inside, c.len.ensures, c.self.inside.shelves.ok.0) in
    let read : slice_get shelves i ≡ Some shelf = slice_get-get_or shelves i c.index.result.now inside in
    let items : c.deref.result.now ≡ shelf.items = c.deref.ensures.value ∙ ap (λ (own : Shelf). own.items) c.index.ensures in
    let slot : i ≡ slot_of (length shelves) (tag_of kept.entry) = c.slot_of-i.ensures.number
    ∙ (ap (λ (n : ℕ). slot_of n c.args.tag) (c.len.ensures ∙ c.self.inside.shelves.ok.0) ∙ ap (λ (own : Tag). slot_of (length shelves) own) (sym tag)) in
    subst (λ (xs : List Kept). IsAmong xs kept) (sym items)
    (on_its_shelf shelves i shelf kept c.self.invariant.in_place read slot (subst (λ (xs : List Kept). IsAmong xs kept) (sym c.self.view_is) h))
