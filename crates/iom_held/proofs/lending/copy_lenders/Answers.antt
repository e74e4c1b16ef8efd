use Rattle.std.proofs.Common.{◌≡◌, ◌∙◌, ◌++◌, ◌∷◌, [], List, ap, map, rules, vec_items}
use Rattle.std.specs.Prelude.{filter}
use Rattle.std.proofs.lemmas.Fn.{filter_same}
use Rattle.std.proofs.lemmas.List.{map-append}
use Rattle.iom_held.specs.Kept.{may_lend}
use Rattle.iom_held.specs.Shelves.{Shelf}
use Rattle.iom_held.specs.declared.kept.Kept.{Kept}
use Rattle.iom_held.proofs.Copied.{lenders_more}
use Rattle.iom_held.proofs.lending.copy_lenders.Goals as goal

pub loop-shelf-preserved : goal.loop-shelf-preserved
loop-shelf-preserved c =
    let so_far : List Shelf = c.loop-shelf.copies.items in
    let copied : c.extend_from_slice.new.self.items ≡ c.shelf-item.result.items =
    c.in_ok-extend_from_slice.ensures.items ∙ (λ i. c.new-copy.ensures.items i ++ c.as_slice.ensures.value i) in
    let kept : c.retain.new.self.items ≡ filter may_lend c.shelf-item.result.items =
    filter_same _ may_lend _ (λ x b f' k. search rules) _ _ c.retain.ensures.filtered ∙ ap (filter may_lend) copied in
    ap (map vec_items) c.in_ok-push.ensures.items ∙ map-append vec_items so_far (c.retain.new.self ∷ [])
    ∙ ap (λ (items : List Kept). map vec_items so_far ++ items ∷ []) kept
    ∙ lenders_more (map vec_items so_far) c.args.shelves.now c.loop-shelf.shelf-index c.shelf-item.result c.loop-shelf-test.true c.shelf-item.is c.loop-shelf.invariant
