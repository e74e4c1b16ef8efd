use Rattle.std.proofs.Common.{◌+◌, ◌*◌, refl, sym, ◌∙◌, ap, arith}
use Rattle.std.specs.Option.{option_map}
use Rattle.iom_items.specs.Items.{words_in}
use Rattle.iom_items.proofs.Plain.{line_ascii}
use Rattle.iom_asm.proofs.Spans.{list_goes_on, list_stops, list_done, item_fits}
use Rattle.iom_asm.proofs.listing.list.Goals as goal

pub returns-in_default-clause-text : goal.returns-in_default-clause-text
returns-in_default-clause-text c =
    let gone = list_stops _ _ _ _ _ _ _ _ c.loop-test.true (sym c.item_line_on.ensures ∙ ap (option_map (λ line. line.items)) c.in_default.is) c.loop.invariant.so_far in
    rw gone tt

pub push_line-requires : goal.push_line-requires
push_line-requires c =
    rw c.as_slice.ensures.value (line_ascii _ _ _ _ _ (sym c.item_line_on.ensures ∙ ap (option_map (λ line. line.items)) c.in-Some.is))

pub overflow_add-at : goal.overflow_add-at
overflow_add-at c =
    let fits = item_fits _ _ _ _ _ (sym c.item_line_on.ensures ∙ ap (option_map (λ line. line.items)) c.in-Some.is) in
    omega (arith, fits, c.size-at.ensures ∙ ap (λ format. 8 * words_in format c.args.item) c.of.ensures, c.are_inside.ensures.legal)

pub loop-preserved : goal.loop-preserved
loop-preserved c = record {
  so_far = list_goes_on _ _ _ _ _ _ _ _ _ _ _ c.loop-test.true (sym c.item_line_on.ensures ∙ ap (option_map (λ line. line.items)) c.in-Some.is)
      (rw c.as_slice.ensures.value at c.in_ok-push_line.ensures) (ap (λ size. c.loop.at + size) (c.size-at.ensures ∙ ap (λ format. 8 * words_in format c.args.item) c.of.ensures)) c.loop.invariant.so_far;
}

pub returns-clause-text : goal.returns-clause-text
returns-clause-text c = rw (list_done _ _ _ _ _ _ _ _ c.loop-test.false c.loop.invariant.so_far) refl
