use Rattle.std.proofs.Common.{◌≡◌, ◌*◌, ◌^◌, sym, ◌∙◌, ap}
use Rattle.iom_ddt.specs.Formats.{context_format}
use Rattle.iom_items.specs.Items.{words_in}
use Rattle.iom_asm.proofs.Spans.{are_there, none_there, no_item, at_least}
use Rattle.iom_asm.proofs.listing.are_inside.Goals as goal

pub returns-then-count-eq0-clause-value : goal.returns-then-count-eq0-clause-value
returns-then-count-eq0-clause-value c = rw c.if-count-eq0.true (sym (no_item c.args.ram.now c.args.features c.args.item c.args.addr))

pub returns-in-Some-clause-value : goal.returns-in-Some-clause-value
returns-in-Some-clause-value c =
    let len : c.in-Some.len ≡ c.args.count * (8 * words_in (context_format c.args.features) c.args.item) = c.in-Some.ensures.1 ∙ ap (λ size. c.args.count * size) (c.size-2.ensures ∙ ap (λ format. 8 * words_in format c.args.item) c.of.ensures) in
    c.covers.ensures ∙ rw (c.base-in-Some.ensures.value, c.base.ensures.value, c.size.ensures.value) (are_there c.args.ram.now c.args.features c.args.item c.args.addr c.args.count c.in-Some.len c.if-count-eq0.false len)

pub returns-in-None-clause-value : goal.returns-in-None-clause-value
returns-in-None-clause-value c =
    sym (none_there c.args.ram.now c.args.features c.args.item c.args.addr c.args.count c.base.ensures.legal.end_bound
    (at_least (c.args.count * (8 * words_in (context_format c.args.features) c.args.item)) (2 ^ 64) (rw (c.size-2.ensures, c.of.ensures) at c.in-None.ensures)))
