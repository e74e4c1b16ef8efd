use Rattle.std.proofs.Common.{get_or, arith}
use Rattle.std.proofs.lemmas.List.{get_or_default}
use Rattle.std.proofs.lemmas.List.Edits.{map_over_more}
use Rattle.iom_cache.specs.Places.{dropped_by}
use Rattle.iom_cache.specs.Drops.{drops_context}
use Rattle.iom_cache.proofs.contexts.empty_matching.Goals as goal

pub loop-place-preserved : goal.loop-place-preserved
loop-place-preserved c =
    let l = c.loop-place in
    let place = get_or l.places l.place-index c.place-item.result in
    rw c.place_after.ensures (map_over_more (dropped_by (drops_context c.args.command.now)) c.args.places.now l.places l.place-index place
    c.loop-place-test.true l.invariant (get_or_default l.places l.place-index c.place-item.result place (omega arith)))
