use Rattle.std.proofs.Common.{get_or, arith}
use Rattle.std.proofs.lemmas.List.{get_or_default}
use Rattle.std.proofs.lemmas.List.Edits.{map_over_more}
use Rattle.iom_debug.specs.Summary.{denied_with}
use Rattle.iom_debug.proofs.summary.count_denied.Goals as goal

pub loop-entry-preserved : goal.loop-entry-preserved
loop-entry-preserved c =
    let l = c.loop-entry in
    let entry = get_or l.counts l.entry-index (0, 0) in
    rw c.denied_with.ensures (map_over_more (denied_with c.args.outcome.now) c.args.counts.now l.counts l.entry-index entry
    c.loop-entry-test.true l.invariant (get_or_default l.counts l.entry-index (0, 0) entry (omega arith)))
