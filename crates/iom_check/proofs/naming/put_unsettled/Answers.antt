use Rattle.std.proofs.Common.{◌++◌, ◌∙◌, ap}
use Rattle.iom_debug.specs.Invalidations.{invalidation_text}
use Rattle.iom_debug.specs.Marks.{named_at}
use Rattle.iom_check.proofs.Named.{told_at}
use Rattle.iom_check.proofs.naming.put_unsettled.Goals as goal

pub returns-clause-told : goal.returns-clause-told
returns-clause-told c =
    let read = c.put_unsettled_read.ensures.told in
    let marks = c.args.marks.now in
    let found = c.args.access.now.unsettled in
    let behind = invalidation_text (named_at marks) c.args.last found.serving in
    (read.0, read.1, (behind, told_at marks c.args.last found, c.put_invalidation.ensures.text ∙ ap (λ l. l ++ behind) read.2))
