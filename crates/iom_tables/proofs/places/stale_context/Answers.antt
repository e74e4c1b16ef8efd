use Rattle.iom_tables.specs.Standing.{IsContextNow, found_now, is_context_now}
use Rattle.iom_tables.proofs.Sameness.{context_test, standing_told}
use Rattle.iom_tables.proofs.places.stale_context.Goals as goal

pub returns-clause-told : goal.returns-clause-told
returns-clause-told c =
    let m = c.args.platform.now.machine in
    standing_told (IsContextNow m) (is_context_now m) (found_now m) (context_test m) _ _ c.context_at.ensures
