use Rattle.iom_core.specs.Looking.{by_tables}
use Rattle.iom_tables.specs.Standing.{IsHitNow, is_hit_now, request_of}
use Rattle.iom_tables.proofs.Sameness.{page_test, standing_told}
use Rattle.iom_tables.proofs.places.stale_page.Goals as goal

pub returns-clause-told : goal.returns-clause-told
returns-clause-told c =
    let m = c.args.platform.now.machine in
    standing_told (IsHitNow m) (is_hit_now m) (λ key. by_tables m (request_of key)) (page_test m) _ _ c.page_at.ensures
