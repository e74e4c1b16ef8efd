use Rattle.std.proofs.Common.{◌≡◌, ◌∙◌, true, false, refl, sym}
use Rattle.iom_tables.specs.Stale.{is_same_way}
use Rattle.iom_tables.proofs.Sameness.{way_test}
use Rattle.iom_tables.proofs.staleness.differing.Goals as goal

pub returns-then-is_same : goal.returns-then-is_same
returns-then-is_same c =
    let same : is_same_way c.args.now.now c.args.tables ≡ true = sym (way_test _ _ _ c.is_same.ensures) ∙ c.if-is_same.true in rw same (record { told = refl })

pub returns-else-is_same : goal.returns-else-is_same
returns-else-is_same c =
    let other : is_same_way c.args.now.now c.args.tables ≡ false = sym (way_test _ _ _ c.is_same.ensures) ∙ c.if-is_same.false in rw other (record { told = refl })
