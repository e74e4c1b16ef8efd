use Rattle.std.proofs.Common.{◌∙◌, ap, Some}
use Rattle.iom_c.proofs.Saves.{restored_same}
use Rattle.iom_c.proofs.restoring.rviommu_restore.Goals as goal

pub returns-in-Ok-clause-same : goal.returns-in-Ok-clause-same
returns-in-Ok-clause-same c =
    λ own is told. c.of.ensures ∙ ap Some (restored_same own c.in-Ok.own.value c.args.bytes.now is c.in-Ok.ensures.saved c.in-Ok.ensures.fresh)
