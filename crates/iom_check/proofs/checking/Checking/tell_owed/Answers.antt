use Rattle.iom_check.specs.Drives.{checked_by}
use Rattle.iom_check.proofs.Owed.{none_told}
use Rattle.iom_check.proofs.checking.Checking.tell_owed.Goals as goal

pub returns-in_default-clause-told : goal.returns-in_default-clause-told
returns-in_default-clause-told g c = none_told (checked_by c.args.self.now) _ _ c.in_default.ensures.none c.in_default.ensures.lost
