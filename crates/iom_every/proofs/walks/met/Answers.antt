use Rattle.iom_every.proofs.OneMemory.{all_met, met_within}
use Rattle.iom_every.proofs.walks.met.Goals as goal

pub returns-clause-path : goal.returns-clause-path
returns-clause-path g c = all_met _ _ _ _ _ (met_within _ _ _ _ _ c.requires.used) c.new-met.ensures c.walk_by-end.ensures.noted

pub returns-clause-fits : goal.returns-clause-fits
returns-clause-fits g c =
    rw (all_met _ _ _ _ _ (met_within _ _ _ _ _ c.requires.used) c.new-met.ensures c.walk_by-end.ensures.noted) (met_within _ _ _ _ _ c.requires.used).levels
