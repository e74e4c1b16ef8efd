use Rattle.iom_c.proofs.restoring.owned_of.Goals as goal

pub returns-clause-fit : goal.returns-clause-fit
returns-clause-fit c = λ i. (c.type_inv.words i).fits
