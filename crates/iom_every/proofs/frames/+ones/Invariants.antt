use Rattle.iom_every.proofs.frames.+ones.Given as goal

abbrev pub decreases-ones : goal.decreases-ones
decreases-ones l = l.count
