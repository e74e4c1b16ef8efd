use Rattle.iom_nested.proofs.files.+packed.Given as goal

abbrev pub decreases-packed : goal.decreases-packed
decreases-packed l = l.count
