use Rattle.iom_every.proofs.Split.{each_of_sixteen, itself}
use Rattle.iom_every.proofs.reads.read_entries_are_kept.Goals as goal

pub returns-clause-itself : goal.returns-clause-itself
returns-clause-itself c = λ features entry. itself features entry

pub returns-clause-sixteen : goal.returns-clause-sixteen
returns-clause-sixteen c = λ features held page is same. rw (is) (each_of_sixteen held page same)
