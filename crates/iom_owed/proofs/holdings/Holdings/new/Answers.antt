use Rattle.iom_owed.proofs.There.{begun}
use Rattle.iom_owed.proofs.holdings.Holdings.new.Goals as goal

pub returns : goal.returns
returns c = λ start. rw (c.new.ensures.items, c.new-2.ensures, c.new-3.ensures.empty) (begun start)
