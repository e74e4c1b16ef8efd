use Rattle.iom_cache.proofs.Indexed.{left}
use Rattle.iom_cache.proofs.index.Index.leave.Goals as goal

pub returns : goal.returns
returns c = λ places room h. rw (c.clear.ensures, c.count_less.ensures) (left c.args.self.now c.args.oldest.now places room h)
