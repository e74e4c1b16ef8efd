use Rattle.iom_every.proofs.Pages.{one_goal, one_way, same_reads}
use Rattle.iom_every.proofs.laws.one_way_a_page.Goals as goal

pub returns-clause-led : goal.returns-clause-led
returns-clause-led c = one_way

pub returns-clause-goes : goal.returns-clause-goes
returns-clause-goes c = one_goal

pub returns-clause-reads : goal.returns-clause-reads
returns-clause-reads c = same_reads
