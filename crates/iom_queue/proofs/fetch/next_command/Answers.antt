use Rattle.iom_queue.specs.Fetching.{fetch_of}
use Rattle.std.proofs.Common.{rules}
use Rattle.iom_queue.proofs.fetch.next_command.Goals as goal

pub returns-in_default-clause-value : goal.returns-in_default-clause-value
unfolding fetch_of
returns-in_default-clause-value g c = search rules

pub returns-in_default-clause-meaning : goal.returns-in_default-clause-meaning
unfolding fetch_of
returns-in_default-clause-meaning g c = search rules
