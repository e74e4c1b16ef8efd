use Rattle.std.proofs.Common.{rules}
use Rattle.iom_queue.specs.Denials.{denial_record}
use Rattle.iom_queue.proofs.record.Record.of_denial.Goals as goal

pub returns-in_default : goal.returns-in_default
unfolding denial_record
returns-in_default c = search rules

pub returns-in-Guest-clause-value : goal.returns-in-Guest-clause-value
unfolding denial_record
returns-in-Guest-clause-value c = search rules
