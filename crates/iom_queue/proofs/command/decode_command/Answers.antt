use Rattle.std.proofs.Common.{rules}
use Rattle.iom_queue.specs.Commands.{command_of}
use Rattle.iom_queue.proofs.command.decode_command.Goals as goal

pub returns-then-eq-clause-value : goal.returns-then-eq-clause-value
unfolding command_of
returns-then-eq-clause-value c = search rules

pub returns-then-eq-clause-found : goal.returns-then-eq-clause-found
unfolding command_of
returns-then-eq-clause-found c = search rules
