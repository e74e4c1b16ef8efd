use Rattle.iom_saved.proofs.Checks.{one_check}
use Rattle.iom_saved.proofs.Codes.{one_board, one_history, one_memory}
use Rattle.iom_saved.proofs.laws.words_tell_apart.Goals as goal

pub returns-clause-memory : goal.returns-clause-memory
returns-clause-memory c = one_memory

pub returns-clause-history : goal.returns-clause-history
returns-clause-history c = one_history

pub returns-clause-board : goal.returns-clause-board
returns-clause-board c = one_board

pub returns-clause-check : goal.returns-clause-check
returns-clause-check c = one_check
