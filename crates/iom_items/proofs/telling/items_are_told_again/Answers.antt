use Rattle.iom_items.proofs.Entries.{reads_dirs, reads_msis, reads_ptes}
use Rattle.iom_items.proofs.Restated.{states_words, tells_operands, tells_statements}
use Rattle.iom_items.proofs.telling.items_are_told_again.Goals as goal

pub returns-clause-operands : goal.returns-clause-operands
returns-clause-operands c = tells_operands

pub returns-clause-statements : goal.returns-clause-statements
returns-clause-statements c = tells_statements

pub returns-clause-words : goal.returns-clause-words
returns-clause-words c = states_words

pub returns-clause-dirs : goal.returns-clause-dirs
returns-clause-dirs c = reads_dirs

pub returns-clause-ptes : goal.returns-clause-ptes
returns-clause-ptes c = reads_ptes

pub returns-clause-msis : goal.returns-clause-msis
returns-clause-msis c = reads_msis
