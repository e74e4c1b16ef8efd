use Rattle.iom_items.proofs.Reading.{reads_commands, reads_contexts, reads_entries, reads_extended, reads_msi_entries, reads_records}
use Rattle.iom_items.proofs.telling.lines_tell_what_is_read.Goals as goal

pub returns-clause-commands : goal.returns-clause-commands
returns-clause-commands c = reads_commands

pub returns-clause-records : goal.returns-clause-records
returns-clause-records c = reads_records

pub returns-clause-contexts : goal.returns-clause-contexts
returns-clause-contexts c = reads_contexts

pub returns-clause-extended : goal.returns-clause-extended
returns-clause-extended c = reads_extended

pub returns-clause-entries : goal.returns-clause-entries
returns-clause-entries c = reads_entries

pub returns-clause-msis : goal.returns-clause-msis
returns-clause-msis c = reads_msi_entries
