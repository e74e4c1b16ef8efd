use Rattle.std.proofs.Common.{append_assoc}
use Rattle.iom_debug.specs.Entries.{directory_text}
use Rattle.iom_debug.proofs.entries.push_directory.Goals as goal

pub returns-clause-text : goal.returns-clause-text
unfolding directory_text
returns-clause-text c = rw (c.push_operand.ensures.text, c.push_number.ensures.text, c.from-2.ensures, c.from.ensures) (simp append_assoc)
