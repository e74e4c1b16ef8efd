use Rattle.std.proofs.Common.{append_assoc}
use Rattle.iom_debug.specs.Entries.{file_text}
use Rattle.iom_debug.proofs.entries.push_file.Goals as goal

pub returns-clause-text : goal.returns-clause-text
unfolding file_text
returns-clause-text c = rw (c.push_operand-2.ensures.text, c.push_operand.ensures.text, c.push_text.ensures.text, c.from.ensures) (simp append_assoc)
