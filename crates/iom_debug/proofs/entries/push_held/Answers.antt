use Rattle.std.proofs.Common.{append_assoc}
use Rattle.iom_debug.specs.Entries.{held_text}
use Rattle.iom_debug.proofs.entries.push_held.Goals as goal

pub returns-clause-text : goal.returns-clause-text
unfolding held_text
returns-clause-text c =
    rw (c.push_operand.ensures.text, c.push_number.ensures.text, c.push_text-3.ensures.text, c.push_text-2.ensures.text, c.push_text.ensures.text, c.kind_text.ensures.text, c.first_page.ensures, c.from.ensures)
    (simp append_assoc)
