use Rattle.std.proofs.Common.{length}
use Rattle.iom_items.proofs.forms.+stated_word.Given as goal

abbrev pub decreases-stated_word : goal.decreases-stated_word
decreases-stated_word l = length l.fields.now
