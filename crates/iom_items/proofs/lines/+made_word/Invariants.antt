use Rattle.std.proofs.Common.{length}
use Rattle.iom_items.proofs.lines.+made_word.Given as goal

abbrev pub decreases-made_word : goal.decreases-made_word
decreases-made_word l = length l.fields.now
