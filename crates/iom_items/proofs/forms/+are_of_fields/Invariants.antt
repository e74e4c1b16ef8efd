use Rattle.std.proofs.Common.{length}
use Rattle.iom_items.proofs.forms.+are_of_fields.Given as goal

abbrev pub decreases-are_of_fields : goal.decreases-are_of_fields
decreases-are_of_fields l = length l.words.now
