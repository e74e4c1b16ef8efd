use Rattle.std.proofs.Common.{length}
use Rattle.iom_items.proofs.forms.+is_field_once.Given as goal

abbrev pub decreases-is_field_once : goal.decreases-is_field_once
decreases-is_field_once l = length l.fields.now
