use Rattle.std.proofs.Common.{length}
use Rattle.iom_items.proofs.capabilities.+is_feature_once.Given as goal

abbrev pub decreases-is_feature_once : goal.decreases-is_feature_once
decreases-is_feature_once l = length l.rows.now
