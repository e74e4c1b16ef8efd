use Rattle.iom_items.specs.Items.{item_named}
use Rattle.std.proofs.Common.{rules}
use Rattle.iom_items.proofs.item.Item.named.Goals as goal

pub returns-then-eq-3 : goal.returns-then-eq-3
unfolding item_named
returns-then-eq-3 c = search rules
