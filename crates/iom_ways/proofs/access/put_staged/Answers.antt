use Rattle.std.proofs.Common.{refl}
use Rattle.iom_ways.proofs.Ends.{staged_way}
use Rattle.iom_ways.proofs.access.put_staged.Goals as goal

pub returns : goal.returns
returns g c = λ end told.
    staged_way c.args.under.now.asks c.args.under.now.held.now _ _ _ _ _ _ _ _ _ end _ _ _ told c.way_to.ensures refl c.in_ok-put_led.ensures c.in_ok-put_entries.ensures
    c.in_ok-put_entries-2.ensures c.in_ok-put_entries-3.ensures c.in_ok-put_whole.ensures
