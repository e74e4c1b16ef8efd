use Rattle.std.proofs.Common.{refl}
use Rattle.iom_saved.proofs.registers.take_values.Goals as goal

pub returns-clause-taken : goal.returns-clause-taken
returns-clause-taken c = λ r rest are offer room small.
    let f = c.in_ok-features.ensures.taken r.features _ are offer in
    let one = c.in_ok-ddtp.ensures.taken r.ddtp r.acting _ f.1 in
    let two = c.in_ok-cqb.ensures.taken r.cqb r.cqh r.cqt r.fqb _ one.2 in
    let three = c.in_ok-fqh.ensures.taken r.fqh r.fqt r.cqcsr r.fqcsr _ two.4 in
    let four = c.in_ok-ipsr.ensures.taken r.ipsr r.icvec _ three.4 in
    let five = c.in_ok-fctl.ensures.taken r.fctl _ four.2 in
    let six = c.in_ok-table.ensures.taken r.table rest five.1 room small in
    (rw (f.0, one.0, one.1, two.0, two.1, two.2, two.3, three.0, three.1, three.2, three.3, four.0, four.1, five.0, six.0) refl, six.1)
