use Rattle.std.proofs.Common.{[], sym, subst}
use Rattle.iom_c.specs.Freeing.{FreeTold}
use Rattle.iom_c.specs.declared.settling.Settling.{Settling}
use Rattle.iom_c.proofs.freeing.put_free.Goals as goal

pub returns-in-Kept : goal.returns-in-Kept
returns-in-Kept c =
    subst (λ (settling : Settling). FreeTold settling c.args.addr c.args.len c.put_naming.result c.args.out.now c.put_naming.new.out) (sym c.in-Kept.is)
    (c.naming.result, c.naming.ensures [], c.put_naming.ensures)
