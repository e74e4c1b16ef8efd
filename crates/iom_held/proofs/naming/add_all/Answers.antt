use Rattle.std.proofs.Common.{◌++◌, List, sym, subst, take}
use Rattle.std.proofs.lemmas.List.{append-nil, take_all}
use Rattle.iom_held.specs.Naming.{AreTold, naming}
use Rattle.iom_held.specs.declared.kept.Kept.{Kept}
use Rattle.iom_held.proofs.Named.{naming_more}
use Rattle.iom_held.proofs.naming.add_all.Goals as goal

pub loop-each-init : goal.loop-each-init
loop-each-init c = λ all h. subst (λ (xs : List Kept). AreTold xs c.args.found.now) (sym (append-nil all)) h

pub loop-each-preserved : goal.loop-each-preserved
loop-each-preserved c = λ all h.
    subst (λ (xs : List Kept). AreTold xs c.add.new.found)
    (naming_more c.args.addr c.args.len c.args.kept.now c.loop-each.each-index c.each-item.result all c.loop-each-test.true c.each-item.is)
    (c.add.ensures (all ++ naming c.args.addr c.args.len (take c.loop-each.each-index c.args.kept.now)) (c.loop-each.invariant all h))

pub returns : goal.returns
returns c = λ all h.
    subst (λ (xs : List Kept). AreTold (all ++ naming c.args.addr c.args.len xs) c.loop-each.found)
    (take_all c.loop-each.each-index c.args.kept.now c.loop-each-test.false) (c.loop-each.invariant all h)
