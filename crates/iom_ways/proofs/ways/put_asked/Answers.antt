use Rattle.std.proofs.Common.{List, ap, refl, subst}
use Rattle.iom_every.specs.Trees.{tree_of}
use Rattle.iom_held.specs.declared.kept.Kept.{Kept}
use Rattle.iom_ways.specs.Asked.{Collects, is_asked}
use Rattle.iom_ways.proofs.Usable.{on_ok}
use Rattle.iom_ways.proofs.ways.put_asked.Goals as goal

pub returns : goal.returns
returns g c = λ state memory registers.
    on_ok c.explore-done.result _ _ (λ done.
    subst (λ (before : List Kept). Collects c.args.held.now (is_asked (tree_of state c.args.request.now)) before c.explore-done.new.out.asked.items) (ap (λ v. v.items) c.replace.ensures.value) (done.asked refl))
    (c.explore-done.ensures state memory registers)
