use Rattle.std.proofs.Common.{refl, subst}
use Rattle.iom_choices.specs.Trees.{ways_over}
use Rattle.iom_every.specs.Trees.{tree_of}
use Rattle.iom_held.specs.Kept.{entries_in}
use Rattle.iom_ways.specs.Ways.{Gathers}
use Rattle.iom_ways.specs.declared.ways.Ways.{Ways}
use Rattle.iom_ways.proofs.Usable.{on_ok}
use Rattle.iom_ways.proofs.ways.put_ways.Goals as goal

pub returns : goal.returns
returns g c = λ state memory registers.
    on_ok c.explore-done.result _ _ (λ done.
    subst (λ (before : Ways). Gathers (ways_over (entries_in c.args.held.now) (tree_of state c.args.request.now)) before c.explore-done.new.out.ways) c.replace.ensures.value (done.ways refl))
    (c.explore-done.ensures state memory registers)
