use Rattle.std.proofs.Common.{drop}
use Rattle.iom_choices.specs.Systems.{IsAmong}
use Rattle.iom_held.specs.declared.kept.Kept.{Kept}
use Rattle.iom_ways.specs.Asked.{answers}
use Rattle.iom_ways.proofs.Usable.{AreCollected}
use Rattle.iom_ways.proofs.asked.put_fitting.Given as goal

abbrev pub invariant-loop-kept : goal.invariant-loop-kept
invariant-loop-kept l = AreCollected l.shelf (answers l.asked) (λ (kept : Kept). IsAmong (drop l.kept-index l.shelf) kept) l.fn.out.items l.out.items
