use Rattle.std.proofs.Common.{drop}
use Rattle.iom_choices.specs.Systems.{IsAmong}
use Rattle.iom_held.specs.Tags.{tag_of}
use Rattle.iom_held.specs.declared.kept.Kept.{Kept}
use Rattle.iom_ways.specs.Asked.{answers}
use Rattle.iom_ways.proofs.Usable.{AreCollected}
use Rattle.iom_ways.proofs.asked.put_tagged.Given as goal

abbrev pub invariant-loop-tag : goal.invariant-loop-tag
invariant-loop-tag l = AreCollected l.held (answers l.asked) (λ (kept : Kept). IsAmong (drop l.tag-index l.tags) (tag_of kept.entry)) l.fn.out.items l.out.items
