use Rattle.std.proofs.Common.{rules}
use Rattle.iom_judge.specs.Behind.{behind_one}
use Rattle.iom_judge.proofs.Folding.{places_end, places_next}
use Rattle.iom_judge.proofs.behind.put_all.Goals as goal

pub loop-goes-preserved : goal.loop-goes-preserved
loop-goes-preserved c = (
  c.in_ok-put_one.ensures.apart,
  places_next (behind_one c.args.candidate.now.platform c.args.held.now c.args.step.now c.args.seen.now) c.args.places.now _ c.loop-goes.goes-index _ _ _
      c.loop-goes-test.true (search rules) c.loop-goes.invariant.1 c.in_ok-put_one.ensures.thinned,
)

pub returns-clause-thinned : goal.returns-clause-thinned
returns-clause-thinned c =
    places_end (behind_one c.args.candidate.now.platform c.args.held.now c.args.step.now c.args.seen.now) c.args.places.now _ c.loop-goes.goes-index _ c.loop-goes-test.false c.loop-goes.invariant.1
