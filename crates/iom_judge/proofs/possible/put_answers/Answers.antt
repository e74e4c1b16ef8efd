use Rattle.std.proofs.Common.{rules}
use Rattle.iom_core.specs.Rows.{row}
use Rattle.iom_every.specs.Ways.{Goes}
use Rattle.std.specs.Prelude.{Option}
use Rattle.iom_judge.specs.Seen.{fits_seen}
use Rattle.iom_judge.proofs.Any.{any_next}
use Rattle.iom_judge.proofs.possible.put_answers.Goals as goal

pub loop-goes-preserved : goal.loop-goes-preserved
loop-goes-preserved c = (
  λ seen. any_next (λ (goes : Option Goes). fits_seen ((row c.args.platform.now c.args.step.now goes).answer, goes) seen) c.args.places.now c.loop-goes.goes-index _ _ _ _
      c.loop-goes-test.true (search rules) (c.in_ok-put_answer_at.ensures.shown seen) (c.loop-goes.invariant.0 seen),
  c.in_ok-put_answer_at.ensures.once,
)
