use Rattle.std.proofs.Common.{◌∙◌, ◌<◌, ℕ, subst}
use Rattle.iom_judge.proofs.Apart.{out_next}
use Rattle.iom_judge.proofs.thinning.take_out_covered.Goals as goal

pub loop-i-preserved-then-branch : goal.loop-i-preserved-then-branch
loop-i-preserved-then-branch c =
    out_next c.loop-i.all.items c.args.all.now.items c.remove.new.self.items c.loop-i.i c.index.result.now c.args.one.now c.remove.ensures.items
    (subst (λ (n : ℕ). c.loop-i.i < n) (c.len.ensures ∙ c.loop-i.all.ok.0) c.loop-i-test.true) c.index.ensures (c.in_ok-covers.ensures.0 c.if-branch.true)
    c.loop-i.invariant.0 c.loop-i.invariant.1 c.loop-i.invariant.2 c.loop-i.invariant.3
