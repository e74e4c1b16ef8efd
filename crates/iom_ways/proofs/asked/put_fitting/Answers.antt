use Rattle.std.proofs.Common.{◌∙◌, sym}
use Rattle.iom_ways.specs.Asked.{answers}
use Rattle.iom_ways.proofs.Usable.{begun, done, none_left, one_passes, one_put}
use Rattle.iom_ways.proofs.asked.put_fitting.Goals as goal

pub loop-kept-init : goal.loop-kept-init
loop-kept-init c = begun _ _ _ _ (λ kept among is. among)

pub loop-kept-preserved : goal.loop-kept-preserved
loop-kept-preserved c =
    one_put c.args.shelf.now (answers c.args.asked.now) c.loop-kept.kept-index c.kept-item.result _ _ _ c.loop-kept-test.true c.kept-item.is c.in_ok-push.ensures.items c.loop-kept.invariant

pub loop-kept-preserved-then-not-answers : goal.loop-kept-preserved-then-not-answers
loop-kept-preserved-then-not-answers c =
    one_passes c.args.shelf.now (answers c.args.asked.now) c.loop-kept.kept-index c.kept-item.result _ _ c.loop-kept-test.true c.kept-item.is (sym c.answers.ensures ∙ c.if-not-answers.true) c.loop-kept.invariant

pub returns : goal.returns
returns c = done _ _ _ _ _ (λ kept left. none_left _ _ kept c.loop-kept-test.false left) c.loop-kept.invariant
