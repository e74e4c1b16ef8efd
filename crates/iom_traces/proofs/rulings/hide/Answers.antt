use Rattle.iom_core.specs.declared.step.Step.TheVariants as step
use Rattle.iom_judge.specs.Unseen.{HasTaken}
use Rattle.iom_traces.proofs.Each.{if_each}
use Rattle.iom_traces.proofs.rulings.hide.Goals as goal

pub returns : goal.returns
returns c = rw c.if-not-hides.false
    (if_each c.args.judge.now (λ start traces few. HasTaken start traces step.Command few c.args.judge.now c.take_unseen.new.self) c.take_unseen.result c.take_unseen.ensures.taken)
