use Rattle.std.proofs.Common.{◌∙◌, Some, ap, sym}
use Rattle.iom_core.proofs.Explained.{explained, run_reaches, up_to_date_with}
use Rattle.iom_core.proofs.Runs.{last_of_states}
use Rattle.iom_core.proofs.Warranted.{warranted}
use Rattle.iom_core.proofs.platform.Platform.run.Goals as goal

pub returns-clause-last_state : goal.returns-clause-last_state
returns-clause-last_state c =
    last_of_states c.args.self.now c.args.steps.now ∙ ap Some (sym c.take_all.ensures.end)

pub returns-clause-fresh : goal.returns-clause-fresh
returns-clause-fresh c = λ none n. explained c.args.self.now c.args.steps.now none n

pub returns-clause-invalidated : goal.returns-clause-invalidated
returns-clause-invalidated c = λ n request warrant has. up_to_date_with c.args.self.now c.args.steps.now n request warrant has

pub returns-clause-accesses : goal.returns-clause-accesses
returns-clause-accesses c = λ none. warranted c.args.self.now c.args.steps.now none

pub returns-clause-reach : goal.returns-clause-reach
returns-clause-reach c = λ n taken is. run_reaches c.args.self.now c.args.steps.now n taken is
