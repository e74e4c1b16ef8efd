use Rattle.iom_core.specs.State.{state_on}
use Rattle.iom_core.proofs.Interrupted.{reaches, refused}
use Rattle.iom_core.proofs.board.Board.step_into.Goals as goal

pub returns-clause-reach : goal.returns-clause-reach
returns-clause-reach g c =
    rw (c.by_table.ensures.answer, c.by_table.ensures.state) (reaches (state_on (g.M.Region.memory c.args.ram.now) c.args.self.now) c.args.step.now)

pub returns-clause-refused : goal.returns-clause-refused
returns-clause-refused g c =
    rw (c.by_table.ensures.answer, c.by_table.ensures.state) (refused (state_on (g.M.Region.memory c.args.ram.now) c.args.self.now) c.args.step.now)
