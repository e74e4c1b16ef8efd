use Rattle.std.proofs.Common.{rules}
use Rattle.iom_core.specs.Table.{acted, asked}
use Rattle.iom_core.proofs.board.Board.by_row.Goals as goal

pub returns-in-Device-clause-answer : goal.returns-in-Device-clause-answer
unfolding acted asked
returns-in-Device-clause-answer g c = search rules

pub returns-in-Device-clause-state : goal.returns-in-Device-clause-state
unfolding acted asked
returns-in-Device-clause-state g c = search rules

pub returns-in-DevWrite-clause-answer : goal.returns-in-DevWrite-clause-answer
unfolding acted asked
returns-in-DevWrite-clause-answer g c = let row = c.dev_write.ensures.answer (g.M.Region.memory c.args.ram.now) in search rules

pub returns-in-DevWrite-clause-state : goal.returns-in-DevWrite-clause-state
unfolding acted asked
returns-in-DevWrite-clause-state g c = let row = c.dev_write.ensures.state (g.M.Region.memory c.args.ram.now) in search rules
