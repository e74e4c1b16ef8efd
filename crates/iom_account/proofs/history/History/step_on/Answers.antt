use Rattle.iom_core.specs.State.{state_on}
use Rattle.iom_account.proofs.Stepped.{follows_step, none_told, notes_of_step, origin_of_step, origin_step}
use Rattle.iom_account.proofs.history.History.step_on.Goals as goal

pub returns-clause-noted : goal.returns-clause-noted
returns-clause-noted g c =
    notes_of_step c.args.self.now c.take.new.self (state_on (g.M.Region.memory c.args.ram.now) c.args.board.now)
    (state_on (g.M.Region.memory c.take.new.ram) c.take.new.board) c.args.step.now c.request_of-asked.result c.take.result.seen
    c.args.number c.request_of-asked.ensures.request c.take.ensures.seen c.take.ensures.noted

pub returns-clause-told : goal.returns-clause-told
returns-clause-told g c =
    origin_of_step c.take.new.self (state_on (g.M.Region.memory c.take.new.ram) c.take.new.board) c.request_of-asked.result _ c.args.number
    c.take.result.seen c.take.result.origin c.take.ensures.told c.request_of-asked.ensures.request

pub returns-clause-none : goal.returns-clause-none
returns-clause-none g c =
    none_told (state_on (g.M.Region.memory c.args.ram.now) c.args.board.now) (state_on (g.M.Region.memory c.take.new.ram) c.take.new.board)
    c.args.step.now c.take.new.self c.take.result.seen c.args.number c.take.result.origin c.take.ensures.seen (returns-clause-told g c)

pub returns-clause-follows : goal.returns-clause-follows
returns-clause-follows g c = λ start steps numbers h.
    follows_step c.args.self.now c.take.new.self (state_on (g.M.Region.memory c.args.ram.now) c.args.board.now)
    (state_on (g.M.Region.memory c.take.new.ram) c.take.new.board) c.args.step.now c.take.result.seen c.args.number c.take.ensures.state
    c.take.ensures.seen (returns-clause-noted g c) start steps numbers h

pub returns-clause-origin : goal.returns-clause-origin
returns-clause-origin g c = λ start steps numbers h.
    origin_step c.args.self.now c.take.new.self (state_on (g.M.Region.memory c.args.ram.now) c.args.board.now)
    (state_on (g.M.Region.memory c.take.new.ram) c.take.new.board) c.args.step.now c.take.result.seen c.args.number c.take.ensures.state
    c.take.ensures.seen (returns-clause-noted g c) start steps numbers h c.take.result.origin (returns-clause-told g c)
