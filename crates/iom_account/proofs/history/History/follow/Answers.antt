use Rattle.std.proofs.Common.{◌∙◌, ap, refl}
use Rattle.iom_core.specs.Looking.{nothing_seen, noticed}
use Rattle.iom_core.specs.State.{State, state_on}
use Rattle.iom_core.specs.Table.{asked, told_by_step}
use Rattle.iom_account.specs.Reads.{read_noticed}
use Rattle.iom_account.specs.declared.reads.Reads.{Reads}
use Rattle.iom_account.proofs.Accessed.{noted_by_reads}
use Rattle.iom_account.proofs.Stepped.{follows_step}
use Rattle.iom_account.proofs.history.History.follow.Goals as goal

pub returns-clause-noted : goal.returns-clause-noted
returns-clause-noted g c =
    let step = c.args.step.now in
    let before : State = state_on (g.M.Region.memory c.args.ram.now) c.args.board.now in
    let after : State = state_on (g.M.Region.memory c.step_into.new.ram) c.step_into.new.self in
    noted_by_reads before after step c.request_of-request.result c.step_into.new.witness c.args.number c.args.self.now c.note_reads.new.self
    c.request_of-request.ensures.request
    (c.step_into.ensures.told ∙ ap (λ (r : Reads). told_by_step read_noticed r before.machine (asked before step)) c.nothing-reads.ensures)
    (c.note_reads.ensures (g.M.Region.memory c.step_into.new.ram))

pub returns-clause-follows : goal.returns-clause-follows
returns-clause-follows g c = λ start steps numbers h.
    let step = c.args.step.now in
    let before : State = state_on (g.M.Region.memory c.args.ram.now) c.args.board.now in
    let after : State = state_on (g.M.Region.memory c.step_into.new.ram) c.step_into.new.self in
    follows_step c.args.self.now c.note_reads.new.self before after step (told_by_step noticed nothing_seen before.machine (asked before step)) c.args.number
    c.step_into.ensures.state refl (returns-clause-noted g c) start steps numbers h
