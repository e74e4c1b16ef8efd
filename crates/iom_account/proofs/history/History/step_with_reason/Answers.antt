use Rattle.std.proofs.Common.{refl}
use Rattle.iom_core.specs.State.{State, state_on}
use Rattle.iom_account.specs.declared.reason.Reason.{Reason}
use Rattle.iom_account.proofs.Stepped.{follows_step, none_told, notes_of_step, origin_of_step, origin_step}
use Rattle.iom_account.proofs.Telling.{own_reason}
use Rattle.iom_account.proofs.history.History.step_with_reason.Goals as goal

pub returns : goal.returns
returns g c =
    let old = c.args.self.now in
    let step = c.args.step.now in
    let number = c.args.number in
    let asked = c.request_of-request in
    let taken = c.take-taken in
    let seen = taken.result.seen in
    let before : State = state_on (g.M.Region.memory c.args.ram.now) c.args.board.now in
    let after : State = state_on (g.M.Region.memory taken.new.ram) taken.new.board in
    let reason : Reason = record {
      number = number;
      request = asked.result;
      origin = taken.result.origin;
      address = c.address_by.result;
      stale = c.stale_by.result;
    } in
    let noted =
    notes_of_step old taken.new.self before after step asked.result seen number asked.ensures.request taken.ensures.seen taken.ensures.noted in
    let origin =
    origin_of_step taken.new.self after asked.result _ number seen taken.result.origin taken.ensures.told asked.ensures.request in
    record {
      answer = taken.ensures.answer;
      state = taken.ensures.state;
      borrow = taken.ensures.borrow;
      reason = own_reason before step number asked.result seen c.tables_for-tables.result reason asked.ensures.request taken.ensures.seen
          c.tables_for-tables.ensures.way refl refl c.address_by.ensures.address c.stale_by.ensures.way;
      seen = taken.ensures.seen;
      noted = noted;
      none = none_told before after step taken.new.self seen number taken.result.origin taken.ensures.seen origin;
      follows = λ start steps numbers h.
          follows_step old taken.new.self before after step seen number taken.ensures.state taken.ensures.seen noted start steps numbers h;
      origin = λ start steps numbers h.
          origin_step old taken.new.self before after step seen number taken.ensures.state taken.ensures.seen noted start steps numbers h
          taken.result.origin origin;
    }
