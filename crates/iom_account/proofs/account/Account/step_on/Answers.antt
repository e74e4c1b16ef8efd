use Rattle.std.proofs.Common.{◌≡◌, ◌++◌, [], ◌∷◌, List, ◌∙◌, sym, ap, subst}
use Rattle.circular_buffer.specs.Buffer.{keep_last}
use Rattle.iom_core.specs.State.{State, state_on}
use Rattle.iom_account.specs.Following.{Follows, HistoryView}
use Rattle.iom_account.specs.Account.{AccountView, CountsStep, most_reasons}
use Rattle.iom_account.specs.declared.reason.Reason.{Reason}
use Rattle.iom_account.proofs.Telling.{along_step, newest_told}
use Rattle.iom_account.proofs.account.Account.step_on.Goals as goal

pub returns : goal.returns
returns g c =
    let step = c.args.step.now in
    let number = c.args.number in
    let taken = c.step_with_reason-reason in
    let before : State = state_on (g.M.Region.memory c.args.ram.now) c.args.board.now in
    let after : State = state_on (g.M.Region.memory taken.new.ram) taken.new.board in
    let history : c.args.self.now.history ≡ c.self.inside.history = sym (ap (λ (a : AccountView). a.history) c.self.view_is) in
    let inside : c.self.inside.reasons ≡ c.args.self.now.reasons = ap (λ (a : AccountView). a.reasons) c.self.view_is in
    let left : AccountView = record { history = taken.new.self; reasons = c.keep.new.self } in
    let told : c.keep.new.self ≡ keep_last most_reasons (c.args.self.now.reasons ++ taken.result.0 ∷ []) =
    c.keep.ensures ∙ ap (λ (l : List Reason). keep_last most_reasons (l ++ taken.result.0 ∷ [])) inside in
    let counted : CountsStep c.args.self.now before step number left after = record {
      reason = taken.result.0;
      own = taken.ensures.reason;
      told = told;
      follows = λ start steps numbers h.
          taken.ensures.follows start steps numbers (subst (λ (notes : HistoryView). Follows notes before start steps numbers) history h);
      origin = λ start steps numbers h.
          taken.ensures.origin start steps numbers (subst (λ (notes : HistoryView). Follows notes before start steps numbers) history h);
    } in
    record {
      seen = taken.ensures.seen;
      answer = taken.ensures.answer;
      state = taken.ensures.state;
      borrow = taken.ensures.borrow;
      newest = newest_told _ c.self.inside.reasons before step number taken.result.0 c.keep.ensures taken.ensures.reason;
      counted = counted;
      along = along_step c.args.self.now before step number left after taken.ensures.state counted;
    }
