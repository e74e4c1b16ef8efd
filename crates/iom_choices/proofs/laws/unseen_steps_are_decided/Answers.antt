use Rattle.iom_choices.proofs.Unseen.{possible_unseen_allowed, unseen_possible}
use Rattle.iom_choices.proofs.laws.unseen_steps_are_decided.Goals as goal

pub returns : goal.returns
returns g c = λ sys tree trees requests ahead fits hidden most thin thins start trace. (
  possible_unseen_allowed sys tree trees requests ahead fits hidden most thin thins start trace,
  unseen_possible sys tree trees requests ahead fits hidden most thin thins start trace,
)
