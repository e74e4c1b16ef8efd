use Rattle.iom_choices.proofs.Seen.{run_allowed, settled_seen}
use Rattle.iom_choices.proofs.laws.the_model_is_allowed.Goals as goal

pub returns-clause-own : goal.returns-clause-own
returns-clause-own g c = λ sys run is fits trace seen. run_allowed sys run is fits trace seen

pub returns-clause-settled : goal.returns-clause-settled
returns-clause-settled g c = λ sys run is fits trace settled allowed. settled_seen sys run is fits trace settled allowed
