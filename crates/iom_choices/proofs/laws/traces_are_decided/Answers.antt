use Rattle.iom_choices.proofs.Traces.{allowed_possible, possible_allowed}
use Rattle.iom_choices.proofs.laws.traces_are_decided.Goals as goal

pub returns : goal.returns
returns g c = λ sys tree trees requests ahead fits start trace.
    (possible_allowed sys tree trees requests ahead fits start trace, allowed_possible sys tree trees requests ahead fits start trace)
