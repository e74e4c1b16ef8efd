use Rattle.iom_include.proofs.Plain.{stands}
use Rattle.iom_include.proofs.law.scripts_without_includes_stand_for_themselves.Goals as goal

pub returns : goal.returns
returns c = λ known name script none. stands known name script none
