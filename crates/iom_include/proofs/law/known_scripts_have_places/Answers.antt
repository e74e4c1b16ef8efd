use Rattle.iom_include.proofs.Placing.{lines_placed}
use Rattle.iom_include.proofs.law.known_scripts_have_places.Goals as goal

pub returns : goal.returns
returns c = λ texts name script. lines_placed texts name script
