use Rattle.iom_every.proofs.Sixteen.{widths_agree}
use Rattle.iom_every.proofs.laws.leaves_have_one_width.Goals as goal

pub returns : goal.returns
returns c = widths_agree
