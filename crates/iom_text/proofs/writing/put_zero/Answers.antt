use Rattle.iom_text.proofs.Digits.{zero_put}
use Rattle.iom_text.proofs.writing.put_zero.Goals as goal

pub returns-clause-text : goal.returns-clause-text
returns-clause-text c = zero_put c.args.places.now c.requires
