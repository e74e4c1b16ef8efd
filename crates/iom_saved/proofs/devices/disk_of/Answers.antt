use Rattle.iom_saved.proofs.Bytes.{counted_back, whole_of_words}
use Rattle.iom_saved.proofs.devices.disk_of.Goals as goal

pub returns-clause-words : goal.returns-clause-words
returns-clause-words c = counted_back c.args.words.now _ (λ i. (c.type_inv.words i).fits) c.in_ok-disk.ensures

pub returns-clause-whole : goal.returns-clause-whole
returns-clause-whole c = whole_of_words c.args.words.now _ c.in_ok-disk.ensures
