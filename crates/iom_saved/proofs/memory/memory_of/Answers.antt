use Rattle.std.proofs.Common.{ap}
use Rattle.iom_mem.specs.Memory.{Memory}
use Rattle.iom_saved.proofs.Bytes.{memory_back, whole_of_words}
use Rattle.iom_saved.proofs.memory.memory_of.Goals as goal

pub returns-in-Ok-clause-words : goal.returns-in-Ok-clause-words
returns-in-Ok-clause-words c = memory_back c.in-Ok.ram c.args.base c.args.words.now (λ i. (c.type_inv.words i).fits) c.in-Ok.ensures.made

pub returns-in-Ok-clause-whole : goal.returns-in-Ok-clause-whole
returns-in-Ok-clause-whole c = whole_of_words c.args.words.now _ (ap (λ (m : Memory). m.bytes) c.in-Ok.ensures.made)
