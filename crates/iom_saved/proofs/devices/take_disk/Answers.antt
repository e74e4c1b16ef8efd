use Rattle.std.proofs.Common.{◌∙◌, ap}
use Rattle.iom_mem.specs.Words.{bytes_of_words}
use Rattle.iom_saved.proofs.Again.{as_list, bytes_again, in_words}
use Rattle.iom_saved.proofs.devices.take_disk.Goals as goal

pub returns-in_default-clause-taken : goal.returns-in_default-clause-taken
returns-in_default-clause-taken c = λ disk rest are whole. absurd (c.in_default.ensures.taken (in_words disk) rest (are ∙ as_list disk rest))

pub returns-clause-taken : goal.returns-clause-taken
returns-clause-taken c = λ disk rest are whole.
    let list = c.in-Some.ensures.taken (in_words disk) rest (are ∙ as_list disk rest) in
    (c.in_ok-disk.ensures.bytes ∙ ap bytes_of_words list.0 ∙ bytes_again disk whole, list.1)
