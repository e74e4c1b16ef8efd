use Rattle.std.proofs.Common.{length}
use Rattle.iom_text.specs.Words.{words_of}
use Rattle.iom_names.proofs.replacing.+put_with_numbers.Given as goal

abbrev pub decreases-put_with_numbers : goal.decreases-put_with_numbers
decreases-put_with_numbers l = length (words_of l.text.now)
