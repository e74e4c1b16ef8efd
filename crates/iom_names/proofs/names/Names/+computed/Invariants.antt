use Rattle.std.proofs.Common.{length}
use Rattle.iom_text.specs.Words.{words_of}
use Rattle.iom_names.proofs.names.Names.+computed.Given as goal

abbrev pub decreases-computed : goal.decreases-computed
decreases-computed l = length (words_of l.text.now)
