use Rattle.std.proofs.Common.{◌≡◌, length}
use Rattle.iom_mem.specs.Words.{bytes_of_words, AreWords}
use Rattle.iom_mem.proofs.word_bytes.read_words.Given as goal

abbrev pub invariant-loop-i : goal.invariant-loop-i
invariant-loop-i l = AreWords l.out (bytes_of_words l.words) l.at l.i × (length l.out ≡ length l.initial.out)
