use Rattle.std.proofs.Common.{◌≡◌, ◌*◌, length}
use Rattle.std.proofs.Math.Seq.{paste}
use Rattle.iom_mem.specs.Words.{bytes_of_words}
use Rattle.iom_mem.proofs.word_bytes.write_pairs.Given as goal

abbrev pub invariant-loop-i : goal.invariant-loop-i
invariant-loop-i l =
    (bytes_of_words l.words ≡ paste (bytes_of_words l.initial.words) (8 * l.first) l.bytes (16 * l.i)) × (length l.words ≡ length l.initial.words)
