use Rattle.std.proofs.Common.{◌≡◌, ◌*◌, length}
use Rattle.std.proofs.Math.Seq.{paste}
use Rattle.iom_mem.specs.Words.{bytes_of_words}
use Rattle.iom_mem.proofs.word_bytes.put_pairs.Given as goal

abbrev pub invariant-loop-i : goal.invariant-loop-i
invariant-loop-i l =
    (l.out ≡ paste l.initial.out l.to (bytes_of_words l.words) (16 * l.i)) × (length l.out ≡ length l.initial.out)
