use Rattle.std.proofs.Common.{◌≡◌, ◌++◌}
use Rattle.iom_saved.specs.Bytes.{words_in}
use Rattle.iom_saved.proofs.byte_words.put_words_in.Given as goal

-- the words so far were put
abbrev pub invariant-loop-i : goal.invariant-loop-i
invariant-loop-i l = l.out.items ≡ l.initial.out.items ++ words_in l.i l.bytes
