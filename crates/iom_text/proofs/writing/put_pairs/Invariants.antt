use Rattle.std.proofs.Common.{◌≡◌, ◌*◌, ◌++◌, length, drop}
use Rattle.std.specs.Int.Digits.{digits_of}
use Rattle.iom_text.specs.Texts.{digits_in}
use Rattle.iom_text.proofs.writing.put_pairs.Given as goal

abbrev pub invariant-loop-i : goal.invariant-loop-i
invariant-loop-i l = record {
  same : length l.places ≡ length (digits_of 16 l.number);
  count : length (digits_of 16 l.rest) ≡ 2 * l.i;
  put : digits_in 16 l.rest ++ drop (2 * l.i) l.places ≡ digits_in 16 l.number;
}
