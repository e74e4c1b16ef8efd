use Rattle.std.proofs.Common.{◌≡◌, ◌++◌, length, drop}
use Rattle.std.specs.Int.Digits.{digits_of}
use Rattle.iom_text.specs.Texts.{digits_in}
use Rattle.iom_text.proofs.writing.put_digits.Given as goal

abbrev pub invariant-loop-i : goal.invariant-loop-i
invariant-loop-i l = (length l.places ≡ length (digits_of 10 l.number)) × (length (digits_of 10 l.rest) ≡ l.i)
    × (digits_in 10 l.rest ++ drop l.i l.places ≡ digits_in 10 l.number)
