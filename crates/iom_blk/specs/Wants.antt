-- The access that a device asks for, from the code's type.
use Rattle.std.specs.Prelude.{ℕ, ◌≡◌, Option, Some, None, List, length}
use Rattle.iom_virtq.specs.Bus.{Ask, Read, Write}
use Rattle.iom_blk.specs.declared.want.Want.{Want}
use Rattle.iom_blk.specs.declared.want.Want.TheVariants as want

abbrev pub wanted : Want → Option Ask
wanted want.Nothing = None
wanted (want.Read iova len) = Some (Read iova len)
wanted (want.Write iova bytes) = Some (Write iova bytes.items)

-- the bytes of a granted access: a read has as many as it asked for
abbrev pub Answers : List ℕ → Ask → Type 0
Answers bytes (Read iova count) = length bytes ≡ count
Answers bytes (Write iova written) = Unit {0}
