-- The longest answer to a line of a script, in bytes.
use Rattle.std.specs.Prelude.{ℕ}

abbrev pub answer_room : ℕ
answer_room = 320
