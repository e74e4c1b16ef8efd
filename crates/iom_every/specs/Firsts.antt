-- The first page that an entry stands for.
use Rattle.std.specs.Prelude.{ℕ, ◌*◌, ◌%◌, ◌^◌}
use Rattle.iom_every.specs.Entries.{Held}

-- of an entry of a stage, as 64 bits
abbrev pub first_page : Held → ℕ
first_page held = held.part * 2 ^ (9 * held.level) % 2 ^ 64
