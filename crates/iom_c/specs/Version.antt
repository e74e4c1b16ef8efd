-- Which library this is.
use Rattle.std.specs.Prelude.{ℕ, ◌+◌, ◌*◌, ◌^◌}

-- version 0.4.0: its three numbers in bits 23:16, 15:8 and 7:0
abbrev pub version : ℕ
version = 0 * 2 ^ 16 + 4 * 2 ^ 8 + 0
