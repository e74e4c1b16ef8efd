use Rattle.std.proofs.Common.{◌≡◌, ◌++◌, drop}
use Rattle.std.specs.List.{flat_map}
use Rattle.iom_cli.specs.Suites.{tap_shown}
use Rattle.iom_cli.proofs.suites.put_tap.Given as goal

-- what stands and what remains are all
abbrev pub invariant-loop-byte : goal.invariant-loop-byte
invariant-loop-byte l = l.out.items ++ flat_map tap_shown (drop l.byte-index l.text) ≡ l.initial.out.items ++ flat_map tap_shown l.text
