use Rattle.std.proofs.Common.{◌≡◌, ◌+◌, ◌*◌, ◌++◌, ◌≤◌, length, drop}
use Rattle.iom_check.specs.Reporting.{quoted}
use Rattle.iom_check.proofs.pages.push_quoted.Given as goal

-- what stands and what remains are all
abbrev pub invariant-loop-byte : goal.invariant-loop-byte
invariant-loop-byte l = record {
  text : l.out.items ++ quoted l.quoting (drop l.byte-index l.text) ≡ l.initial.out.items ++ quoted l.quoting l.text;
  room : length l.out.items ≤ length l.initial.out.items + 6 * l.byte-index;
}
