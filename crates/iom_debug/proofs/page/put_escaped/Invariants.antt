use Rattle.std.proofs.Common.{◌≡◌, ◌+◌, ◌*◌, ◌++◌, ◌≤◌, length, drop}
use Rattle.iom_debug.specs.Escaping.{escaped}
use Rattle.iom_debug.proofs.page.put_escaped.Given as goal

-- what stands and what remains are all
abbrev pub invariant-loop-byte : goal.invariant-loop-byte
invariant-loop-byte l = record {
  text : l.out.items ++ escaped (drop l.byte-index l.text) ≡ l.initial.out.items ++ escaped l.text;
  room : length l.out.items ≤ length l.initial.out.items + 4 * l.byte-index;
}
