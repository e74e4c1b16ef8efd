use Rattle.std.proofs.Common.{◌≡◌, ◌≤◌, ◌+◌, ◌*◌, ◌++◌, length, take}
use Rattle.iom_tool.specs.Texts.{operands}
use Rattle.iom_tool.proofs.text.push_form.Given as goal

abbrev pub invariant-loop-number : goal.invariant-loop-number
invariant-loop-number l = record {
  text : l.out ≡ l.initial.out ++ operands (take l.number-index l.numbers);
  room : length l.out ≤ length l.initial.out + 19 * l.number-index;
}
