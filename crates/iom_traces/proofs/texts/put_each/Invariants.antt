use Rattle.std.proofs.Common.{◌≡◌, ◌+◌, ◌*◌, ◌≤◌, ◌++◌, drop, length}
use Rattle.std.specs.List.{flat_map}
use Rattle.iom_traces.specs.Texts.{next_text}
use Rattle.iom_traces.proofs.texts.put_each.Given as goal

abbrev pub invariant-loop-one : goal.invariant-loop-one
invariant-loop-one l = record {
  text : l.out.items ++ flat_map next_text (drop l.one-index l.some) ≡ l.initial.out.items ++ flat_map next_text l.some;
  room : length l.out.items ≤ length l.initial.out.items + 152 * l.one-index;
}
