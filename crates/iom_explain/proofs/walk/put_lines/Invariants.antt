use Rattle.std.proofs.Common.{◌≡◌, ◌+◌, ◌*◌, ◌++◌, ◌≤◌, length, drop}
use Rattle.iom_explain.specs.Walking.{walk_lines}
use Rattle.iom_explain.proofs.walk.put_lines.Given as goal

-- what stands and what remains are all
abbrev pub invariant-loop-at : goal.invariant-loop-at
invariant-loop-at l = record {
  text : l.out.items ++ walk_lines l.platform.machine l.request (drop l.at l.parts)
      ≡ l.initial.out.items ++ walk_lines l.platform.machine l.request l.parts;
  room : length l.out.items ≤ 400 + 336 * l.at;
  places : length l.lines ≡ 40;
}
