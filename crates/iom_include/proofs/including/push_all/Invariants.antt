use Rattle.std.proofs.Common.{◌-◌, ◌≤◌, ℕ, List, Some, drop, length}
use Rattle.std.specs.Io.KnownBytes.{Keeps}
use Rattle.iom_include.specs.Including.{left_by}
use Rattle.iom_include.proofs.including.push_all.Given as goal

-- what stands, and what stands for the rest
abbrev pub invariant-loop-first : goal.invariant-loop-first
invariant-loop-first g l = record {
  inside : l.done ≤ length l.script;
  kept : (more : List ℕ) → Keeps (left_by (g.T.Texts.known l.source.texts.now) (Some more) l.initial.out.text.items l.name l.script)
      (left_by (g.T.Texts.known l.source.texts.now) (Some more) l.out.text.items l.name (drop l.done l.script));
}

abbrev pub decreases-loop-first : goal.decreases-loop-first
decreases-loop-first g l = length l.script - l.done
