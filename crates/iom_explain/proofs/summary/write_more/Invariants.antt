use Rattle.std.proofs.Common.{◌≡◌, ◌++◌, ℕ, List, false, drop}
use Rattle.std.specs.List.{flat_map}
use Rattle.std.specs.Io.KnownBytes.{Appends}
use Rattle.iom_explain.specs.Explaining.{more_text}
use Rattle.iom_explain.proofs.summary.write_more.Given as goal

-- what was written and what remains are all
abbrev pub invariant-loop-number : goal.invariant-loop-number
invariant-loop-number g l = record {
  can : l.writer.failed ≡ false;
  same_writer : l.writer.inner.ghost_name ≡ l.initial.writer.inner.ghost_name;
  wrote : (said : List ℕ) × Appends (g.W.Write.contents l.initial.writer.inner.now) (g.W.Write.contents l.writer.inner.now) said
      × (said ++ flat_map (more_text l.marks) (drop l.number-index l.numbers) ≡ flat_map (more_text l.marks) l.numbers);
}
