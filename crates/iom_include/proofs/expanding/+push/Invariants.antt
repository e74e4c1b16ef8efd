use Rattle.std.proofs.Common.{◌≡◌, ◌≤◌, ◌+◌, ◌*◌, ◌++◌, length}
use Rattle.std.specs.Prelude.{IfSome}
use Rattle.std.specs.List.{flat_map}
use Rattle.iom_include.specs.Faults.{line_ends}
use Rattle.iom_include.specs.Including.{said}
use Rattle.iom_include.specs.Kept.{AreKept}
use Rattle.iom_reader.specs.Lines.{ended_lines}
use Rattle.iom_include.proofs.Refusals.{IsEndOf}
use Rattle.iom_include.proofs.expanding.+push.Given as goal

abbrev pub decreases-push_line : goal.decreases-push_line
decreases-push_line g l = 3 * l.depth + 1

abbrev pub decreases-push_lines : goal.decreases-push_lines
decreases-push_lines g l = 3 * l.depth + 2

abbrev pub decreases-push_text : goal.decreases-push_text
decreases-push_text g l = 3 * l.depth

-- what stands, and what stands for the rest, which is the end of the text
abbrev pub invariant-push_lines-loop-first : goal.invariant-push_lines-loop-first
invariant-push_lines-loop-first g l = record {
  said : IfSome (g.T.Texts.known l.source.texts.now) (λ texts. l.out.text.items ++ flat_map (said texts l.depth l.name) (ended_lines l.rest)
      ≡ l.initial.out.text.items ++ flat_map (said texts l.depth l.name) (ended_lines l.text));
  counted : l.out.lines + line_ends l.initial.out.text.items ≤ l.initial.out.lines + line_ends l.out.text.items;
  end : IsEndOf l.rest l.text;
  kept : AreKept (g.T.Texts.known l.source.texts.now) (g.T.Texts.gives l.source.texts.now) l.kept;
}

abbrev pub decreases-push_lines-loop-first : goal.decreases-push_lines-loop-first
decreases-push_lines-loop-first g l = length l.rest
