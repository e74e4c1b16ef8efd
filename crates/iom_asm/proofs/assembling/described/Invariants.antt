use Rattle.std.proofs.Common.{◌≡◌, ◌+◌, ◌≤◌, length, None}
use Rattle.std.specs.Prelude.{IfSome}
use Rattle.iom_image.specs.Image.{IsImage}
use Rattle.iom_asm.specs.Assembly.{lines_of, after_lines}
use Rattle.iom_asm.specs.Drafts.{draft_seen, found_seen}
use Rattle.iom_asm.proofs.assembling.described.Given as goal

abbrev pub invariant-loop-rest : goal.invariant-loop-rest
invariant-loop-rest l = record {
  so_far : after_lines (l.line + 1) (found_seen l.draft) (lines_of l.rest) ≡ after_lines 1 None (lines_of l.text);
  few : l.line + length l.rest ≤ length l.text;
  good : IfSome l.draft (λ draft. IsImage (draft_seen draft).image);
}

abbrev pub decreases-loop-rest : goal.decreases-loop-rest
decreases-loop-rest l = length l.rest
