use Rattle.std.proofs.Common.{◌∙◌, sym}
use Rattle.iom_judge.proofs.Judged.{nothing_if}
use Rattle.iom_judge.proofs.Parts.{none_read}
use Rattle.iom_judge.proofs.putting.put_in.Goals as goal

pub returns-then-is_empty-clause-reads : goal.returns-then-is_empty-clause-reads
returns-then-is_empty-clause-reads c =
    none_read c.args.platform.now c.args.step.now c.args.held.now c.args.ways.now.reads.items
    (nothing_if c.args.ways.now.reads.items _ c.args.ways.now.reads.ok.0 (sym c.is_empty.ensures ∙ c.if-is_empty.true)) c.requires
