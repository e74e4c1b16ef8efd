use Rattle.std.proofs.Common.{sym, ◌∙◌}
use Rattle.std.proofs.lemmas.List.{take_rest}
use Rattle.iom_asm.specs.Assembly.{lines_of}
use Rattle.iom_asm.proofs.Cuts.{cut_at, cut_none}
use Rattle.iom_asm.proofs.assembling.cut.Goals as goal

pub returns-in-Some-clause-lines : goal.returns-in-Some-clause-lines
returns-in-Some-clause-lines c = rw take_rest (cut_at c.args.text.now c.in-Some.at (sym c.line_end.ensures ∙ c.in-Some.is))

pub returns-in-None-clause-lines : goal.returns-in-None-clause-lines
unfolding lines_of
returns-in-None-clause-lines c = cut_none c.args.text.now c.requires (sym c.line_end.ensures ∙ c.in-None.is)
