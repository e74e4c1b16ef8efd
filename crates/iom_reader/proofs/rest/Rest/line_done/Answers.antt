use Rattle.std.proofs.Common.{◌≡◌, ◌++◌, ◌∙◌, inl, inr, sym, ap}
use Rattle.std.proofs.lemmas.Result.{err_from_is_err_and}
use Rattle.iom_reader.specs.Lines.{open_line}
use Rattle.iom_reader.specs.declared.fault.RunFault.TheVariants as fault
use Rattle.iom_reader.proofs.Splits.{line-kept}
use Rattle.iom_reader.proofs.Feeding.{unbegun, fed_as, kept_grows, line_answered, line_ends, line_fails, none_kept}
use Rattle.iom_reader.proofs.rest.Rest.line_done.Goals as goal

pub returns-then-is_empty-clause-fed : goal.returns-then-is_empty-clause-fed
returns-then-is_empty-clause-fed g c start text h short =
    let nothing = none_kept c.args.self.now.line.items c.if-is_empty.ensures in
    let begun = unbegun c.args.self.now.line.items (open_line text) h.keeps nothing.0 in
    line_answered g.A.Answerer.answering c.requires.lawful start _ _ c.args.self.now.line.items c.args.part.now c.args.self.now.line.items c.args.self.now.lines text
    c.args.part.now c.answer.result h c.requires.one short c.requires.few (inl (ap (λ l. l ++ c.args.part.now) (sym begun)))
    c.answer.ensures.next c.answer.ensures.fault nothing.1

pub returns-in_err-answer_kept-clause-fed : goal.returns-in_err-answer_kept-clause-fed
returns-in_err-answer_kept-clause-fed g c start text h short =
    let grown = kept_grows c.args.self.now.line.items (open_line text) c.args.part.now c.keep.new.self.line.items h.keeps c.keep.ensures.line in
    let p = err_from_is_err_and c.from_residual.result c.from_residual.ensures.1 in
    rw (p.1, p.2, c.in_err-answer_kept.ensures.fault) (
    line_fails g.A.Answerer.answering c.requires.lawful start _ _ c.args.self.now.line.items c.keep.new.self.line.items c.args.self.now.lines text c.args.part.now fault.Write
    h c.requires.one short c.requires.few (inr grown)
    (c.in_err-answer_kept.ensures.next (line-kept _ text c.args.part.now grown c.requires.one)))

pub returns-clause-fed : goal.returns-clause-fed
returns-clause-fed g c start text h short =
    let grown = kept_grows c.args.self.now.line.items (open_line text) c.args.part.now c.keep.new.self.line.items h.keeps c.keep.ensures.line in
    fed_as g.A.Answerer.answering _ _ _ _ _ _ _ _ c.clear.ensures c.keep.ensures.lines
    (line_ends g.A.Answerer.answering c.requires.lawful start _ _ c.args.self.now.line.items c.keep.new.self.line.items c.args.self.now.lines text c.args.part.now
    h c.requires.one short c.requires.few (inr grown)
    (c.in_ok-answer_kept.ensures.next (line-kept _ text c.args.part.now grown c.requires.one)))
