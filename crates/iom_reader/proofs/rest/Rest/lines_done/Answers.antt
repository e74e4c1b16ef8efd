use Rattle.std.proofs.Common.{◌+◌, ◌-◌, ◌<◌, ◌^◌, ◌++◌, [], ◌∷◌, length, take, drop, refl, sym, ◌∙◌, ap, append-nil}
use Rattle.std.proofs.lemmas.List.{take_rest, take-append-drop}
use Rattle.std.proofs.lemmas.Result.{err_from_is_err_and}
use Rattle.iom_reader.proofs.Splits.{cut_found, cut_some, cut_room, none_at, Cut}
use Rattle.iom_reader.proofs.Feeding.{too_many, all_lines, ends_within, fault_of_line, more_done}
use Rattle.iom_reader.proofs.rest.Rest.lines_done.Goals as goal

pub returns-then-self-ge-MOST_LINES-clause-fed : goal.returns-then-self-ge-MOST_LINES-clause-fed
returns-then-self-ge-MOST_LINES-clause-fed g c start text h short =
    let part = c.args.part.now in
    let from = c.loop-at.from in
    let cut : Cut part from c.in-Some.at = cut_found part from c.in-Some.at c.loop-at.invariant.inside c.in-Some.ensures in
    let fed = c.loop-at.invariant.fed start text h short in
    ends_within g.A.Answerer.answering _ _ _ _ part (take from part) (drop from part) [] refl
    (sym (take-append-drop from part) ∙ ap (λ l. take from part ++ l) (sym (append-nil (drop from part))))
    (too_many g.A.Answerer.answering _ _ _ _ _ _ (drop from part) fed (cut_some part from c.in-Some.at cut) (all_lines g.A.Answerer.answering _ _ _ _ _ _ fed c.if-self-ge-MOST_LINES.true))

pub line_done-requires-clause-one : goal.line_done-requires-clause-one
line_done-requires-clause-one g c =
    let cut : Cut c.args.part.now c.loop-at.from c.in-Some.at =
    cut_found c.args.part.now c.loop-at.from c.in-Some.at c.loop-at.invariant.inside c.in-Some.ensures in
    cut.none

pub returns-in_err-line_done-clause-fed : goal.returns-in_err-line_done-clause-fed
returns-in_err-line_done-clause-fed g c start text h short =
    let part = c.args.part.now in
    let from = c.loop-at.from in
    let cut : Cut part from c.in-Some.at = cut_found part from c.in-Some.at c.loop-at.invariant.inside c.in-Some.ensures in
    let fed = c.loop-at.invariant.fed start text h short in
    let room : length (text ++ take from part) + length (take (from + c.in-Some.at - from) (drop from part)) < 2 ^ 26 = cut_room text part from c.in-Some.at cut short in
    let p = err_from_is_err_and c.from_residual.result c.from_residual.ensures.1 in
    rw (p.1, p.2) (
    fault_of_line g.A.Answerer.answering _ _ c.line_done.new.self.line.items c.line_done.new.self.line.items c.line_done.new.self.lines c.line_done.new.self.lines
    (length ((text ++ take from part) ++ (take (from + c.in-Some.at - from) (drop from part) ++ 10 ∷ []))) text part (take from part) (take (from + c.in-Some.at - from) (drop from part) ++ 10 ∷ []) _ c.in_err-line_done.field-0.0 cut.whole
    (c.in_err-line_done.ensures.fed start (text ++ take from part) fed room))

pub loop-at-preserved : goal.loop-at-preserved
loop-at-preserved g c =
    let part = c.args.part.now in
    let from = c.loop-at.from in
    let cut : Cut part from c.in-Some.at = cut_found part from c.in-Some.at c.loop-at.invariant.inside c.in-Some.ensures in
    record {
      inside = cut.inside;
      fed = λ start text h short.
          let fed = c.loop-at.invariant.fed start text h short in
          let room : length (text ++ take from part) + length (take (from + c.in-Some.at - from) (drop from part)) < 2 ^ 26 = cut_room text part from c.in-Some.at cut short in
          more_done g.A.Answerer.answering _ _ _ _ text (take from part) (take (from + c.in-Some.at - from) (drop from part) ++ 10 ∷ []) _ cut.front
          (c.in_ok-line_done.ensures.fed start (text ++ take from part) fed room);
      bytes = c.in_ok-line_done.ensures.bytes ∙ c.loop-at.invariant.bytes;
      can = c.in_ok-line_done.ensures.told;
      same_writer = c.in_ok-line_done.ensures.same_writer ∙ c.loop-at.invariant.same_writer;
      names = c.in_ok-line_done.ensures.names ∙ c.loop-at.invariant.names;
    }

pub returns-clause-fed : goal.returns-clause-fed
returns-clause-fed g c start text h short = record {
  fed = c.loop-at.invariant.fed start text h short;
  none = none_at (drop c.loop-at.from c.args.part.now) (rw take_rest at (sym c.in_default.ensures));
}
