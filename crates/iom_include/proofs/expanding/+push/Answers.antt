use Rattle.std.proofs.Common.{◌≡◌, ℕ, List, length, refl, sym, inl, inr, ap, subst, ◌∙◌, arith}
use Rattle.std.specs.Prelude.{IfSome}
use Rattle.std.specs.List.{flat_map}
use Rattle.iom_reader.specs.Lines.{ended_lines}
use Rattle.iom_include.specs.Including.{name_at, said}
use Rattle.iom_include.specs.Faults.{AppendsFront, IfRefused, IsAmong, IsFaultOf, IsOver}
use Rattle.iom_include.specs.declared.fault.Reason.TheVariants as reason
use Rattle.iom_include.proofs.Lefts.{all_said, if_both_done, known_more, text_stands}
use Rattle.iom_include.proofs.Refusals.{any_fault, end_less, front_more, front_none, front_text, front_whole, handed_on, lacking_here, line_of_end, refused_below, refused_here, whole_text}
use Rattle.iom_include.proofs.expanding.+push.Goals as goal

pub push_lines-returns-clause-said : goal.push_lines-returns-clause-said
push_lines-returns-clause-said g t c =
    all_said _ c.args.depth c.args.name.now c.args.out.now.text.items c.loop-first.out.text.items c.loop-first.rest.now _ c.in_default.ensures.none
    c.loop-first.invariant.said

pub push_lines-returns-in_err-push_line-clause-fault : goal.push_lines-returns-in_err-push_line-clause-fault
push_lines-returns-in_err-push_line-clause-fault g t c =
    let texts = c.args.source.now.texts.now in
    handed_on
    (λ it. (line : List ℕ) × IsAmong line (ended_lines c.args.text.now) × IsFaultOf (g.T.Texts.gives texts) (g.T.Texts.lacks texts) c.args.depth c.args.name.now line
    (IsOver (length c.push_line.new.out.text.items) c.push_line.new.out.lines) it)
    c.from_residual.result c.in_err-push_line.field-0.0 c.from_residual.ensures.1 (
      c.in-Some.first.now,
      line_of_end c.args.text.now c.loop-first.rest.now c.in-Some.first.now c.in-Some.others.now c.loop-first.invariant.end
          c.in-Some.ensures.ended,
      c.in_err-push_line.ensures.fault,
    )

pub push_text-returns-in_default-clause-fault : goal.push_text-returns-in_default-clause-fault
push_text-returns-in_default-clause-fault g t c line is =
    let texts = c.args.source.now.texts.now in
    refused_here (g.T.Texts.gives texts) (g.T.Texts.lacks texts) c.args.depth c.args.at.name.now line _
    (IsOver (length c.args.out.now.text.items) c.args.out.now.lines) reason.Unreadable c.refused.result c.refused.ensures
    (inl (record { file = c.args.file.now; includes = sym is; other = c.in_default.ensures.cases.0; shown = refl }))

pub push_text-returns-then-depth-eq0-clause-fault : goal.push_text-returns-then-depth-eq0-clause-fault
push_text-returns-then-depth-eq0-clause-fault g t c line is =
    let texts = c.args.source.now.texts.now in
    let named : c.as_str.result.now ≡ name_at c.args.at.name.now c.args.file.now =
    c.as_str.ensures ∙ c.in_ok-name.ensures ∙ ap (name_at c.args.at.name.now) c.in-Ok.ensures.cases.0 in
    refused_here (g.T.Texts.gives texts) (g.T.Texts.lacks texts) c.args.depth c.args.at.name.now line c.as_str.result.now
    (IsOver (length c.args.out.now.text.items) c.args.out.now.lines) reason.TooDeep c.refused-then-depth-eq0.result c.refused-then-depth-eq0.ensures
    (record { file = c.args.file.now; includes = sym is; named = named; why = omega arith })

pub push_text-returns-in_err-text-clause-fault : goal.push_text-returns-in_err-text-clause-fault
push_text-returns-in_err-text-clause-fault g t c line is =
    let texts = c.args.source.now.texts.now in
    let named : c.as_str-2.result.now ≡ name_at c.args.at.name.now c.args.file.now =
    c.as_str-2.ensures ∙ c.in_ok-name.ensures ∙ ap (name_at c.args.at.name.now) c.in-Ok.ensures.cases.0 in
    handed_on
    (IsFaultOf (g.T.Texts.gives texts) (g.T.Texts.lacks texts) c.args.depth c.args.at.name.now line (IsOver (length c.args.out.now.text.items)
    c.args.out.now.lines))
    c.from_residual-in_err-text.result c.in_err-text.field-0.0 c.from_residual-in_err-text.ensures.1
    (lacking_here (g.T.Texts.gives texts) (g.T.Texts.lacks texts) c.args.depth c.args.at.name.now line c.args.file.now
    (IsOver (length c.args.out.now.text.items) c.args.out.now.lines) c.in_err-text.field-0.0 is (rw named at c.in_err-text.ensures.lacking))

pub push_text-returns-in_err-push_lines-clause-fault : goal.push_text-returns-in_err-push_lines-clause-fault
push_text-returns-in_err-push_lines-clause-fault g t c line is =
    let texts = c.args.source.now.texts.now in
    let out = c.push_lines.new.out in
    let first : c.as_str-2.result.now ≡ name_at c.args.at.name.now c.args.file.now =
    c.as_str-2.ensures ∙ c.in_ok-name.ensures ∙ ap (name_at c.args.at.name.now) c.in-Ok.ensures.cases.0 in
    let last : c.as_str-3.result.now ≡ name_at c.args.at.name.now c.args.file.now =
    c.as_str-3.ensures ∙ c.in_ok-name.ensures ∙ ap (name_at c.args.at.name.now) c.in-Ok.ensures.cases.0 in
    let given = c.in_ok-text.ensures.given in
    let below = c.in_err-push_lines.ensures.fault in
    handed_on
    (IsFaultOf (g.T.Texts.gives texts) (g.T.Texts.lacks texts) c.args.depth c.args.at.name.now line (IsOver (length out.text.items) out.lines))
    c.from_residual-in_err-push_lines.result c.in_err-push_lines.field-0.0 c.from_residual-in_err-push_lines.ensures.1
    (refused_below (g.T.Texts.gives texts) (g.T.Texts.lacks texts) c.args.depth c.args.at.name.now line c.args.file.now given.0 below.0
    (IsOver (length out.text.items) out.lines) c.in_err-push_lines.field-0.0 (omega arith) is (rw first at given.1)
    (subst (IsAmong below.0) (ap ended_lines c.as_slice.ensures.value ∙ given.2) below.1) (rw last at below.2))

pub push_text-returns-then-is_too_long-clause-fault : goal.push_text-returns-then-is_too_long-clause-fault
push_text-returns-then-is_too_long-clause-fault g t c line is =
    let texts = c.args.source.now.texts.now in
    let out = c.push_plain.new.out in
    let named : c.as_str-then-is_too_long.result.now ≡ name_at c.args.at.name.now c.args.file.now =
    c.as_str-then-is_too_long.ensures ∙ c.in_ok-name.ensures ∙ ap (name_at c.args.at.name.now) c.in-Ok.ensures.cases.0 in
    refused_here (g.T.Texts.gives texts) (g.T.Texts.lacks texts) c.args.depth c.args.at.name.now line c.as_str-then-is_too_long.result.now
    (IsOver (length out.text.items) out.lines) reason.TooLong c.refused-then-is_too_long.result c.refused-then-is_too_long.ensures
    (record { file = c.args.file.now; includes = sym is; named = named; why = inr (c.if-is_too_long.ensures.yes refl) })

pub push_lines-loop-first-preserved : goal.push_lines-loop-first-preserved
push_lines-loop-first-preserved g t c = record {
  said = known_more (g.T.Texts.known c.args.source.now.texts.now) c.args.depth c.args.name.now c.args.out.now.text.items c.loop-first.out.text.items
      c.push_line.new.out.text.items c.in-Some.first.now (ended_lines c.args.text.now) (ended_lines c.loop-first.rest.now)
      (ended_lines c.in-Some.others.now) c.in_ok-push_line.ensures.said c.in-Some.ensures.ended c.loop-first.invariant.said;
  counted = omega (arith, c.loop-first.invariant.counted, c.in_ok-push_line.ensures.counted);
  end = end_less c.args.text.now c.loop-first.rest.now c.in-Some.first.now c.in-Some.others.now c.loop-first.invariant.end c.in-Some.ensures.ended;
  kept = c.in_ok-push_line.ensures.kept;
}

pub push_text-returns-in_default-clause-front : goal.push_text-returns-in_default-clause-front
push_text-returns-in_default-clause-front g t c line is own =
    front_none (g.T.Texts.known c.args.source.now.texts.now) c.args.depth c.args.at.name.now line c.args.out.now.text.items c.refused.result

pub push_text-returns-then-depth-eq0-clause-front : goal.push_text-returns-then-depth-eq0-clause-front
push_text-returns-then-depth-eq0-clause-front g t c line is own =
    front_none (g.T.Texts.known c.args.source.now.texts.now) c.args.depth c.args.at.name.now line c.args.out.now.text.items
    c.refused-then-depth-eq0.result

pub push_text-returns-in_err-text-clause-front : goal.push_text-returns-in_err-text-clause-front
push_text-returns-in_err-text-clause-front g t c line is own =
    let known = g.T.Texts.known c.args.source.now.texts.now in
    let out = c.args.out.now.text.items in
    any_fault (λ it. IfRefused it (IfSome known (λ texts. AppendsFront out out (said texts c.args.depth c.args.at.name.now line))))
    c.from_residual-in_err-text.result (front_none known c.args.depth c.args.at.name.now line out)

pub push_text-returns-in_err-push_lines-clause-front : goal.push_text-returns-in_err-push_lines-clause-front
push_text-returns-in_err-push_lines-clause-front g t c line is own =
    let known = g.T.Texts.known c.args.source.now.texts.now in
    let old = c.args.out.now.text.items in
    let new = c.push_lines.new.out.text.items in
    let first : c.as_str-2.result.now ≡ name_at c.args.at.name.now c.args.file.now =
    c.as_str-2.ensures ∙ c.in_ok-name.ensures ∙ ap (name_at c.args.at.name.now) c.in-Ok.ensures.cases.0 in
    let last : c.as_str-3.result.now ≡ name_at c.args.at.name.now c.args.file.now =
    c.as_str-3.ensures ∙ c.in_ok-name.ensures ∙ ap (name_at c.args.at.name.now) c.in-Ok.ensures.cases.0 in
    handed_on (λ it. IfRefused it (IfSome known (λ texts. AppendsFront old new (said texts c.args.depth c.args.at.name.now line))))
    c.from_residual-in_err-push_lines.result c.in_err-push_lines.field-0.0 c.from_residual-in_err-push_lines.ensures.1
    (front_text known c.args.depth c.args.at.name.now line c.as_str-3.result.now c.as_slice.result.now old new c.in_err-push_lines.field-0.0
    (whole_text known c.args.depth c.args.at.name.now line c.args.file.now c.as_str-2.result.now c.as_str-3.result.now c.in_ok-text.text.items
    c.as_slice.result.now (omega arith) is first last c.as_slice.ensures.value c.in_ok-text.ensures.known) c.in_err-push_lines.ensures.front)

pub push_text-returns-then-is_too_long-clause-front : goal.push_text-returns-then-is_too_long-clause-front
push_text-returns-then-is_too_long-clause-front g t c line is own =
    let known = g.T.Texts.known c.args.source.now.texts.now in
    let first : c.as_str-2.result.now ≡ name_at c.args.at.name.now c.args.file.now =
    c.as_str-2.ensures ∙ c.in_ok-name.ensures ∙ ap (name_at c.args.at.name.now) c.in-Ok.ensures.cases.0 in
    let last : c.as_str-3.result.now ≡ name_at c.args.at.name.now c.args.file.now =
    c.as_str-3.ensures ∙ c.in_ok-name.ensures ∙ ap (name_at c.args.at.name.now) c.in-Ok.ensures.cases.0 in
    front_whole known c.args.depth c.args.at.name.now line c.as_str-3.result.now c.as_slice.result.now c.args.comment.now c.args.out.now.text.items
    c.push_lines.new.out.text.items c.push_plain.new.out.text.items c.refused-then-is_too_long.result own
    (whole_text known c.args.depth c.args.at.name.now line c.args.file.now c.as_str-2.result.now c.as_str-3.result.now c.in_ok-text.text.items
    c.as_slice.result.now (omega arith) is first last c.as_slice.ensures.value c.in_ok-text.ensures.known) c.in_ok-push_lines.ensures.said
    c.in_ok-push_plain.ensures.said

pub push_lines-returns-in_err-push_line-clause-front : goal.push_lines-returns-in_err-push_line-clause-front
push_lines-returns-in_err-push_line-clause-front g t c =
    let known = g.T.Texts.known c.args.source.now.texts.now in
    let old = c.args.out.now.text.items in
    let new = c.push_line.new.out.text.items in
    handed_on
    (λ it. IfRefused it (IfSome known (λ texts. AppendsFront old new (flat_map (said texts c.args.depth c.args.name.now) (ended_lines c.args.text.now)))))
    c.from_residual.result c.in_err-push_line.field-0.0 c.from_residual.ensures.1
    (front_more known c.args.depth c.args.name.now old c.loop-first.out.text.items new c.in-Some.first.now (ended_lines c.args.text.now)
    (ended_lines c.loop-first.rest.now) (ended_lines c.in-Some.others.now) c.in_err-push_line.field-0.0 c.loop-first.invariant.said
    c.in-Some.ensures.ended c.in_err-push_line.ensures.front)

pub push_line-returns-in-Some-clause-said : goal.push_line-returns-in-Some-clause-said
push_line-returns-in-Some-clause-said g t c =
    if_both_done c.push_text.result c.push_text.ensures.deep c.push_text.ensures.said
    (text_stands (g.T.Texts.known c.args.source.now.texts.now) c.args.depth c.args.at.name.now c.args.line.now c.in-Some.file.now
    c.args.out.now.text.items c.push_text.new.out.text.items c.comment_of.result.now c.in-Some.ensures c.comment_of.ensures)
