use Rattle.std.proofs.Common.{◌∙◌, ◌+◌, inl, inr, ◌<◌, ap, sym, arith, length, Some, List}
use Rattle.std.specs.Prelude.{slice_get}
use Rattle.std.proofs.lemmas.Bool.{cases_lt}
use Rattle.std.proofs.lemmas.Option.{slice_get-get_or}
use Rattle.iom_tool.specs.declared.trace.TracedStep.{TracedStep}
use Rattle.iom_tool.specs.Ring.{kept_around}
use Rattle.iom_tool.proofs.Rings.{none_around, none_before, some_around, some_before}
use Rattle.iom_tool.proofs.trace.Trace.entry.Goals as goal

pub returns : goal.returns
returns c =
    let places = c.self.inside.places.items in
    let inside : c.args.i < length places = omega (arith, c.self.invariant.0, c.self.invariant.1) in
    sym (
    ap (λ (l : List TracedStep). slice_get l c.args.i) (sym c.self.view_is)
    ∙ ap (λ full. slice_get (kept_around full c.self.inside.spare places) c.args.i) c.if-self.false
    ∙ some_before c.self.inside.spare c.args.i places c.if-i-self.false
    ∙ slice_get-get_or places c.args.i c.index-2.result.now inside
    ∙ ap (λ (e : TracedStep). Some e) (sym c.index-2.ensures)
    )

pub returns-then-i : goal.returns-then-i
returns-then-i c =
    let places = c.self.inside.places.items in
    sym (
    ap (λ (l : List TracedStep). slice_get l c.args.i) (sym c.self.view_is)
    ∙ ap (λ full. slice_get (kept_around full c.self.inside.spare places) c.args.i) c.if-self.true
    ∙ none_around c.self.inside.spare c.args.i places c.self.invariant.0 c.self.invariant.1 c.if-i.true
    )

pub returns-then-self : goal.returns-then-self
returns-then-self c =
    let places = c.self.inside.places.items in
    let inside : c.wrapped.result < length places =
    elim (cases_lt (c.self.inside.spare + 1 + c.args.i) 33) as (λ _. c.wrapped.result < length places) [
      | inl less ↦ omega (arith, less, c.wrapped.ensures.below less, c.self.invariant.0)
      | inr past ↦ omega (arith, c.wrapped.ensures.above past, c.self.invariant.0, c.self.invariant.1, c.if-i.false)
    ] in
    sym (
    ap (λ (l : List TracedStep). slice_get l c.args.i) (sym c.self.view_is)
    ∙ ap (λ full. slice_get (kept_around full c.self.inside.spare places) c.args.i) c.if-self.true
    ∙ some_around c.self.inside.spare c.args.i c.wrapped.result places c.self.invariant.0 c.self.invariant.1 c.if-i.false
    c.wrapped.ensures.below c.wrapped.ensures.above
    ∙ slice_get-get_or places c.wrapped.result c.index.result.now inside
    ∙ ap (λ (e : TracedStep). Some e) (sym c.index.ensures)
    )

pub returns-then-i-self : goal.returns-then-i-self
returns-then-i-self c =
    let places = c.self.inside.places.items in
    sym (
    ap (λ (l : List TracedStep). slice_get l c.args.i) (sym c.self.view_is)
    ∙ ap (λ full. slice_get (kept_around full c.self.inside.spare places) c.args.i) c.if-self.false
    ∙ none_before c.self.inside.spare c.args.i places c.if-i-self.true
    )
