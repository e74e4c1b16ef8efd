use Rattle.std.proofs.Common.{◌∙◌, List, subst, sym, inl, inr}
use Rattle.iom_choices.specs.Traces.{onward}
use Rattle.iom_judge.specs.Candidates.{AreCandidates, CandidateView}
use Rattle.iom_judge.specs.declared.seen.Seen.{Seen}
use Rattle.iom_judge.proofs.Judged.{any_allowed, any_if, none_allowed, too_many}
use Rattle.iom_judge.proofs.judge.Judge.follow_all.Goals as goal

pub returns-then-not-is_empty-clause-judged : goal.returns-then-not-is_empty-clause-judged
returns-then-not-is_empty-clause-judged c = λ start traces are.
    let next : List CandidateView = c.in_ok-next.next.items in
    let on = c.in_ok-next.ensures.follows start traces (subst (AreCandidates start traces) (sym (c.deref.ensures.value ∙ c.self.view_is)) are) in
    (any_allowed start _ next on (any_if next _ c.in_ok-next.next.ok.0 (sym c.is_empty.ensures ∙ c.if-not-is_empty.true)), on)

pub returns-clause-judged : goal.returns-clause-judged
returns-clause-judged c = λ start traces are.
    let none : List CandidateView = c.in_ok-next.next.items in
    let next : List CandidateView = c.in_ok-next-2.next.items in
    let nothing = c.in_ok-next.ensures.follows start traces (subst (AreCandidates start traces) (sym (c.deref.ensures.value ∙ c.self.view_is)) are) in
    let on = c.in_ok-next-2.ensures.follows start traces (subst (AreCandidates start traces) (sym (c.deref-2.ensures.value ∙ c.self.view_is)) are) in (
      none_allowed start _ none nothing _ c.in_ok-next.next.ok.0 (sym c.is_empty.ensures ∙ c.if-not-is_empty.false),
      subst (λ (seen : Seen). AreCandidates start (onward (c.args.step.now, seen) traces) next) c.nothing.ensures on,
    )

pub returns-then-are_too_many-clause-judged : goal.returns-then-are_too_many-clause-judged
returns-then-are_too_many-clause-judged c = λ start traces are.
    let next : List CandidateView = c.in_ok-next.next.items in
    let on = c.in_ok-next.ensures.follows start traces (subst (AreCandidates start traces) (sym (c.deref.ensures.value ∙ c.self.view_is)) are) in
    (c.self.view_is, inl (too_many start _ next _ on c.in_ok-next.ensures.apart (c.are_too_many.ensures.0 c.if-are_too_many.true) (c.len.ensures ∙ c.in_ok-next.next.ok.0)))

pub returns-then-are_too_many-2-clause-judged : goal.returns-then-are_too_many-2-clause-judged
returns-then-are_too_many-2-clause-judged c = λ start traces are.
    let next : List CandidateView = c.in_ok-next-2.next.items in
    let on = c.in_ok-next-2.ensures.follows start traces (subst (AreCandidates start traces) (sym (c.deref-2.ensures.value ∙ c.self.view_is)) are) in
    let all = subst (λ (seen : Seen). AreCandidates start (onward (c.args.step.now, seen) traces) next) c.nothing.ensures on in
    (c.self.view_is, inr (too_many start _ next _ all c.in_ok-next-2.ensures.apart (c.are_too_many-2.ensures.0 c.if-are_too_many-2.true) (c.len-2.ensures ∙ c.in_ok-next-2.next.ok.0)))
