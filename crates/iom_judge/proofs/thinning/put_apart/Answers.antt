use Rattle.std.proofs.Common.{◌++◌, Bool, List, [], ◌∷◌, subst, sym}
use Rattle.std.specs.Bool.{OnFalse}
use Rattle.iom_judge.specs.Candidates.{AreApart, CandidateView}
use Rattle.iom_judge.specs.Covering.{IsCoveredIn, IsThinned, NoneCovers}
use Rattle.iom_judge.proofs.Apart.{apart_push, left_out, none_left, put_in_place}
use Rattle.iom_judge.proofs.thinning.put_apart.Goals as goal

pub returns-then-branch-clause-thinned : goal.returns-then-branch-clause-thinned
returns-then-branch-clause-thinned c =
    left_out c.args.all.now.items c.args.new (subst (λ (all : List CandidateView). IsCoveredIn all c.args.new) c.deref.ensures.value (c.in_ok-is_covered.ensures.is c.if-branch.true))

pub returns-clause-apart : goal.returns-clause-apart
returns-clause-apart c =
    let left : List CandidateView = c.take_out_covered.new.all.items in
    let none : NoneCovers c.args.all.now.items c.args.new = subst (λ (all : List CandidateView). NoneCovers all c.args.new) c.deref.ensures.value (subst (λ (b : Bool). OnFalse b (NoneCovers c.deref.result.now c.args.new)) c.if-branch.false c.in_ok-is_covered.ensures.none) in
    subst AreApart (sym c.in_ok-push.ensures.items)
    (apart_push left c.args.new c.in_ok-take_out_covered.ensures.apart (none_left c.args.all.now.items left c.args.new c.in_ok-take_out_covered.ensures.within none) c.in_ok-take_out_covered.ensures.none)

pub returns-clause-thinned : goal.returns-clause-thinned
returns-clause-thinned c =
    let left : List CandidateView = c.take_out_covered.new.all.items in
    subst (IsThinned (c.args.all.now.items ++ c.args.new ∷ [])) (sym c.in_ok-push.ensures.items)
    (put_in_place c.args.all.now.items left c.args.new c.in_ok-take_out_covered.ensures.within c.in_ok-take_out_covered.ensures.enough)
