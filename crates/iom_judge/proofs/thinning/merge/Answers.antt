use Rattle.std.proofs.Common.{◌≡◌, ◌∙◌, ◌++◌, Bool, List, [], refl, ap, append-nil, arith, subst, sym}
use Rattle.std.proofs.lemmas.List.{nil_from_length}
use Rattle.std.specs.Bool.{OnFalse}
use Rattle.iom_judge.specs.Candidates.{CandidateView}
use Rattle.iom_judge.specs.Covering.{HasNew, IsThinned}
use Rattle.iom_judge.proofs.Apart.{covered_all, covered_more, merged_next, new_put, on_false}
use Rattle.iom_judge.proofs.Thinned.{thinned_self}
use Rattle.iom_judge.proofs.thinning.merge.Goals as goal

pub loop-new-init : goal.loop-new-init
loop-new-init c = record {
  apart = c.requires;
  thins = λ final thinned. thinned;
  there = refl;
  covered = covered_all c.args.all.now.items;
  new = λ any. absurd (cc);
}

pub loop-new-preserved : goal.loop-new-preserved
loop-new-preserved c =
    let same : c.put_apart.new.all.items ≡ c.loop-new.all.items =
    subst (λ (b : Bool). OnFalse b (c.put_apart.new.all.items ≡ c.loop-new.all.items)) c.if-branch.false c.in_ok-put_apart.ensures.there in
    record {
      apart = c.in_ok-put_apart.ensures.apart;
      thins = λ final thinned. c.loop-new.invariant.thins final
          (merged_next c.loop-new.all.items c.put_apart.new.all.items c.loop-new.news.items c.pop.new.self.items final c.in-Some.new c.in-Some.ensures.items c.in_ok-put_apart.ensures.thinned thinned);
      there = on_false c.loop-new.is_any (c.loop-new.all.items ≡ c.args.all.now.items) (c.put_apart.new.all.items ≡ c.args.all.now.items) (λ stood. same ∙ stood) c.loop-new.invariant.there;
      covered = covered_more c.args.all.now.items c.loop-new.all.items c.put_apart.new.all.items c.in-Some.new c.loop-new.invariant.covered c.in_ok-put_apart.ensures.thinned;
      new = λ any. subst (HasNew c.args.all.now.items) (sym same) (c.loop-new.invariant.new any);
    }

pub loop-new-preserved-then-branch : goal.loop-new-preserved-then-branch
loop-new-preserved-then-branch c = record {
  apart = c.in_ok-put_apart.ensures.apart;
  thins = λ final thinned. c.loop-new.invariant.thins final
      (merged_next c.loop-new.all.items c.put_apart.new.all.items c.loop-new.news.items c.pop.new.self.items final c.in-Some.new c.in-Some.ensures.items c.in_ok-put_apart.ensures.thinned thinned);
  there = tt;
  covered = covered_more c.args.all.now.items c.loop-new.all.items c.put_apart.new.all.items c.in-Some.new c.loop-new.invariant.covered c.in_ok-put_apart.ensures.thinned;
  new = λ any. new_put c.args.all.now.items c.loop-new.all.items c.put_apart.new.all.items c.in-Some.new c.loop-new.invariant.covered c.in_ok-put_apart.ensures.thinned
      (c.in_ok-put_apart.ensures.new c.if-branch.true);
}

pub returns-clause-thinned : goal.returns-clause-thinned
returns-clause-thinned c =
    let all : List CandidateView = c.loop-new.all.items in
    let none : c.loop-new.news.items ≡ [] = nil_from_length c.loop-new.news.items (omega (arith, c.in_default.ensures.cases.0, c.loop-new.news.ok.0)) in
    c.loop-new.invariant.thins all
    (subst (λ (list : List CandidateView). IsThinned list all) (sym (ap (λ (news : List CandidateView). all ++ news) none ∙ append-nil all)) (thinned_self all))
