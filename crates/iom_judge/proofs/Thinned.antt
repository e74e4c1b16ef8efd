-- A list of candidates that is thinned is as good.
use Rattle.std.proofs.Common.{◌∙◌, ◌++◌, List, [], map, refl, ap, subst, inl, inr}
use Rattle.std.specs.Prelude.{filter}
use Rattle.iom_choices.specs.Marked.{AreMarkedAlike, IsMoreMarked, Marked, telling}
use Rattle.iom_choices.specs.Systems.{IsAmong}
use Rattle.iom_choices.proofs.Deciding.{alike_marked}
use Rattle.iom_choices.proofs.Lists.{IsPassed, among-left, among-right, among_either, each_of, passed}
use Rattle.iom_choices.proofs.Traces.{IsImage, among_mapped, image_of}
use Rattle.iom_choices.proofs.Trees.{among_filter}
use Rattle.iom_core.specs.Rows.{bare}
use Rattle.iom_core.specs.State.{State}
use Rattle.iom_core.specs.declared.step.Step.{Step}
use Rattle.iom_every.specs.Every.{iommu, is_listed, queue_commands}
use Rattle.iom_every.specs.Making.{translations}
use Rattle.iom_every.specs.Trees.{every_tree}
use Rattle.iom_every.specs.declared.entry.Entry.{Entry}
use Rattle.iom_judge.specs.Including.{IsHeldIn}
use Rattle.iom_held.specs.Kept.{HasNoneTwice, entries_in, entry_of, is_spared}
use Rattle.iom_judge.proofs.Each.{each_at}
use Rattle.iom_held.proofs.Lists.{IsFrom, among_of, from_among}
use Rattle.iom_judge.specs.Candidates.{AreCandidates, CandidateView, IsCovered, marked_of}
use Rattle.iom_judge.specs.Covering.{IsCoveredIn, IsThinned}
use Rattle.iom_judge.specs.Seen.{fits_seen}
use Rattle.iom_judge.specs.declared.seen.Seen.{Seen}

pub covered_self : (one : CandidateView) → IsCovered one one
covered_self one = record { platform = refl; holds = λ kept h. record { own = kept; among = h; good = record { same = refl; spared = λ s. s } } }

pub covered_then : (a b c : CandidateView) → IsCovered a b → IsCovered b c → IsCovered a c
covered_then a b c h k = record {
  platform = h.platform ∙ k.platform;
  holds = λ kept among.
      let x : IsHeldIn b.held kept = h.holds kept among in
      let y : IsHeldIn c.held x.own = k.holds x.own x.among in
      record { own = y.own; among = y.among; good = record { same = y.good.same ∙ x.good.same; spared = λ s. y.good.spared (x.good.spared s) } };
}

covered_more : (one other : CandidateView) → IsCovered one other → IsMoreMarked (marked_of one) (marked_of other)
covered_more one other h = record {
  state = ap bare h.platform;
  holds = λ entry among.
      let f : IsFrom entry_of one.held entry = from_among entry_of one.held entry among in
      let x : IsHeldIn other.held f.thing = h.holds f.thing f.among in
      subst (IsAmong (entries_in other.held)) (x.good.same ∙ f.is) (among_of entry_of other.held x.own x.among);
  outlasts = λ entry among.
      let f : IsFrom entry_of (filter is_spared one.held) entry = from_among entry_of (filter is_spared one.held) entry among in
      let p : IsPassed is_spared one.held f.thing = passed is_spared one.held f.thing f.among in
      let x : IsHeldIn other.held f.thing = h.holds f.thing p.among in
      subst (IsAmong (entries_in (filter is_spared other.held))) (x.good.same ∙ f.is)
      (among_of entry_of (filter is_spared other.held) x.own (among_filter is_spared other.held x.own x.among (x.good.spared p.passes)));
}

thinned_alike : (all few : List CandidateView) → IsThinned all few → AreMarkedAlike (map marked_of few) (map marked_of all)
thinned_alike all few t = record {
  within = λ one h.
      let m : IsImage marked_of few one = image_of marked_of few one h in
      record {
        more = marked_of m.source;
        among = among_mapped marked_of all m.source (t.within m.source m.among);
        is = subst (λ (one : Marked State Entry). IsMoreMarked one (marked_of m.source)) m.is (covered_more m.source m.source (covered_self m.source));
      };
  enough = λ one h.
      let m : IsImage marked_of all one = image_of marked_of all one h in
      let c : IsCoveredIn few m.source = t.enough m.source m.among in
      record {
        more = marked_of c.other;
        among = among_mapped marked_of few c.other c.among;
        is = subst (λ (one : Marked State Entry). IsMoreMarked one (marked_of c.other)) m.is (covered_more m.source c.other c.is);
      };
}

pub thins : (start : State) (traces : List (List (Step × Seen))) (all few : List CandidateView) → AreCandidates start traces all → IsThinned all few → AreCandidates start traces few
thins start traces all few are t = record {
  are = alike_marked (telling (iommu (is_listed []))) queue_commands translations every_tree fits_seen (bare start) traces (map marked_of all) (map marked_of few) are.are (thinned_alike all few t);
  once = each_of (λ (candidate : CandidateView). HasNoneTwice (entries_in candidate.held)) few
      (λ one h. each_at (λ (candidate : CandidateView). HasNoneTwice (entries_in candidate.held)) all one are.once (t.within one h));
}

pub thinned_self : (all : List CandidateView) → IsThinned all all
thinned_self all = record { within = λ one h. h; enough = λ one h. record { other = one; among = h; is = covered_self one } }

pub thinned_then : (all some few : List CandidateView) → IsThinned all some → IsThinned some few → IsThinned all few
thinned_then all some few t u = record {
  within = λ one h. t.within one (u.within one h);
  enough = λ one h.
      let a : IsCoveredIn some one = t.enough one h in
      let b : IsCoveredIn few a.other = u.enough a.other a.among in
      record { other = b.other; among = b.among; is = covered_then one a.other b.other a.is b.is };
}

-- beside others
pub thinned_before : (all few others : List CandidateView) → IsThinned all few → IsThinned (all ++ others) (few ++ others)
thinned_before all few others t = record {
  within = λ one h. elim (among_either few others one h) [
    | inl here ↦ among-left all others one (t.within one here)
    | inr there ↦ among-right all others one there
  ];
  enough = λ one h. elim (among_either all others one h) [
    | inl here ↦ let c : IsCoveredIn few one = t.enough one here in record { other = c.other; among = among-left few others c.other c.among; is = c.is }
    | inr there ↦ record { other = one; among = among-right few others one there; is = covered_self one }
  ];
}

pub thinned_behind : (others all few : List CandidateView) → IsThinned all few → IsThinned (others ++ all) (others ++ few)
thinned_behind others all few t = record {
  within = λ one h. elim (among_either others few one h) [
    | inl here ↦ among-left others all one here
    | inr there ↦ among-right others all one (t.within one there)
  ];
  enough = λ one h. elim (among_either others all one h) [
    | inl here ↦ record { other = one; among = among-left others few one here; is = covered_self one }
    | inr there ↦ let c : IsCoveredIn few one = t.enough one there in record { other = c.other; among = among-right others few c.other c.among; is = c.is }
  ];
}
