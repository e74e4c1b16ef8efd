use Rattle.std.proofs.Common.{◌≡◌, ◌++◌, List, IsTrue, vec_len}
use Rattle.std.specs.Bool.{OnFalse}
use Rattle.iom_judge.specs.Candidates.{AreApart, CandidateView}
use Rattle.iom_judge.specs.Covering.{HasNew, IsThinned}
use Rattle.iom_judge.proofs.Apart.{EachCovered}
use Rattle.iom_judge.proofs.thinning.merge.Given as goal

-- What thins those that are there, with those to come, thins all; if none was put in, all stand as they did, and else there is a new one.
abbrev pub invariant-loop-new : goal.invariant-loop-new
invariant-loop-new l = record {
  apart : AreApart l.all.items;
  thins : (final : List CandidateView) → IsThinned (l.all.items ++ l.news.items) final → IsThinned (l.fn.all.items ++ l.fn.news.items) final;
  there : OnFalse l.is_any (l.all.items ≡ l.fn.all.items);
  covered : EachCovered l.fn.all.items l.all.items;
  new : IsTrue l.is_any → HasNew l.fn.all.items l.all.items;
}

abbrev pub decreases-loop-new : goal.decreases-loop-new
decreases-loop-new l = vec_len l.news
