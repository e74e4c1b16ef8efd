use Rattle.std.proofs.Common.{◌∙◌, sym}
use Rattle.iom_walk.proofs.Noted.{listed, listed_within}
use Rattle.iom_walk.proofs.listing.walk_listed.Goals as goal

pub returns-then-covers-clause-path : goal.returns-then-covers-clause-path
returns-then-covers-clause-path g c =
    listed _ _ _ _ _ _ _ _ c.requires.empty c.levels-levels.ensures.value c.levels-levels.ensures.most (sym c.covers.ensures ∙ c.if-covers.true) c.walk_from.ensures.noted

pub returns-then-covers-clause-levels : goal.returns-then-covers-clause-levels
returns-then-covers-clause-levels g c =
    listed_within _ _ _ _ _ _ _ _ c.requires.empty c.levels-levels.ensures.value c.levels-levels.ensures.most c.walk_from.ensures.noted
