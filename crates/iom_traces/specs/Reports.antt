-- A report on the page of a score.
use Rattle.std.specs.Prelude.{◌≡◌}
use Rattle.iom_check.specs.Scores.{score_of}
use Rattle.iom_check.specs.Scoring.{Told}
use Rattle.iom_check.specs.declared.scoring.Scoring.{Scoring}

pub record IsPut (told : Told) (after : Scoring) : Type 0 where
  pub text : after.page.items ≡ told.said
  pub score : score_of after ≡ told.after
