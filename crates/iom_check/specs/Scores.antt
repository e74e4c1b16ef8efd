-- A score, of what the code keeps.
use Rattle.std.specs.Prelude.{ℕ, false, List, [], Option}
use Rattle.std.specs.Option.{option_map}
use Rattle.iom_check.specs.Scoring.{Score}
use Rattle.iom_check.specs.declared.rules.Rules.{Rules}
use Rattle.iom_check.specs.declared.scoring.Scoring.{Scoring}

abbrev pub score_of : Scoring → Score
score_of s = record {
  rules = s.rules;
  name = option_map (λ name. name.now) s.name;
  points = s.points;
  tally = s.tally;
  has_wish = s.has_wish;
  pages = s.pages.items;
}

-- of no line yet
abbrev pub begun : Rules → Option (List ℕ) → ℕ → Score
begun rules name points = record { rules = rules; name = name; points = points; tally = record { passed = 0; failed = 0 }; has_wish = false; pages = [] }
