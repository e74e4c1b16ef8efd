-- What a check drives, where its last line stands, and its score.
use Rattle.iom_debug.specs.Desks.{desk_of}
use Rattle.iom_check.specs.Checking.{Checked}
use Rattle.iom_debug.specs.Placed.{placed}
use Rattle.iom_check.specs.Scores.{score_of}
use Rattle.iom_check.specs.declared.checking.Checking.{Checking}

abbrev pub checked_by : Checking → Checked
checked_by c = record {
  desk = desk_of c.debugger;
  number = c.number;
  place = placed c.place;
  score = score_of c.scoring;
}
