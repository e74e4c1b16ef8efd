-- What a trial drives.
use Rattle.std.specs.Prelude.{ℕ, Bool, false, List, []}
use Rattle.iom_check.specs.Scores.{score_of}
use Rattle.iom_check.specs.Scoring.{Score}
use Rattle.iom_debug.specs.Marks.{no_marks}
use Rattle.iom_debug.specs.Placed.{placed}
use Rattle.iom_debug.specs.Places.{own}
use Rattle.iom_judge.specs.Candidates.{CandidateView}
use Rattle.iom_traces.specs.Trials.{Judged, Tried}
use Rattle.iom_traces.specs.declared.judging.Judging.{Judging}
use Rattle.iom_traces.specs.declared.trial.Trial.{Trial}

abbrev pub judged_by : Judging → Judged
judged_by j = record { candidates = j.judge; score = score_of j.scoring; is_over = j.is_over; is_lost = j.is_lost }

abbrev pub tried_by : Trial → Tried
tried_by t = record {
  judged = judged_by t.judging;
  hides = t.judging.hides;
  names = t.names;
  marks = t.marks;
  number = t.number;
  place = placed t.place;
}

-- of no line yet
abbrev pub begun : List CandidateView → Bool → Score → Tried
begun candidates hides score = record {
  judged = record { candidates = candidates; score = score; is_over = false; is_lost = false };
  hides = hides;
  names = [];
  marks = no_marks;
  number = 0;
  place = own 0;
}
