-- What the word `check` writes for the lines of a script, and counts.
use Rattle.std.specs.Prelude.{ℕ, ◌≡◌, ◌+◌, ◌++◌, ◌&&◌, ◌||◌, Bool, true, false, List, Option, Some, if◌then◌else◌}
use Rattle.std.specs.Io.KnownBytes.{Appends, Consumes, IsAtEnd}
use Rattle.iom_reader.specs.Answering.{Answering}
use Rattle.iom_reader.specs.Lines.{lines_of}
use Rattle.iom_reader.specs.Running.{IsWithinLimits}
use Rattle.iom_reader.specs.Speaking.{Speaking, Speaks, by_lines}
use Rattle.iom_debug.specs.Fences.{have_fence}
use Rattle.iom_debug.specs.Output.{debug_steps_of}
use Rattle.iom_debug.specs.Summary.{up_to_64_bits}
use Rattle.iom_debug.specs.Taking.{Desk}
use Rattle.iom_debug.specs.Telling.{IsAnswer, IsNamedBy, Leaves, slip_with}
use Rattle.iom_core.specs.declared.access.Request.{Request}
use Rattle.iom_debug.specs.Reasons.{LineAccountView}
use Rattle.iom_debug.specs.Settling.{AreOwedBy, beside_in, is_lost_in, unsettled_in}
use Rattle.iom_check.specs.Judging.{IsBesideTold, IsStaleTold, IsUnsettledTold, stale_request, told_request, unsettled_request}
use Rattle.iom_check.specs.Looking.{looked_by}
use Rattle.iom_check.specs.Owing.{AreReports, OwedReport, owed_if, requests_of}
use Rattle.iom_debug.specs.Marks.{place_of}
use Rattle.iom_debug.specs.Places.{PlaceView}
use Rattle.iom_check.specs.Reporting.{tally_told}
use Rattle.iom_check.specs.Scoring.{Score, Told, ended, judged, quiet, remarked, with_wish}
use Rattle.iom_check.specs.declared.rules.Tally.{Tally}

-- a desk, how many lines were read, where the last one stands, and the score
pub record Checked : Type 0 where
  pub desk : Desk
  pub number : ℕ
  pub place : PlaceView
  pub score : Score

-- where lines stand by now
abbrev pub places_by : Desk → Option (ℕ → PlaceView)
places_by desk = Some (place_of desk.marks)

-- a line's test point, and what would go unnoticed
abbrev pub line_told : Score → PlaceView → List ℕ → List ℕ → List ℕ → List ℕ → List ℕ → List ℕ → Bool → Option Request → Option Request → Told
line_told s place line answer slip tables elsewhere beside ignored stale unsettled =
    let first = judged s place line answer slip tables elsewhere stale unsettled in
    let second = remarked first.after place line answer beside ignored in
    record { said = first.said ++ second.said; after = with_wish second.after line }

-- by its answer, the names before the line, and what is told of its last access that was stale, of its last one that wasn't settled, and of its last
-- one that was and that may be led by another way; by whether a write of it was ignored; and by the request that the answer names as owed
abbrev pub told_at : Checked → PlaceView → List ℕ → List ℕ → List ℕ → List ℕ → List ℕ → LineAccountView → Option Request → Told
told_at before place line answer tables elsewhere beside reasons owed =
    line_told before.score place line answer (slip_with before.desk.names line) tables elsewhere beside reasons.has_ignored
    (stale_request before.score.rules.fails_if_stale reasons.stale)
    (told_request (unsettled_request before.score.rules.fails_if_unsettled (unsettled_in reasons.settling)) owed)

-- a line by itself is told, at its place
pub record LineSays (before : Checked) (line said : List ℕ) (after : Checked) : Type 0 where
  pub number : after.number ≡ up_to_64_bits (before.number + 1)
  pub placed : after.place ≡ place_of before.desk.marks after.number
  pub left : Leaves before.desk line after.number after.desk
  pub answer : List ℕ
  pub answered : IsAnswer before.desk line answer
  pub tables : List ℕ
  pub stale : IsStaleTold (places_by before.desk) before.score.rules.fails_if_stale after.desk.reasons.stale tables
  pub elsewhere : List ℕ
  pub unsettled : IsUnsettledTold (places_by before.desk) before.score.rules.fails_if_unsettled after.desk.reasons.last_invalidation
      (unsettled_in after.desk.reasons.settling) elsewhere
  pub beside : List ℕ
  pub other : IsBesideTold (places_by before.desk) before.score.rules.fails_if_unsettled (beside_in after.desk.reasons.settling) beside
  pub owed : Option Request
  pub named : IsNamedBy before.desk line answer owed
  pub text : said ≡ (told_at before after.place line answer tables elsewhere beside after.desk.reasons owed).said
  pub score : after.score ≡ (told_at before after.place line answer tables elsewhere beside after.desk.reasons owed).after

-- the places of the caches, behind a line
abbrev pub places_told : Checked → Told
places_told end = looked_by end.desk.state.machine end.place end.score

-- the same, where they are looked at
abbrev pub places_if : Bool → Checked → Told
places_if looks after = if looks then places_told after else quiet after.score

-- they are looked at behind a line of which a step carries out a fence, where the rules say so
abbrev pub looks_behind : Checked → List ℕ → Bool
looks_behind before line =
    before.score.rules.looks_at_fences && have_fence before.desk.state (debug_steps_of before.desk.names before.desk.state line)

-- `check` tells a line, and behind it the places of the caches, where they are looked at
pub record CheckSays (before : Checked) (line said : List ℕ) (after : Checked) : Type 0 where
  pub first : List ℕ
  pub mid : Checked
  pub alone : LineSays before line first mid
  pub text : said ≡ first ++ (places_if (looks_behind before line) mid).said
  pub left : after ≡ record mid { score = (places_if (looks_behind before line) mid).after }

-- Where a write fails, the line is carried out, and some front of what is told is written. The score may lack places only where they are
-- looked at.
pub record CheckBreaks (before : Checked) (line front : List ℕ) (after : Checked) : Type 0 where
  pub text : List ℕ
  pub rest : List ℕ
  pub score : Score
  pub whole : front ++ rest ≡ text
  pub said : CheckSays before line text (record after { score = score })
  pub same : looks_behind before line ≡ false → after.score ≡ score

-- lines are told one after the other
abbrev pub checking : Speaking
checking = record { State = Checked; says = CheckSays; breaks = CheckBreaks }

abbrev pub by_check : Answering
by_check = by_lines checking

-- what is told at the end of a script
abbrev pub closing : Told → List ℕ
closing last = last.said ++ tally_told last.after.rules.style last.after.name last.after.tally.passed last.after.tally.failed

-- what is told at the end of a script: the places of the caches, and what is owed
abbrev pub end_told : Checked → List OwedReport → Told
end_told end reports =
    let places = places_told end in
    let rest = owed_if end.place places.after reports in
    record { said = places.said ++ rest.said; after = rest.after }

-- this is owed at the end, unless memory was refused, and lines are named as they stand
abbrev pub AreOwedAt : Checked → Bool → List OwedReport → Type 0
AreOwedAt end is_lost reports =
    (is_lost ≡ false → AreOwedBy end.desk.reasons.settling end.desk.state (requests_of reports))
    × AreReports (places_by end.desk) end.desk.reasons.last_invalidation reports

-- whether memory was refused, for what is told of settledness or for where lines stand
abbrev pub is_lost_by : Desk → Bool
is_lost_by desk = is_lost_in desk.reasons.settling || desk.marks.is_lost

-- once memory was refused it stays so
abbrev pub StaysLost : Checked → Bool → Type 0
StaysLost end is_lost = is_lost_in end.desk.reasons.settling ≡ true → is_lost ≡ true

-- what is owed is told, of a score before it, where that is told
pub record TellsOwed (end : Checked) (is_lost : Bool) (held holds : Option (List ℕ)) (after : Score) : Type 0 where
  pub owed : List OwedReport
  pub owes : AreOwedAt end is_lost owed
  pub lost : StaysLost end is_lost
  pub written : Appends held holds (owed_if end.place end.score owed).said
  pub left : after ≡ (owed_if end.place end.score owed).after

-- A whole script was checked: what was written is what is told of its lines, one after the other, and of its end. `is_lost` says whether memory
-- was refused for what is told of settledness or for where lines stand, at the lines or at the end.
pub record IsChecked (start : Checked) (unread left held holds : Option (List ℕ)) (is_lost : Bool) (tally : Tally) : Type 0 where
  pub script : List ℕ
  pub took : Consumes unread left script
  pub all : IsAtEnd left
  pub within : IsWithinLimits script
  pub text : List ℕ
  pub end : Checked
  pub said : Speaks checking start (lines_of script) text end
  pub owed : List OwedReport
  pub owes : AreOwedAt end is_lost owed
  pub lost : StaysLost end is_lost
  pub placed : is_lost ≡ false → end.desk.marks.is_lost ≡ false
  pub written : Appends held holds (text ++ ((end_told end owed).said ++ closing (ended (end_told end owed).after end.place)))
  pub counts : tally ≡ (ended (end_told end owed).after end.place).after.tally
