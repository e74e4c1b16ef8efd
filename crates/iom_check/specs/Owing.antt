-- What is owed at a script's end, a request that was made and isn't settled: each is a test point that fails.
use Rattle.std.specs.Prelude.{ℕ, ◌≡◌, ◌++◌, List, [], ◌∷◌, codes, map, Option, if◌then◌else◌}
use Rattle.std.specs.Io.KnownBytes.{Appends}
use Rattle.iom_core.specs.declared.access.Request.{Request}
use Rattle.iom_owed.specs.Settled.{read_number}
use Rattle.iom_owed.specs.declared.settling.Owed.{Owed}
use Rattle.iom_debug.specs.Places.{IsNamed, IsNamedIf, PlaceView}
use Rattle.iom_debug.specs.Settling.{elsewhere_text, request_text}
use Rattle.iom_debug.specs.declared.invalidations.Invalidation.{Invalidation}
use Rattle.iom_check.specs.Judging.{IsInvalidationTold}
use Rattle.iom_check.specs.Scoring.{Score, Told, failed, is_told_of, quiet}

-- A request that is owed, how the line is named that made it, and how the one that read what may lead it elsewhere, where there is one; and what
-- is said of the invalidations behind that.
pub record OwedReport : Type 0 where
  pub owed : Owed
  pub made_in : List ℕ
  pub read_in : Option (List ℕ)
  pub behind : List ℕ

-- where lines stand is known or not, and the last invalidation is this
abbrev pub IsReport : Option (ℕ → PlaceView) → Option Invalidation → OwedReport → Type 0
IsReport known last report =
    IsNamed known report.owed.made.number report.made_in × IsNamedIf known (read_number report.owed.unsettled.serving) report.read_in
    × IsInvalidationTold known last report.owed.unsettled report.behind

abbrev pub AreReports : Option (ℕ → PlaceView) → Option Invalidation → List OwedReport → Type 0
AreReports known last [] = Unit {0}
AreReports known last (report ∷ more) = IsReport known last report × AreReports known last more

abbrev pub requests_of : List OwedReport → List Owed
requests_of reports = map (λ (report : OwedReport). report.owed) reports

-- as `read 0x40202000 of device 5, as in line 12, may still go to addr=0x80011000, read in line 3, the tables now say
-- denied 13`
unfoldable pub owed_message : List ℕ → List ℕ → List ℕ → List ℕ
owed_message title line elsewhere = title ++ codes ", as in " ++ line ++ codes "," ++ elsewhere

-- a request that is owed is told, unless a failure was about its page
abbrev pub owed_by : Score → PlaceView → Request → List ℕ → List ℕ → Told
owed_by s place request line elsewhere =
    if is_told_of s.pages request then quiet s else failed s place (request_text request) (owed_message (request_text request) line elsewhere)

abbrev pub owed_at : Score → PlaceView → OwedReport → Told
owed_at s place report =
    let request : Request = report.owed.made.request in
    owed_by s place request report.made_in (elsewhere_text report.read_in report.owed.unsettled request.iova ++ report.behind)

-- of some owed requests, one after the other
unfoldable pub all_owed : PlaceView → Score → List OwedReport → Told
all_owed place s [] = quiet s
all_owed place s (report ∷ more) =
    let first = owed_at s place report in
    let rest = all_owed place first.after more in
    record { said = first.said ++ rest.said; after = rest.after }

abbrev pub owed_if : PlaceView → Score → List OwedReport → Told
owed_if place s reports = if s.rules.fails_if_unsettled then all_owed place s reports else quiet s

-- A request that is owed is on the page, with the score behind it: lines are named as they stand.
pub record IsOwedPut (known : Option (ℕ → PlaceView)) (last : Option Invalidation) (before : Score) (place : PlaceView) (owed : Owed) (page : List ℕ) (after : Score) : Type 0 where
  pub report : OwedReport
  pub is : report.owed ≡ owed
  pub named : IsReport known last report
  pub said : page ≡ (owed_at before place report).said
  pub left : after ≡ (owed_at before place report).after

-- it is told
pub record TellsOne (known : Option (ℕ → PlaceView)) (last : Option Invalidation) (before : Score) (place : PlaceView) (owed : Owed) (held holds : Option (List ℕ)) (after : Score) :
    Type 0 where
  pub report : OwedReport
  pub is : report.owed ≡ owed
  pub named : IsReport known last report
  pub written : Appends held holds (owed_at before place report).said
  pub left : after ≡ (owed_at before place report).after

-- requests that are owed are told, one after the other
pub record TellsAll (known : Option (ℕ → PlaceView)) (last : Option Invalidation) (before : Score) (place : PlaceView) (owed : List Owed) (held holds : Option (List ℕ))
    (after : Score) : Type 0 where
  pub reports : List OwedReport
  pub are : requests_of reports ≡ owed
  pub named : AreReports known last reports
  pub written : Appends held holds (all_owed place before reports).said
  pub left : after ≡ (all_owed place before reports).after

-- the same, where settledness is judged
pub record TellsIf (known : Option (ℕ → PlaceView)) (last : Option Invalidation) (before : Score) (place : PlaceView) (owed : List Owed) (held holds : Option (List ℕ))
    (after : Score) : Type 0 where
  pub reports : List OwedReport
  pub are : requests_of reports ≡ owed
  pub named : AreReports known last reports
  pub written : Appends held holds (owed_if place before reports).said
  pub left : after ≡ (owed_if place before reports).after
