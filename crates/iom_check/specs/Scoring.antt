-- How a checked script goes: its test points, one after the other.
use Rattle.std.specs.Prelude.{ℕ, ◌+◌, ◌/◌, ◌==◌, ◌&&◌, ◌||◌, ◌++◌, Bool, false, nat_lt, List, [], ◌∷◌, length, codes, Option, Some, None, is_some, if◌then◌else◌}
use Rattle.iom_core.specs.declared.access.Request.{Request}
use Rattle.iom_debug.specs.Summary.{up_to_64_bits}
use Rattle.iom_check.specs.Judging.{fails, message, passes, remark, title}
use Rattle.iom_debug.specs.Places.{PlaceView}
use Rattle.iom_check.specs.Reporting.{failed_told, note_told, passed_told}
use Rattle.iom_check.specs.Wanted.{wanted}
use Rattle.iom_check.specs.declared.rules.Rules.{Rules}
use Rattle.iom_check.specs.declared.rules.Tally.{Tally}

-- what a script is judged by, its file, how many test points there were, of which scripts before had some, how many of its own passed
-- and failed, whether a line had a wish, and the first 64 pages that failures were about, by their device ids and numbers
pub record Score : Type 0 where
  pub rules : Rules
  pub name : Option (List ℕ)
  pub points : ℕ
  pub tally : Tally
  pub has_wish : Bool
  pub pages : List (ℕ × ℕ)

-- what is said, and the score after it
pub record Told : Type 0 where
  pub said : List ℕ
  pub after : Score

abbrev pub quiet : Score → Told
quiet s = record { said = []; after = s }

-- one more: at most 2^64 - 1
abbrev pub more : ℕ → ℕ
more n = up_to_64_bits (n + 1)

abbrev pub one_passed : Score → Score
one_passed s = record s { points = more s.points; tally = record s.tally { passed = more s.tally.passed } }

abbrev pub one_failed : Score → Score
one_failed s = record s { points = more s.points; tally = record s.tally { failed = more s.tally.failed } }

-- the page that a request is for, whether it reads or writes
abbrev pub page_of : Request → ℕ × ℕ
page_of request = (request.did, request.iova / 4096)

abbrev pub is_page_of : Request → ℕ × ℕ → Bool
is_page_of request page = page.0 == request.did && page.1 == request.iova / 4096

unfoldable pub is_told_of : List (ℕ × ℕ) → Request → Bool
is_told_of [] request = false
is_told_of (page ∷ pages) request = is_page_of request page || is_told_of pages request

-- of a request, if there is one
abbrev pub is_known_page : List (ℕ × ℕ) → Option Request → Bool
is_known_page pages None = false
is_known_page pages (Some request) = is_told_of pages request

abbrev pub with_page : Score → Option Request → Score
with_page s None = s
with_page s (Some request) = if nat_lt (length s.pages) 64 then record s { pages = s.pages ++ page_of request ∷ [] } else s

-- a failure is about the pages of these requests
abbrev pub about : Told → Option Request → Option Request → Told
about told first second = record { said = told.said; after = with_page (with_page told.after first) second }

-- a test point at a line, by its title
abbrev pub passed : Score → PlaceView → List ℕ → Told
passed s place title = record {
  said = passed_told s.rules.style (more s.points) s.name place title;
  after = one_passed s;
}

abbrev pub failed : Score → PlaceView → List ℕ → List ℕ → Told
failed s place title message = record {
  said = failed_told s.rules.style (more s.points) s.name place title message;
  after = one_failed s;
}

-- a note fails where the rules are strict, by this title
abbrev pub noted_as : Score → PlaceView → List ℕ → List ℕ → Told
noted_as s place title text =
    if s.rules.is_strict then failed s place title text
    else record { said = note_told s.rules.style s.name place text; after = s }

abbrev pub noted : Score → PlaceView → List ℕ → Told
noted s place text = noted_as s place text text

-- a line at its place, its answer, why it is bad, and the requests that a failure is about
abbrev pub judged : Score → PlaceView → List ℕ → List ℕ → List ℕ → List ℕ → List ℕ → Option Request → Option Request → Told
judged s place line answer slip tables elsewhere stale told =
    if fails s.rules (wanted line) answer tables elsewhere
    then about (failed s place (title line) (message s.rules line answer slip tables elsewhere)) stale told
    else if passes s.rules (wanted line) answer tables elsewhere then passed s place (title line) else quiet s

abbrev pub noted_at : Score → PlaceView → List ℕ → Told
noted_at s place text = if nat_lt 0 (length text) then noted s place text else quiet s

-- what is told of an access of a line that an IOMMU may lead by another way to the same place, if anything is
abbrev pub noted_beside : Score → PlaceView → List ℕ → List ℕ → Told
noted_beside s place line beside = if nat_lt 0 (length beside) then noted_as s place (title line) beside else quiet s

-- what would go unnoticed, and then that
abbrev pub remarked : Score → PlaceView → List ℕ → List ℕ → List ℕ → Bool → Told
remarked s place line answer beside ignored =
    let first = noted_at s place (remark line answer ignored) in
    let second = noted_beside first.after place line beside in
    record { said = first.said ++ second.said; after = second.after }

abbrev pub with_wish : Score → List ℕ → Score
with_wish s line = record s { has_wish = s.has_wish || is_some (wanted line) }

-- at a script's end, behind its last line
abbrev pub ended : Score → PlaceView → Told
ended s place = if s.has_wish then quiet s else noted s place (codes "no line has a wish")
