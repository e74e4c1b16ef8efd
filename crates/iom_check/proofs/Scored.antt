-- The count of failures only grows, so where it is 0 at the end no line failed.
use Rattle.std.proofs.Common.{◌≡◌, ◌∙◌, ◌++◌, ◌&&◌, ◌||◌, ◌+◌, not, ℕ, zero, suc, Bool, true, false, List, [], ◌∷◌, length, Option, Some, None, if◌then◌else◌, refl, sym, ap, subst, arith}
use Rattle.std.specs.Prelude.{nat_lt}
use Rattle.std.proofs.lemmas.Bool.{ltb-true}
use Rattle.iom_core.specs.State.{Machine}
use Rattle.iom_core.specs.declared.access.Request.{Request}
use Rattle.iom_check.specs.declared.rules.Tally.{Tally}
use Rattle.iom_debug.specs.Settling as settling
use Rattle.iom_debug.specs.Settling.{unsettled_in, unsettled_text}
use Rattle.iom_debug.specs.Stale.{kind_text}
use Rattle.iom_debug.specs.Telling.{slip_with}
use Rattle.iom_debug.specs.declared.invalidations.Invalidation.{Invalidation}
use Rattle.iom_debug.specs.declared.settling.UnsettledAccess.{UnsettledAccess}
use Rattle.iom_bits.specs.declared.causes.Kind.{Kind}
use Rattle.iom_bits.specs.declared.causes.Kind.TheVariants as kind
use Rattle.iom_check.specs.Checking.{Checked, LineSays, line_told, places_by, places_if, places_told}
use Rattle.iom_check.specs.Judging.{IsUnsettledTold, allows_stale, allows_unsettled, fails, meets, message, passes, remark, stale_request, title, told_request, unsettled_request}
use Rattle.iom_check.specs.Looking.{all_looked, asked_at, is_current, looked, looked_at, looked_by, place_message, place_title, standing_at}
use Rattle.iom_debug.specs.Places.{PlaceView}
use Rattle.iom_check.specs.Reporting.{note_told}
use Rattle.iom_check.specs.Scoring.{Score, Told, about, failed, is_known_page, judged, more, noted, noted_as, noted_at, noted_beside, one_failed, page_of, passed, quiet, remarked, with_page, with_wish}
use Rattle.iom_check.specs.Wanted.{wanted}
use Rattle.iom_check.specs.declared.looking.Cache.{Cache}
use Rattle.iom_check.specs.declared.looking.Cache.TheVariants as cache
use Rattle.iom_check.proofs.Answered.{IsSaid, said}

-- the rules stay, and where none failed after it none failed before, and the pages that failures were about stay
pub record GoesOn (before after : Score) : Type 0 where
  pub rules : after.rules ≡ before.rules
  pub passed : after.tally.failed ≡ 0 → before.tally.failed ≡ 0
  pub pages : after.tally.failed ≡ 0 → after.pages ≡ before.pages

-- one more failed
pub one_more : (n : ℕ) → more n ≡ 0 → ⊥
one_more n is = absurd (omega arith)

pub still : (s : Score) → GoesOn s s
still s = record { rules = refl; passed = λ none. none; pages = λ none. refl }

pub both : (a b c : Score) → GoesOn a b → GoesOn b c → GoesOn a c
both a b c first second = record {
  rules = second.rules ∙ first.rules;
  passed = λ none. first.passed (second.passed none);
  pages = λ none. second.pages none ∙ first.pages (second.passed none);
}

pub failed_on : (s : Score) → GoesOn s (one_failed s)
failed_on s = record {
  rules = refl;
  passed = λ none. absurd (one_more s.tally.failed none);
  pages = λ none. absurd (one_more s.tally.failed none);
}

-- a page changes neither rules nor counts
page_rules : (s : Score) (request : Option Request) → (with_page s request).rules ≡ s.rules
page_rules s None = refl
page_rules s (Some request) = by (nat_lt (length s.pages) 64) where
  by : (b : Bool) → (if b then record s { pages = s.pages ++ page_of request ∷ [] } else s).rules ≡ s.rules
  by true = refl
  by false = refl

page_tally : (s : Score) (request : Option Request) → (with_page s request).tally ≡ s.tally
page_tally s None = refl
page_tally s (Some request) = by (nat_lt (length s.pages) 64) where
  by : (b : Bool) → (if b then record s { pages = s.pages ++ page_of request ∷ [] } else s).tally ≡ s.tally
  by true = refl
  by false = refl

about_failed : (s : Score) (first second : Option Request) → (with_page (with_page (one_failed s) first) second).tally.failed ≡ more s.tally.failed
about_failed s first second =
    ap (λ (t : Tally). t.failed) (page_tally (with_page (one_failed s) first) second ∙ page_tally (one_failed s) first)

about_on : (s : Score) (first second : Option Request) → GoesOn s (with_page (with_page (one_failed s) first) second)
about_on s first second = record {
  rules = page_rules (with_page (one_failed s) first) second ∙ page_rules (one_failed s) first;
  passed = λ none. absurd (one_more s.tally.failed (sym (about_failed s first second) ∙ none));
  pages = λ none. absurd (one_more s.tally.failed (sym (about_failed s first second) ∙ none));
}

-- either of two
pub picked : (s : Score) (b : Bool) (x y : Told) → GoesOn s x.after → GoesOn s y.after → GoesOn s (if b then x else y).after
picked s true x y first second = first
picked s false x y first second = second

judged_on : (s : Score) (place : PlaceView) (line answer slip tables elsewhere : List ℕ) (stale unsettled : Option Request) →
    GoesOn s (judged s place line answer slip tables elsewhere stale unsettled).after
judged_on s place line answer slip tables elsewhere stale unsettled =
    let wish = wanted line in
    let good = passed s place (title line) in
    let passing = passes s.rules wish answer tables elsewhere in
    picked s (fails s.rules wish answer tables elsewhere)
    (about (failed s place (title line) (message s.rules line answer slip tables elsewhere)) stale unsettled)
    (if passing then good else quiet s) (about_on s stale unsettled)
    (picked s passing good (quiet s) (record { rules = refl; passed = λ none. none; pages = λ none. refl }) (still s))

as_on : (s : Score) (place : PlaceView) (title text : List ℕ) → GoesOn s (noted_as s place title text).after
as_on s place title text =
    picked s s.rules.is_strict (failed s place title text) (record { said = note_told s.rules.style s.name place text; after = s })
    (failed_on s) (still s)

pub noted_on : (s : Score) (place : PlaceView) (text : List ℕ) → GoesOn s (noted s place text).after
noted_on s place text = as_on s place text text

beside_on : (s : Score) (place : PlaceView) (line beside : List ℕ) → GoesOn s (noted_beside s place line beside).after
beside_on s place line beside =
    picked s (nat_lt 0 (length beside)) (noted_as s place (title line) beside) (quiet s) (as_on s place (title line) beside) (still s)

remarked_on : (s : Score) (place : PlaceView) (line answer beside : List ℕ) (ignored : Bool) →
    GoesOn s (remarked s place line answer beside ignored).after
remarked_on s place line answer beside ignored =
    let text = remark line answer ignored in
    let first = (noted_at s place text).after in
    both s first (noted_beside first place line beside).after
    (picked s (nat_lt 0 (length text)) (noted s place text) (quiet s) (noted_on s place text) (still s))
    (beside_on first place line beside)

line_on : (s : Score) (place : PlaceView) (line answer slip tables elsewhere beside : List ℕ) (ignored : Bool) (stale unsettled : Option Request) →
    GoesOn s (line_told s place line answer slip tables elsewhere beside ignored stale unsettled).after
line_on s place line answer slip tables elsewhere beside ignored stale unsettled =
    let first = (judged s place line answer slip tables elsewhere stale unsettled).after in
    let second = (remarked first place line answer beside ignored).after in
    both s second (with_wish second line) (both s first second (judged_on s place line answer slip tables elsewhere stale unsettled) (remarked_on first place line answer beside ignored))
    (record { rules = refl; passed = λ none. none; pages = λ none. refl })

-- places that are looked at
place_on : (s : Score) (place : PlaceView) (which : Cache) (i : ℕ) (answer : List ℕ) (asked : Option Request) →
    GoesOn s (looked_at s place which i answer asked).after
place_on s place which i answer asked =
    picked s (is_current answer || is_known_page s.pages asked) (quiet s)
    (about (failed s place (place_title which i) (place_message (place_title which i) answer)) asked None) (still s) (about_on s asked None)

looked_on : (m : Machine) (which : Cache) (place : PlaceView) (s : Score) (i count : ℕ) → GoesOn s (looked m which place s i count).after
unfolding looked
looked_on m which place s i zero = still s
looked_on m which place s i (suc count) =
    let first = (looked_at s place which i (standing_at m which i) (asked_at m which i)).after in
    both s first _ (place_on s place which i (standing_at m which i) (asked_at m which i)) (looked_on m which place first (i + 1) count)

all_on : (m : Machine) (place : PlaceView) (s : Score) → GoesOn s (all_looked m place s).after
unfolding all_looked
all_on m place s =
    let contexts = (looked m cache.Contexts place s 0 16).after in
    both s contexts _ (looked_on m cache.Contexts place s 0 16) (looked_on m cache.Pages place contexts 0 64)

pub looked_by_on : (m : Machine) (place : PlaceView) (s : Score) → GoesOn s (looked_by m place s).after
looked_by_on m place s = picked s s.rules.fails_if_stale (all_looked m place s) (quiet s) (all_on m place s) (still s)

pub places_on : (looks : Bool) (after : Checked) → GoesOn after.score (places_if looks after).after
places_on looks after =
    picked after.score looks (places_told after) (quiet after.score) (looked_by_on after.desk.state.machine after.place after.score) (still after.score)

-- an access that wasn't settled is told
said_kind : (which : Kind) → IsSaid (kind_text which)
said_kind kind.Read = said _ _
said_kind kind.Write = said _ _

-- something stands there still with more behind it
longer : (text rest : List ℕ) → IsSaid text → IsSaid (text ++ rest)
longer [] rest is = absurd (omega (arith, ltb-true 0 0 is.some))
longer (c ∷ text) rest is = said c (text ++ rest)

said_access : (line : Option (List ℕ)) (access : UnsettledAccess) → IsSaid (unsettled_text line access)
unfolding settling.unsettled_text
said_access line access = longer _ _ (longer _ _ (said_kind access.request.kind))

untold : (known : Option (ℕ → PlaceView)) (judged : Bool) (last : Option Invalidation) (access : Option UnsettledAccess) (text : List ℕ) → judged ≡ true →
    IsUnsettledTold known judged last access text → nat_lt 0 (length text) ≡ false → access ≡ None
untold known false last access text is told none = absurd (cc is)
untold known true last None text is told none = refl
untold known true last (Some access) text is told none =
    let wrong : true ≡ false = sym (longer (unsettled_text told.0 access) told.2.0 (said_access told.0 access)).some ∙ subst (λ (t : List ℕ). nat_lt 0 (length t) ≡ false) told.2.2 none in absurd (cc wrong)

-- a line with an answer that doesn't fail has no such access, unless its wish allows it
last_part : (a b c d : Bool) → a && (b || (c || d)) ≡ false → a ≡ true → d ≡ false
last_part true true c d is said = absurd (cc is)
last_part true false true d is said = absurd (cc is)
last_part true false false d is said = is
last_part false b c d is said = absurd (cc said)

told_alone : (told allowed : Bool) → told && not allowed ≡ false → allowed ≡ false → told ≡ false
told_alone false allowed is wants = refl
told_alone true false is wants = absurd (cc is)
told_alone true true is wants = absurd (cc wants)

passing : (b : Bool) (s : Score) (x : Told) (y : Told) → x.after.tally.failed ≡ more s.tally.failed → (if b then x else y).after.tally.failed ≡ 0 → b ≡ false
passing true s x y failed none = absurd (one_more s.tally.failed (sym failed ∙ none))
passing false s x y failed none = refl

judged_passing : (s : Score) (place : PlaceView) (line answer slip tables elsewhere : List ℕ) (stale unsettled : Option Request) →
    (judged s place line answer slip tables elsewhere stale unsettled).after.tally.failed ≡ 0 → IsSaid answer →
    allows_unsettled (wanted line) ≡ false → nat_lt 0 (length elsewhere) ≡ false
judged_passing s place line answer slip tables elsewhere stale unsettled none said wants =
    let wish = wanted line in
    let fine : Told = if passes s.rules wish answer tables elsewhere then passed s place (title line) else quiet s in
    let good : fails s.rules wish answer tables elsewhere ≡ false =
    passing (fails s.rules wish answer tables elsewhere) s
    (about (failed s place (title line) (message s.rules line answer slip tables elsewhere)) stale unsettled) fine (about_failed s stale unsettled) none in
    told_alone (nat_lt 0 (length elsewhere)) (allows_unsettled wish)
    (last_part (nat_lt 0 (length answer)) (not (meets s.rules wish answer tables elsewhere)) (nat_lt 0 (length tables) && not (allows_stale wish))
    (nat_lt 0 (length elsewhere) && not (allows_unsettled wish)) good said.some) wants

-- a line by itself goes on, and where none failed after it
pub alone_on : (before : Checked) (line text : List ℕ) (after : Checked) → LineSays before line text after → GoesOn before.score after.score
alone_on before line text after h =
    subst (GoesOn before.score) (sym h.score)
    (line_on before.score after.place line h.answer (slip_with before.desk.names line) h.tables h.elsewhere h.beside after.desk.reasons.has_ignored
    (stale_request before.score.rules.fails_if_stale after.desk.reasons.stale)
    (told_request (unsettled_request before.score.rules.fails_if_unsettled (unsettled_in after.desk.reasons.settling)) h.owed))

pub alone_quiet : (before : Checked) (line text : List ℕ) (after : Checked) (h : LineSays before line text after) →
    before.score.rules.fails_if_unsettled ≡ true → after.score.tally.failed ≡ 0 → IsSaid h.answer → allows_unsettled (wanted line) ≡ false →
    unsettled_in after.desk.reasons.settling ≡ None
alone_quiet before line text after h rules none said wants =
    let s = before.score in
    let answer = h.answer in
    let slip = slip_with before.desk.names line in
    let access = unsettled_in after.desk.reasons.settling in
    let stale = stale_request s.rules.fails_if_stale after.desk.reasons.stale in
    let unsettled = told_request (unsettled_request s.rules.fails_if_unsettled access) h.owed in
    let told = (line_told s after.place line answer slip h.tables h.elsewhere h.beside after.desk.reasons.has_ignored stale unsettled).after in
    let first = (judged s after.place line answer slip h.tables h.elsewhere stale unsettled).after in
    let all : told.tally.failed ≡ 0 = sym (ap (λ (s : Score). s.tally.failed) h.score) ∙ none in
    let one : first.tally.failed ≡ 0 = (remarked_on first after.place line answer h.beside after.desk.reasons.has_ignored).passed all in
    untold (places_by before.desk) s.rules.fails_if_unsettled after.desk.reasons.last_invalidation access h.elsewhere rules h.unsettled
    (judged_passing s after.place line answer slip h.tables h.elsewhere stale unsettled one said wants)
