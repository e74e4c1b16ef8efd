-- A checked script in whose count none failed: no line failed, and nothing is owed at its end.
use Rattle.std.proofs.Common.{◌++◌, ◌≡◌, ◌∙◌, ◌⊎◌, ℕ, Bool, true, false, List, [], ◌∷◌, map, Option, Some, None, if◌then◌else◌, refl, sym, ap, subst, inl, inr}
use Rattle.std.specs.Prelude.{codes}
use Rattle.std.specs.Option.{option_map}
use Rattle.std.proofs.lemmas.Bool.{cases_eq}
use Rattle.iom_bits.specs.declared.causes.Kind.{Kind}
use Rattle.iom_bits.specs.declared.causes.Kind.TheVariants as kind
use Rattle.iom_choices.specs.Models.{end_of as reached}
use Rattle.iom_choices.specs.Systems.{IsAmong}
use Rattle.iom_core.specs.State.{State}
use Rattle.iom_core.specs.Table.{request_of_step}
use Rattle.iom_core.specs.declared.access.Request.{Request}
use Rattle.iom_core.specs.declared.step.Step.{Step}
use Rattle.iom_every.specs.Every.{platform}
use Rattle.iom_reader.specs.Lines.{lines_of}
use Rattle.iom_owed.specs.Holdings.{IsMadeLast, Keeps, Makes, at_page}
use Rattle.iom_owed.specs.Newest.{steps_of}
use Rattle.iom_owed.specs.Settled.{AreOwed, IsSettledNow}
use Rattle.iom_owed.specs.declared.noting.Made.{Made}
use Rattle.iom_owed.specs.declared.settling.Owed.{Owed}
use Rattle.iom_debug.specs.Settling.{AreOwedBy, SettlingView, elsewhere_text, is_lost_in, request_text}
use Rattle.iom_check.specs.Checking.{Checked, IsChecked, end_told, places_told}
use Rattle.iom_check.specs.Owing.{OwedReport, all_owed, owed_at, owed_message, requests_of}
use Rattle.iom_debug.specs.Places.{PlaceView}
use Rattle.iom_check.specs.Scoring.{Score, Told, ended, failed, is_told_of, more, noted, quiet}
use Rattle.iom_check.specs.Scripts.{AreLinesSettled, BeginsSettled, IsMade, PassesSettled, WantSettled, newest_first}
use Rattle.iom_check.specs.declared.rules.Rules.{Rules}
use Rattle.iom_check.specs.declared.rules.Tally.{Tally}
use Rattle.iom_check.proofs.Accessed.{Follows}
use Rattle.iom_check.proofs.Scored.{GoesOn, both, failed_on, looked_by_on, noted_on, one_more, picked, still}
use Rattle.iom_check.proofs.Scripts.{IsFine, Went, lines_pages, lines_rules, taken_is, went}

-- at the end
ended_on : (s : Score) (place : PlaceView) → GoesOn s (ended s place).after
ended_on s place =
    picked s s.has_wish (quiet s) (noted s place (codes "no line has a wish")) (still s) (noted_on s place (codes "no line has a wish"))

owed_on : (place : PlaceView) (s : Score) (reports : List OwedReport) → GoesOn s (all_owed place s reports).after
unfolding all_owed
owed_on place s [] = still s
owed_on place s (first ∷ more) =
    let request = first.owed.made.request in
    let next = (owed_at s place first).after in
    both s next _
    (picked s (is_told_of s.pages request) (quiet s)
    (failed s place (request_text request)
    (owed_message (request_text request) first.made_in (elsewhere_text first.read_in first.owed.unsettled request.iova ++ first.behind))) (still s) (failed_on s))
    (owed_on place next more)

-- where no failure was about a page, each that is owed fails
owed_fails : (place : PlaceView) (s : Score) (report : OwedReport) → s.pages ≡ [] → (owed_at s place report).after.tally.failed ≡ more s.tally.failed
unfolding is_told_of
owed_fails place s report pages =
    let request = report.owed.made.request in
    let all = failed s place (request_text request)
    (owed_message (request_text request) report.made_in (elsewhere_text report.read_in report.owed.unsettled request.iova ++ report.behind)) in
    ap (λ (pages : List (ℕ × ℕ)). (if is_told_of pages request then quiet s else all).after.tally.failed) pages

-- where none failed, nothing was owed
none_owed : (place : PlaceView) (s : Score) (reports : List OwedReport) → s.pages ≡ [] → (all_owed place s reports).after.tally.failed ≡ 0 → reports ≡ []
unfolding all_owed
none_owed place s [] pages none = refl
none_owed place s (first ∷ others) pages none =
    let next = (owed_at s place first).after in
    absurd (one_more s.tally.failed (sym (owed_fails place s first pages) ∙ (owed_on place next others).passed none))

if_on : (end : Checked) (reports : List OwedReport) → GoesOn (places_told end).after (end_told end reports).after
if_on end reports =
    let places = (places_told end).after in
    picked places places.rules.fails_if_unsettled (all_owed end.place places reports) (quiet places) (owed_on end.place places reports) (still places)

told_on : (end : Checked) (reports : List OwedReport) → GoesOn end.score (end_told end reports).after
told_on end reports =
    let places = (places_told end).after in
    both end.score places _ (looked_by_on end.desk.state.machine end.place end.score) (if_on end reports)

owed_none : (b : Bool) (s : Score) (all : Told) (reports : List OwedReport) → (all.after.tally.failed ≡ 0 → reports ≡ []) → b ≡ true →
    (if b then all else quiet s).after.tally.failed ≡ 0 → reports ≡ []
owed_none true s all reports empty judged none = empty none
owed_none false s all reports empty judged none = absurd (cc judged)

told_none : (end : Checked) (reports : List OwedReport) → end.score.rules.fails_if_unsettled ≡ true → end.score.pages ≡ [] →
    (end_told end reports).after.tally.failed ≡ 0 → reports ≡ []
told_none end reports judged pages none =
    let places = (places_told end).after in
    let looked : GoesOn end.score places = looked_by_on end.desk.state.machine end.place end.score in
    let still_none : places.pages ≡ [] = looked.pages ((if_on end reports).passed none) ∙ pages in
    owed_none places.rules.fails_if_unsettled places (all_owed end.place places reports) reports (none_owed end.place places reports still_none)
    (ap (λ (r : Rules). r.fails_if_unsettled) looked.rules ∙ judged) none

not_lost : (lost is_lost : Bool) → (lost ≡ true → is_lost ≡ true) → is_lost ≡ false → lost ≡ false
not_lost false is_lost still known = refl
not_lost true is_lost still known =
    let is : true ≡ false = sym (still refl) ∙ known in absurd (cc is)

-- whether a step makes a request
same_kind : (a b : Kind) → (a ≡ b) ⊎ (a ≡ b → ⊥)
same_kind kind.Read kind.Read = inl refl
same_kind kind.Write kind.Write = inl refl
same_kind kind.Read kind.Write = inr (λ is. cc)
same_kind kind.Write kind.Read = inr (λ is. cc)

same_parts : (a b : Request) → (a.did ≡ b.did) ⊎ (a.did ≡ b.did → ⊥) → (a.iova ≡ b.iova) ⊎ (a.iova ≡ b.iova → ⊥) →
    (a.kind ≡ b.kind) ⊎ (a.kind ≡ b.kind → ⊥) → (a ≡ b) ⊎ (a ≡ b → ⊥)
same_parts a b (inl did) (inl iova) (inl kind) = inl (
    ap (λ d. record { did = d; iova = a.iova; kind = a.kind }) did ∙ ap (λ i. record { did = b.did; iova = i; kind = a.kind }) iova
    ∙ ap (λ k. record { did = b.did; iova = b.iova; kind = k }) kind
    )
same_parts a b (inr other) iova kind = inr (λ is. other (ap (λ (r : Request). r.did) is))
same_parts a b (inl did) (inr other) kind = inr (λ is. other (ap (λ (r : Request). r.iova) is))
same_parts a b (inl did) (inl iova) (inr other) = inr (λ is. other (ap (λ (r : Request). r.kind) is))

some_is : {X : Type 0} {a b : X} → Some a ≡ Some b → a ≡ b
some_is is = search is

same_some : (a b : Request) → (a ≡ b) ⊎ (a ≡ b → ⊥) → (Some a ≡ Some b) ⊎ (Some a ≡ Some b → ⊥)
same_some a b (inl is) = inl (ap (λ (r : Request). Some r) is)
same_some a b (inr other) = inr (λ is. other (some_is is))

same : (a : Option Request) (b : Request) → (a ≡ Some b) ⊎ (a ≡ Some b → ⊥)
same None b = inr (λ is. cc)
same (Some a) b = same_some a b (same_parts a b (cases_eq a.did b.did) (cases_eq a.iova b.iova) (same_kind a.kind b.kind))

-- the newest step that makes a request
newest_of : (ahead : List Request) (start : State) (last : Step × ℕ) (taken : List (Step × ℕ)) (request : Request) →
    (Makes start (steps_of taken) last.0 request) ⊎ (Makes start (steps_of taken) last.0 request → ⊥) →
    (IsMade start (steps_of taken) request ⊎ IsAmong (map at_page ahead) request → (number : ℕ) × IsMadeLast ahead start taken request number) →
    (Makes start (steps_of taken) last.0 request ⊎ IsMade start (steps_of taken) request) ⊎ IsAmong (map at_page ahead) request →
    (number : ℕ) × IsMadeLast ahead start (last ∷ taken) request number
newest_of ahead start last taken request (inl makes) older made = (last.1, inl (makes, refl))
newest_of ahead start last taken request (inr other) older (inl (inl makes)) = absurd (other makes)
newest_of ahead start last taken request (inr other) older (inr listed) =
    let found = older (inr listed) in (found.0, inr (other, found.1))
newest_of ahead start last taken request (inr other) older (inl (inr before)) =
    let found = older (inl before) in (found.0, inr (other, found.1))

newest : (ahead : List Request) (start : State) (taken : List (Step × ℕ)) (request : Request) → IsMade start (steps_of taken) request ⊎ IsAmong (map at_page ahead) request →
    (number : ℕ) × IsMadeLast ahead start taken request number
newest ahead start [] request (inl made) = absurd made
newest ahead start [] request (inr listed) = (0, (listed, refl))
newest ahead start (last ∷ taken) request made =
    let before = reached platform start (steps_of taken) in
    newest_of ahead start last taken request (same (option_map at_page (request_of_step before last.0)) request)
    (newest ahead start taken request) made

settled_or : (owed : List Owed) (each : Made) (P : Type 0) → owed ≡ [] → IsAmong (map (λ (told : Owed). told.made) owed) each ⊎ P → P
settled_or owed each P none (inr is) = is
settled_or owed each P none (inl among) = absurd (subst (λ (o : List Owed). IsAmong (map (λ (told : Owed). told.made) o) each) none among)

-- where nothing is owed, each request that was made is settled
settled_by : (ahead : List Request) (settling : Option SettlingView) (start : State) (taken : List (Step × ℕ)) (state : State) (owed : List Owed) → AreOwedBy settling state owed →
    Follows ahead start taken state settling → owed ≡ [] → (request : Request) → IsMade start (steps_of taken) request ⊎ IsAmong (map at_page ahead) request → IsSettledNow ahead start (steps_of taken) request
settled_by ahead None start taken state owed are follows none request made = absurd follows
settled_by ahead (Some settling) start taken state owed are follows none request made =
    let found = newest ahead start taken request made in
    let each : Made = record { request = request; number = found.0 } in
    let keeps : Keeps ahead settling.holdings state start taken = follows in
    let among : IsAmong settling.holdings.requests each = (keeps.requests each).1 found.1 in
    let owes : AreOwed ahead settling.holdings start (steps_of taken) owed = are ahead start taken keeps in
    settled_or owed each (IsSettledNow ahead start (steps_of taken) request) none (owes.settled each among)

module _ (ahead : List Request) (start : Checked) (unread left held holds : Option (List ℕ)) (tally : Tally) (done : IsChecked start unread left held holds false tally)
    (begins : BeginsSettled ahead start) (none : tally.failed ≡ 0) where
  abbrev lines : List (List ℕ)
  lines = lines_of done.script

  -- none failed before the sum of the script
  told_before : (end_told done.end done.owed).after.tally.failed ≡ 0
  told_before =
      let last = (end_told done.end done.owed).after in
      (ended_on last done.end.place).passed (sym (ap (λ (t : Tally). t.failed) done.counts) ∙ none)

  fine : IsFine done.end
  fine = record {
    passed = (told_on done.end done.owed).passed told_before;
    known = not_lost (is_lost_in done.end.desk.reasons.settling) false done.lost refl;
  }

  pub passes : WantSettled lines → PassesSettled ahead start lines done.text done.end
  passes wants = record { begins = begins; wishes = wants; said = done.said; passed = fine.passed; known = fine.known }

  abbrev all : Went ahead start.desk.state [] start lines done.end
  all = went ahead start lines done.text done.end begins done.said fine

  pub lines_are : AreLinesSettled ahead start.desk.state [] start.desk.names start.desk.state lines
  lines_are = all.settled

  end_judged : done.end.score.rules.fails_if_unsettled ≡ true
  end_judged = ap (λ (r : Rules). r.fails_if_unsettled) (lines_rules lines start done.text done.end done.said) ∙ begins.judged

  end_pages : done.end.score.pages ≡ []
  end_pages = lines_pages lines start done.text done.end done.said fine ∙ begins.unreported

  pub unowed : (request : Request) → IsMade start.desk.state (newest_first start lines) request ⊎ IsAmong (map at_page ahead) request →
      IsSettledNow ahead start.desk.state (newest_first start lines) request
  unowed request made =
      let first = start.desk.state in
      let is : steps_of all.all ≡ newest_first start lines = taken_is ahead start lines done.text done.end begins done.said fine in
      subst (λ (steps : List Step). IsSettledNow ahead first steps request) is
      (settled_by ahead done.end.desk.reasons.settling first all.all done.end.desk.state (requests_of done.owed) (done.owes.0 refl) all.follows
      (ap requests_of (told_none done.end done.owed end_judged end_pages told_before)) request (subst (λ (steps : List Step). IsMade first steps request ⊎ IsAmong (map at_page ahead) request) (sym is) made))
