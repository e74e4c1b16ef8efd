-- What is told of lines.
use Rattle.std.proofs.Common.{◌≡◌, ◌+◌, ◌++◌, ◌||◌, ℕ, Bool, false, List, [], take, codes, Option, Result, Ok, Err, OnOk, OnErr, ◌∙◌, ap, subst, sym, refl, append_assoc}
use Rattle.std.specs.Io.KnownBytes.{Appends}
use Rattle.std.proofs.KnownBytes.{Appends-trans}
use Rattle.std.proofs.lemmas.Bool.{or_parts}
use Rattle.iom_reader.specs.Answering.{Progress, AnswersNext, IsAnswering}
use Rattle.iom_reader.specs.Running.{Ends, WritesFront}
use Rattle.iom_reader.specs.declared.fault.RunFault.{RunFault}
use Rattle.iom_reader.proofs.Chains.{spoken, broken, lawful as by_lines_lawful}
use Rattle.iom_core.specs.declared.access.Request.{Request}
use Rattle.iom_debug.specs.Summary.{up_to_64_bits}
use Rattle.iom_debug.specs.Taking.{Desk}
use Rattle.iom_debug.specs.Telling.{IsAnswer, IsNamedBy, Leaves, slip_with}
use Rattle.iom_debug.specs.Settling.{beside_in, unsettled_in}
use Rattle.iom_check.specs.Checking.{Checked, CheckBreaks, CheckSays, IsChecked, LineSays, by_check, checking, closing, TellsOwed, end_told, line_told, looks_behind, places_by, places_if, places_told, told_at}
use Rattle.iom_check.specs.Judging.{IsBesideTold, IsStaleTold, IsUnsettledTold, stale_request, told_request, unsettled_request}
use Rattle.iom_check.specs.Owing.{owed_if}
use Rattle.iom_debug.specs.Marks.{MarksView, place_of}
use Rattle.iom_debug.specs.Places.{PlaceView}
use Rattle.iom_check.specs.Scoring.{Score, Told, ended, judged, noted, remarked, with_wish}
use Rattle.iom_check.specs.declared.rules.Tally.{Tally}

pub lawful : IsAnswering by_check
lawful = by_lines_lawful checking

-- `score` is the one behind the places, `console` the last one with it
pub checked : (unread left : Option (List ℕ)) (old new : Progress Checked) (mid told holds : Option (List ℕ)) (is_lost : Bool) (tally : Tally)
    (score after : Score) (marks : MarksView) → marks ≡ new.console.desk.marks →
    Ends by_check unread left old new (Ok tt) → Appends new.written mid (places_told new.console).said →
    score ≡ (places_told new.console).after → TellsOwed (record new.console { score = score }) is_lost mid told after →
    Appends told holds (closing (ended after new.console.place)) → tally ≡ (ended after new.console.place).after.tally →
    IsChecked old.console unread left old.written holds (is_lost || marks.is_lost) tally
checked unread left old new mid told holds is_lost tally score after marks same h placed scored owing wrote is =
    let end = new.console in
    let places = places_told end in
    let rest = λ (s : Score). owed_if end.place s owing.owed in
    let left_is : after ≡ (end_told end owing.owed).after = owing.left ∙ ap (λ (s : Score). (rest s).after) scored in
    record {
      script = h.text;
      took = h.took;
      all = h.all;
      within = h.within;
      text = h.answered.text;
      end = end;
      said = h.answered.said;
      owed = owing.owed;
      owes = (λ known. owing.owes.0 (or_parts is_lost marks.is_lost known).0, owing.owes.1);
      lost = λ lost. ap (λ b. b || marks.is_lost) (owing.lost lost);
      placed = λ known. ap (λ (m : MarksView). m.is_lost) (sym same) ∙ (or_parts is_lost marks.is_lost known).1;
      written = Appends-trans _ _ _ _ _ h.answered.written
          (Appends-trans _ _ _ _ _
          (Appends-trans _ _ _ _ _ placed (subst (λ (s : Score). Appends mid told (rest s).said) scored owing.written))
          (subst (λ (s : Score). Appends told holds (closing (ended s end.place))) left_is wrote));
      counts = is ∙ ap (λ (s : Score). (ended s end.place).after.tally) left_is;
    }

pub line_says : (before : Checked) (after : Desk) (line said answer slip tables elsewhere beside : List ℕ) (first second owed : Option Request) (number : ℕ)
    (place : PlaceView) (score : Score) → number ≡ up_to_64_bits (before.number + 1) → place ≡ place_of before.desk.marks number →
    Leaves before.desk line number after → IsAnswer before.desk line answer →
    slip ≡ slip_with before.desk.names line → IsStaleTold (places_by before.desk) before.score.rules.fails_if_stale after.reasons.stale tables →
    IsUnsettledTold (places_by before.desk) before.score.rules.fails_if_unsettled after.reasons.last_invalidation (unsettled_in after.reasons.settling) elsewhere →
    IsBesideTold (places_by before.desk) before.score.rules.fails_if_unsettled (beside_in after.reasons.settling) beside →
    first ≡ stale_request before.score.rules.fails_if_stale after.reasons.stale → IsNamedBy before.desk line answer owed →
    second ≡ told_request (unsettled_request before.score.rules.fails_if_unsettled (unsettled_in after.reasons.settling)) owed →
    said ≡ (line_told before.score place line answer slip tables elsewhere beside after.reasons.has_ignored first second).said →
    score ≡ (line_told before.score place line answer slip tables elsewhere beside after.reasons.has_ignored first second).after →
    LineSays before line said (record { desk = after; number = number; place = place; score = score })
line_says before after line said answer slip tables elsewhere beside first second owed number place score count known left is why stale unsettled other one named two told scored =
    let of = λ (w : List ℕ) (a b : Option Request). line_told before.score place line answer w tables elsewhere beside after.reasons.has_ignored a b in
    let own = slip_with before.desk.names line in
    let asked = stale_request before.score.rules.fails_if_stale after.reasons.stale in
    let all : of slip first second ≡ told_at before place line answer tables elsewhere beside after.reasons owed =
    ap (λ w. of w first second) why ∙ ap (λ a. of own a second) one ∙ ap (λ b. of own asked b) two in
    record {
      number = count;
      placed = known;
      left = left;
      answer = answer;
      answered = is;
      tables = tables;
      stale = stale;
      elsewhere = elsewhere;
      unsettled = unsettled;
      beside = beside;
      other = other;
      owed = owed;
      named = named;
      text = told ∙ ap (λ (t : Told). t.said) all;
      score = scored ∙ ap (λ (t : Told). t.after) all;
    }

-- all but the score is the same
pub record IsAlike (a b : Checked) : Type 0 where
  pub desk : a.desk ≡ b.desk
  pub number : a.number ≡ b.number
  pub place : a.place ≡ b.place

with_score : (a b : Checked) (score : Score) → IsAlike a b → record a { score = score } ≡ record b { score = score }
with_score a b score alike = rw (alike.desk, alike.number, alike.place) refl

alike_itself : (a : Checked) → IsAlike a a
alike_itself a = record { desk = refl; number = refl; place = refl }

-- a line is told, and the places behind it
both_say : (before mid after : Checked) (line first : List ℕ) (looks : Bool) → LineSays before line first mid → looks ≡ looks_behind before line →
    IsAlike after mid → CheckSays before line (first ++ (places_if looks mid).said) (record after { score = (places_if looks mid).after })
both_say before mid after line first looks alone is alike = record {
  first = first;
  mid = mid;
  alone = alone;
  text = ap (λ b. first ++ (places_if b mid).said) is;
  left = with_score after mid (places_if looks mid).after alike ∙ ap (λ b. record mid { score = (places_if b mid).after }) is;
}

-- without places the score is that of the line
none_added : (before mid : Checked) (line : List ℕ) (looks : Bool) → looks ≡ looks_behind before line → looks_behind before line ≡ false →
    mid.score ≡ (places_if looks mid).after
none_added before mid line looks is none = ap (λ b. (places_if b mid).after) (sym (is ∙ none))

-- the line's own text is written, and the places are told or a write failed within them
pub told_behind : (line kept first : List ℕ) (looks : Bool) (old new : Progress Checked) (mid : Checked) (b : Option (List ℕ))
    (result : Result (Unit {0}) RunFault) → kept ≡ take 513 line → LineSays old.console kept first mid → looks ≡ looks_behind old.console kept →
    Appends old.written b first → OnOk result (Appends b new.written (places_if looks mid).said) →
    OnErr result (WritesFront b new.written (places_if looks mid).said) → OnOk result (new.console.score ≡ (places_if looks mid).after) →
    (looks ≡ false → new.console.score ≡ mid.score) → IsAlike new.console mid →
    AnswersNext by_check line old new result
told_behind line kept first looks old new mid b (Ok done) cut alone is wrote more front score same alike =
    let text = first ++ (places_if looks mid).said in
    let says : CheckSays old.console kept text new.console =
    subst (λ (s : Score). CheckSays old.console kept text (record new.console { score = s })) (sym score)
    (both_say old.console mid new.console kept first looks alone is alike) in
    spoken checking line text old new (subst (λ l. CheckSays old.console l text new.console) cut says) (Appends-trans _ _ _ _ _ wrote more)
told_behind line kept first looks old new mid b (Err f) cut alone is wrote more front score same alike =
    let breaks : CheckBreaks old.console kept (first ++ front.front) new.console = record {
      text = first ++ (places_if looks mid).said;
      rest = front.rest;
      score = (places_if looks mid).after;
      whole = append_assoc first front.front front.rest ∙ ap (λ t. first ++ t) front.whole;
      said = both_say old.console mid new.console kept first looks alone is alike;
      same = λ none. same (is ∙ none) ∙ none_added old.console mid kept looks is none;
    } in
    broken checking line (first ++ front.front) f old new (subst (λ l. CheckBreaks old.console l (first ++ front.front) new.console) cut breaks)
    (Appends-trans _ _ _ _ _ wrote front.written)

-- a write failed within the line's own text
pub breaks_alone : (line kept first : List ℕ) (old new : Progress Checked) (f : RunFault) → kept ≡ take 513 line →
    LineSays old.console kept first new.console → WritesFront old.written new.written first → AnswersNext by_check line old new (Err f)
breaks_alone line kept first old new f cut alone front =
    let looks = looks_behind old.console kept in
    let places = (places_if looks new.console).said in
    let breaks : CheckBreaks old.console kept front.front new.console = record {
      text = first ++ places;
      rest = front.rest ++ places;
      score = (places_if looks new.console).after;
      whole = sym (append_assoc front.front front.rest places) ∙ ap (λ t. t ++ places) front.whole;
      said = both_say old.console new.console new.console kept first looks alone refl (alike_itself new.console);
      same = none_added old.console new.console kept looks refl;
    } in
    broken checking line front.front f old new (subst (λ l. CheckBreaks old.console l front.front new.console) cut breaks) front.written

-- a line is judged, and then its remark is told
pub told_line : (s mid after : Score) (place : PlaceView) (line answer slip tables elsewhere beside empty begun all : List ℕ)
    (ignored : Bool) (first second : Option Request) → empty ≡ [] →
    begun ≡ empty ++ (judged s place line answer slip tables elsewhere first second).said →
    mid ≡ (judged s place line answer slip tables elsewhere first second).after →
    all ≡ begun ++ (remarked mid place line answer beside ignored).said → after ≡ with_wish (remarked mid place line answer beside ignored).after line →
    (all ≡ (line_told s place line answer slip tables elsewhere beside ignored first second).said)
    × (after ≡ (line_told s place line answer slip tables elsewhere beside ignored first second).after)
told_line s mid after place line answer slip tables elsewhere beside empty begun all ignored first second none one moved two ended =
    let own = judged s place line answer slip tables elsewhere first second in (
      two ∙ ap (λ m. begun ++ (remarked m place line answer beside ignored).said) moved
          ∙ ap (λ p. p ++ (remarked own.after place line answer beside ignored).said) (one ∙ ap (λ p. p ++ own.said) none),
      ended ∙ ap (λ m. with_wish (remarked m place line answer beside ignored).after line) moved,
    )

pub ended_noted : (s : Score) (place : PlaceView) → s.has_wish ≡ false → ended s place ≡ noted s place (codes "no line has a wish")
ended_noted s place none = rw none refl
