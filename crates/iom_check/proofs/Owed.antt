-- Owed requests that are told one after the other.
use Rattle.std.proofs.Common.{◌≡◌, ◌+◌, ◌<◌, ◌≤◌, ◌++◌, ◌∙◌, ℕ, suc, Bool, true, false, List, [], ◌∷◌, Option, Some, None, if◌then◌else◌, length, drop, get_or, drop-cons, drop_of_length-le, sym, ap, subst, refl, append_assoc, append-nil, arith}
use Rattle.std.specs.Io.KnownBytes.{Appends}
use Rattle.std.proofs.KnownBytes.{Appends-nil, Appends-trans}
use Rattle.iom_owed.specs.declared.settling.Owed.{Owed}
use Rattle.iom_core.specs.State.{State}
use Rattle.iom_owed.specs.Settled.{read_number}
use Rattle.iom_debug.specs.Invalidations.{invalidation_text}
use Rattle.iom_debug.specs.Places.{IsNamedIf, IsPlaceOf, PlaceView, line_named, own}
use Rattle.iom_debug.specs.Settling.{AreOwedBy, SettlingView}
use Rattle.iom_debug.specs.declared.invalidations.Invalidation.{Invalidation}
use Rattle.iom_check.specs.Checking.{Checked, StaysLost, TellsOwed, places_by}
use Rattle.iom_check.specs.Owing.{AreReports, IsReport, OwedReport, TellsAll, TellsIf, TellsOne, all_owed, owed_at, owed_if, requests_of}
use Rattle.iom_check.specs.Scoring.{Score, Told, quiet}
use Rattle.iom_check.proofs.Looks.{behind}

-- of these requests those before place i were told
pub record TellsOn (known : Option (ℕ → PlaceView)) (last : Option Invalidation) (place : PlaceView) (all : List Owed) (start now : Score) (i : ℕ) (old new : Option (List ℕ)) :
    Type 0 where
  pub reports : List OwedReport
  pub are : requests_of reports ++ drop i all ≡ all
  pub named : AreReports known last reports
  pub wrote : Appends old new (all_owed place start reports).said
  pub left : now ≡ (all_owed place start reports).after

one_more : (place : PlaceView) (s : Score) (reports : List OwedReport) (last : OwedReport) →
    all_owed place s (reports ++ last ∷ []) ≡ behind (all_owed place s reports).said (owed_at (all_owed place s reports).after place last)
unfolding all_owed
one_more place s [] last =
    let first = owed_at s place last in ap (λ l. record { said = l; after = first.after }) (append-nil first.said)
one_more place s (report ∷ more) last =
    let first = owed_at s place report in
    let rest = all_owed place first.after more in
    let end = owed_at rest.after place last in
    ap (behind first.said) (one_more place first.after more last)
    ∙ ap (λ l. record { said = l; after = end.after }) (sym (append_assoc first.said rest.said end.said))

requests_more : (reports : List OwedReport) (last : OwedReport) → requests_of (reports ++ last ∷ []) ≡ requests_of reports ++ last.owed ∷ []
requests_more [] last = refl
requests_more (report ∷ more) last = ap (λ l. report.owed ∷ l) (requests_more more last)

named_more : (known : Option (ℕ → PlaceView)) (newest : Option Invalidation) (reports : List OwedReport) (last : OwedReport) → AreReports known newest reports →
    IsReport known newest last → AreReports known newest (reports ++ last ∷ [])
named_more known newest [] last named own = (own, tt)
named_more known newest (report ∷ more) last named own = (named.0, named_more known newest more last named.1 own)

module _ (known : Option (ℕ → PlaceView)) (newest : Option Invalidation) (place : PlaceView) (all : List Owed) where
  pub begins : (s : Score) (a : Option (List ℕ)) → TellsOn known newest place all s s 0 a a
  unfolding all_owed
  begins s a = record {
    reports = [];
    are = refl;
    named = tt;
    wrote = Appends-nil a;
    left = refl;
  }

  one_less : (reports : List OwedReport) (last : OwedReport) (i : ℕ) (each : Owed) → last.owed ≡ each → i < length all → each ≡ get_or all i each →
      requests_of reports ++ drop i all ≡ all → requests_of (reports ++ last ∷ []) ++ drop (i + 1) all ≡ all
  one_less reports last i each is lt at are =
      let one : suc i ≡ i + 1 = omega arith in
      let split : drop i all ≡ each ∷ drop (i + 1) all =
      drop-cons all i each lt ∙ ap (λ (o : Owed). o ∷ drop (suc i) all) (sym at) ∙ ap (λ k. each ∷ drop k all) one in
      ap (λ l. l ++ drop (i + 1) all) (requests_more reports last)
      ∙ append_assoc (requests_of reports) (last.owed ∷ []) (drop (i + 1) all)
      ∙ ap (λ (o : Owed). requests_of reports ++ o ∷ drop (i + 1) all) is
      ∙ ap (λ l. requests_of reports ++ l) (sym split) ∙ are

  pub goes_on : (start now next : Score) (i : ℕ) (each : Owed) (a b c : Option (List ℕ)) → TellsOn known newest place all start now i a b → i < length all →
      each ≡ get_or all i each → TellsOne known newest now place each b c next → TellsOn known newest place all start next (i + 1) a c
  goes_on start now next i each a b c so_far lt at one =
      let last = one.report in
      let before = all_owed place start so_far.reports in
      let step : all_owed place start (so_far.reports ++ last ∷ []) ≡ behind before.said (owed_at before.after place last) =
      one_more place start so_far.reports last in
      record {
        reports = so_far.reports ++ last ∷ [];
        are = one_less so_far.reports last i each one.is lt at so_far.are;
        named = named_more known newest so_far.reports last so_far.named one.named;
        wrote = subst (λ (t : Told). Appends a c t.said) (sym step)
            (Appends-trans _ _ _ _ _ so_far.wrote (subst (λ (s : Score). Appends b c (owed_at s place last).said) so_far.left one.written));
        left = one.left ∙ ap (λ (s : Score). (owed_at s place last).after) so_far.left ∙ ap (λ (t : Told). t.after) (sym step);
      }

  pub finishes : (start now : Score) (i : ℕ) (a b : Option (List ℕ)) → TellsOn known newest place all start now i a b → length all ≤ i →
      TellsAll known newest start place all a b now
  finishes start now i a b so_far over =
      let none : drop i all ≡ [] = drop_of_length-le all over in
      record {
        reports = so_far.reports;
        are = sym (append-nil (requests_of so_far.reports)) ∙ ap (λ l. requests_of so_far.reports ++ l) (sym none) ∙ so_far.are;
        named = so_far.named;
        written = so_far.wrote;
        left = so_far.left;
      }

-- names that there are, where nothing is told
abbrev a_place : Option (ℕ → PlaceView) → ℕ → PlaceView
a_place None number = own number
a_place (Some place_of) number = place_of number

is_place : (known : Option (ℕ → PlaceView)) (number : ℕ) → IsPlaceOf known number (a_place known number)
is_place None number = tt
is_place (Some place_of) number = refl

abbrev a_name : Option (ℕ → PlaceView) → Option ℕ → Option (List ℕ)
a_name known None = None
a_name known (Some number) = Some (line_named (a_place known number))

is_name : (known : Option (ℕ → PlaceView)) (number : Option ℕ) → IsNamedIf known number (a_name known number)
is_name known None = refl
is_name known (Some number) = (line_named (a_place known number), (a_place known number, is_place known number, refl), refl)

abbrev a_report : Option (ℕ → PlaceView) → Option Invalidation → Owed → OwedReport
a_report known last owed = record {
  owed = owed;
  made_in = line_named (a_place known owed.made.number);
  read_in = a_name known (read_number owed.unsettled.serving);
  behind = invalidation_text (λ number. line_named (a_place known number)) last owed.unsettled.serving;
}

abbrev some_reports : Option (ℕ → PlaceView) → Option Invalidation → List Owed → List OwedReport
some_reports known last [] = []
some_reports known last (owed ∷ more) = a_report known last owed ∷ some_reports known last more

same_requests : (known : Option (ℕ → PlaceView)) (last : Option Invalidation) (owed : List Owed) → requests_of (some_reports known last owed) ≡ owed
same_requests known last [] = refl
same_requests known last (owed ∷ more) = ap (λ l. owed ∷ l) (same_requests known last more)

are_reports : (known : Option (ℕ → PlaceView)) (last : Option Invalidation) (owed : List Owed) → AreReports known last (some_reports known last owed)
are_reports known last [] = tt
are_reports known last (owed ∷ more) = (
  (
    (a_place known owed.made.number, is_place known owed.made.number, refl),
    is_name known (read_number owed.unsettled.serving),
    (λ number. line_named (a_place known number), λ number. (a_place known number, is_place known number, refl), refl),
  ),
  are_reports known last more,
)

if_true : (b : Bool) (x y : Told) → b ≡ true → (if b then x else y) ≡ x
if_true true x y is = refl
if_true false x y is = absurd (cc is)

if_false : (b : Bool) (x y : Told) → b ≡ false → (if b then x else y) ≡ y
if_false false x y is = refl
if_false true x y is = absurd (cc is)

pub told_all : (known : Option (ℕ → PlaceView)) (last : Option Invalidation) (s : Score) (place : PlaceView) (owed : List Owed) (a b : Option (List ℕ)) (after : Score) →
    s.rules.fails_if_unsettled ≡ true → TellsAll known last s place owed a b after → TellsIf known last s place owed a b after
told_all known last s place owed a b after judged h =
    let is : owed_if place s h.reports ≡ all_owed place s h.reports =
    if_true s.rules.fails_if_unsettled (all_owed place s h.reports) (quiet s) judged in
    record {
      reports = h.reports;
      are = h.are;
      named = h.named;
      written = subst (λ (t : Told). Appends a b t.said) (sym is) h.written;
      left = h.left ∙ ap (λ (t : Told). t.after) (sym is);
    }

pub untold : (known : Option (ℕ → PlaceView)) (last : Option Invalidation) (s : Score) (place : PlaceView) (owed : List Owed) (a : Option (List ℕ)) →
    s.rules.fails_if_unsettled ≡ false → TellsIf known last s place owed a a s
untold known last s place owed a judged =
    let reports = some_reports known last owed in
    let is : owed_if place s reports ≡ quiet s = if_false s.rules.fails_if_unsettled (all_owed place s reports) (quiet s) judged in
    record {
      reports = reports;
      are = same_requests known last owed;
      named = are_reports known last owed;
      written = subst (λ (t : Told). Appends a a t.said) (sym is) (Appends-nil a);
      left = ap (λ (t : Told). t.after) (sym is);
    }

-- what is owed is told
pub owed_told : (end : Checked) (is_lost : Bool) (owed : List Owed) (a b : Option (List ℕ)) (after : Score) →
    AreOwedBy end.desk.reasons.settling end.desk.state owed → StaysLost end is_lost → TellsIf (places_by end.desk) end.desk.reasons.last_invalidation end.score end.place owed a b after →
    TellsOwed end is_lost a b after
owed_told end is_lost owed a b after owes lost h = record {
  owed = h.reports;
  owes = (λ known. subst (AreOwedBy end.desk.reasons.settling end.desk.state) (sym h.are) owes, h.named);
  lost = lost;
  written = h.written;
  left = h.left;
}

either : (b : Bool) (t : Told) → (if b then t else t) ≡ t
either true t = refl
either false t = refl

none_said : (place : PlaceView) (s : Score) → owed_if place s [] ≡ quiet s
unfolding all_owed
none_said place s = either s.rules.fails_if_unsettled (quiet s)

none_owed : (settling : Option SettlingView) (state : State) → settling ≡ None → AreOwedBy settling state []
none_owed None state is = refl
none_owed (Some settling) state is = absurd (cc is)

-- where nothing is asked
pub none_told : (end : Checked) (is_lost : Bool) (a : Option (List ℕ)) → (is_lost ≡ false → end.desk.reasons.settling ≡ None) →
    StaysLost end is_lost → TellsOwed end is_lost a a end.score
none_told end is_lost a none lost =
    let is : owed_if end.place end.score [] ≡ quiet end.score = none_said end.place end.score in
    record {
      owed = [];
      owes = (λ known. none_owed end.desk.reasons.settling end.desk.state (none known), tt);
      lost = lost;
      written = subst (λ (t : Told). Appends a a t.said) (sym is) (Appends-nil a);
      left = ap (λ (t : Told). t.after) (sym is);
    }
