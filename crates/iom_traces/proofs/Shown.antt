-- Lines of which none fails: some IOMMU shows what was seen of them.
use Rattle.std.proofs.Common.{◌≡◌, ◌∙◌, ◌++◌, ◌&&◌, ◌||◌, ◌≤◌, not, ℕ, zero, suc, Bool, true, false, List, [], ◌∷◌, codes, take, replicate, Option, Some, None, refl, sym, ap, subst, inl}
use Rattle.iom_choices.specs.Systems.{IsAmong}
use Rattle.iom_choices.specs.Traces.{onward}
use Rattle.iom_choices.proofs.Lists.{among-left}
use Rattle.iom_choices.proofs.Traces.{among_mapped}
use Rattle.iom_core.specs.State.{State}
use Rattle.iom_core.specs.declared.step.Step.{Step}
use Rattle.iom_core.specs.declared.step.Step.TheVariants as step
use Rattle.iom_every.specs.Judged.{IsOneTraceAllowed}
use Rattle.iom_check.specs.Judging.{title}
use Rattle.iom_check.specs.Scoring.{Score, more, noted, one_failed, passed, quiet, with_wish, Told}
use Rattle.iom_check.specs.Wanted.{wanted}
use Rattle.iom_check.specs.declared.rules.Tally.{Tally}
use Rattle.iom_check.proofs.Scored.{GoesOn, failed_on, noted_on, one_more, picked, still}
use Rattle.iom_debug.specs.Places.{PlaceView}
use Rattle.iom_debug.specs.Telling.{slip_with}
use Rattle.iom_judge.specs.Candidates.{AreCandidates, CandidateView, IsVerdict, most_candidates}
use Rattle.iom_judge.specs.Seen.{fits_seen, unseen}
use Rattle.iom_judge.specs.Unseen.{HasTaken, up_to}
use Rattle.iom_judge.specs.declared.judge.Verdict.{Verdict}
use Rattle.iom_judge.specs.declared.judge.Verdict.TheVariants.{Allowed, Refused, Undecided}
use Rattle.iom_judge.specs.declared.possible.Possible.{Possible}
use Rattle.iom_judge.specs.declared.seen.Seen.{Seen}
use Rattle.iom_names.specs.Reading.{line_with, names_after}
use Rattle.iom_names.specs.declared.names.Binding.{Binding}
use Rattle.iom_reader.specs.Lines.{lines_of}
use Rattle.iom_reader.specs.Speaking.{Speaks}
use Rattle.iom_tool.specs.Script.{Again, Asks, Bad, Blank, DebugLine, Does, Inquires, Named, Plain, Stores}
use Rattle.iom_traces.specs.Rulings.{AreRuled, FewAnswered, FewRuled, GoesOn as Onward, Hides, IsFollowed, any_done, is_decided}
use Rattle.iom_traces.specs.Shown.{AreShown, LineShown, OneShown, PassesAll, SomeShown, behind, behind_all, hidden}
use Rattle.iom_traces.specs.Sights.{IsSight, seen_by}
use Rattle.iom_traces.specs.Trials.{IfJudged, Judged, LineSays, PlainSays, StepSays, StepsSay, TrialSays, Tried, sight_told, steps_told, stray_told}
use Rattle.iom_traces.specs.Whole.{IsTried, trying}
use Rattle.iom_traces.specs.declared.sights.Sight.{Sight}
use Rattle.iom_traces.specs.declared.sights.Sight.TheVariants.{Nothing, Saw, Unclear}

abbrev Traces : Type 0
Traces = List (List (Step × Seen))

-- no line failed, and memory wasn't refused
record IsFine (here : Tried) : Type 0 where
  passed : here.judged.score.tally.failed ≡ 0
  known : here.judged.is_lost ≡ false

-- The count of failures only grows.
passed_on : (s : Score) (place : PlaceView) (name : List ℕ) → GoesOn s (passed s place name).after
passed_on s place name = record { rules = refl; passed = λ none. none; pages = λ none. refl }

stray_on : (s : Score) (place : PlaceView) (wish : Option (List ℕ)) → GoesOn s (stray_told s place wish).after
stray_on s place None = still s
stray_on s place (Some wish) = noted_on s place (codes "what was seen is on a line that isn't one step")

steps_on : (s : Score) (place : PlaceView) (line : List ℕ) (decided : Bool) → GoesOn s (steps_told s place line decided).after
steps_on s place line true = stray_on s place (wanted line)
steps_on s place line false = failed_on s

sight_on : (s : Score) (place : PlaceView) (line : List ℕ) (wish : Option (List ℕ)) (sight : Sight) (verdict : Verdict) (allowed : List Possible) →
    GoesOn s (sight_told s place line wish sight verdict allowed).after
sight_on s place line None Nothing Allowed allowed = still s
sight_on s place line None (Saw seen) Allowed allowed = still s
sight_on s place line None Unclear Allowed allowed = still s
sight_on s place line None Nothing Refused allowed = still s
sight_on s place line None (Saw seen) Refused allowed = still s
sight_on s place line None Unclear Refused allowed = still s
sight_on s place line None Nothing Undecided allowed = failed_on s
sight_on s place line None (Saw seen) Undecided allowed = failed_on s
sight_on s place line None Unclear Undecided allowed = failed_on s
sight_on s place line (Some wish) Nothing Allowed allowed = passed_on s place (title line)
sight_on s place line (Some wish) (Saw seen) Allowed allowed = passed_on s place (title line)
sight_on s place line (Some wish) Unclear Allowed allowed = failed_on s
sight_on s place line (Some wish) Nothing Refused allowed = failed_on s
sight_on s place line (Some wish) (Saw seen) Refused allowed = failed_on s
sight_on s place line (Some wish) Unclear Refused allowed = failed_on s
sight_on s place line (Some wish) Nothing Undecided allowed = failed_on s
sight_on s place line (Some wish) (Saw seen) Undecided allowed = failed_on s
sight_on s place line (Some wish) Unclear Undecided allowed = failed_on s

-- where none failed after it, none failed before
backward : (s after told : Score) → after ≡ told → GoesOn s told → after.tally.failed ≡ 0 → s.tally.failed ≡ 0
backward s after told is on none = on.passed (sym (ap (λ (s : Score). s.tally.failed) is) ∙ none)

line_back : (hides : Bool) (place : PlaceView) (slip : List ℕ) (before : Judged) (kind : DebugLine) (line said : List ℕ) (after : Judged) →
    LineSays hides place slip before kind line said after → after.score.tally.failed ≡ 0 → before.score.tally.failed ≡ 0
line_back hides place slip before (Plain Bad) line said after h none = backward before.score after.score _ h.says.score (failed_on before.score) none
line_back hides place slip before (Plain Blank) line said after h none = backward before.score after.score _ h.says.score (stray_on before.score place (wanted line)) none
line_back hides place slip before (Plain (Asks question)) line said after h none = backward before.score after.score _ h.says.score (stray_on before.score place (wanted line)) none
line_back hides place slip before (Inquires inquiry) line said after h none = backward before.score after.score _ h.says.score (stray_on before.score place (wanted line)) none
line_back hides place slip before (Plain (Does taken)) line said after h none =
    backward before.score after.score _ h.says.score (sight_on before.score place line (wanted line) h.sight h.verdict h.allowed) none
line_back hides place slip before (Named taken) line said after h none =
    backward before.score after.score _ h.says.score (sight_on before.score place line (wanted line) h.sight h.verdict h.allowed) none
line_back hides place slip before (Again taken most) line said after h none = backward before.score after.score _ h.says.score (steps_on before.score place line h.decided) none
line_back hides place slip before (Stores steps) line said after h none = backward before.score after.score _ h.says.score (steps_on before.score place line h.decided) none

either_left : (a b : Bool) → (a || b) ≡ false → a ≡ false
either_left true b is = absurd (cc is)
either_left false b is = refl

either_right : (a b : Bool) → (a || b) ≡ false → b ≡ false
either_right true b is = absurd (cc is)
either_right false b is = is

both_left : (a b : Bool) → (a && b) ≡ true → a ≡ true
both_left true b is = refl
both_left false b is = absurd (cc is)

-- a line, where nothing was over or lost before, or was
judged_fine : (stops hides : Bool) (place : PlaceView) (slip : List ℕ) (before : Judged) (kind : DebugLine) (line said : List ℕ) (after : Judged) →
    stops ≡ (before.is_over || before.is_lost) → IfJudged stops hides place slip before kind line said after → after.score.tally.failed ≡ 0 → after.is_lost ≡ false →
    (before.score.tally.failed ≡ 0) × (before.is_lost ≡ false)
judged_fine true hides place slip before kind line said after is h none known =
    (sym (ap (λ (j : Judged). j.score.tally.failed) h.1) ∙ none, sym (ap (λ (j : Judged). j.is_lost) h.1) ∙ known)
judged_fine false hides place slip before kind line said after is h none known = (
  line_back hides place slip (record before { score = with_wish before.score line }) kind line said after (h known) none,
  either_right before.is_over before.is_lost (sym is),
)

says_fine : (before : Tried) (line said : List ℕ) (after : Tried) → TrialSays before line said after → IsFine after → IsFine before
says_fine before line said after h fine =
    let both = judged_fine (before.judged.is_over || before.judged.is_lost) before.hides after.place (slip_with before.names line) before.judged
    (line_with before.names line) line said after.judged refl h.judged fine.passed fine.known in
    record { passed = both.0; known = both.1 }

lines_fine : (lines : List (List ℕ)) (before : Tried) (text : List ℕ) (end : Tried) → Speaks trying before lines text end → IsFine end → IsFine before
lines_fine [] before text end h fine = subst IsFine h.1 fine
lines_fine (line ∷ lines) before text end h fine = says_fine before (take 513 line) h.0 h.2 h.4 (lines_fine lines h.2 h.1 end h.5 fine)

-- a step of which nothing was seen is always one of some IOMMU
unseen_allowed : (start : State) (traces : Traces) (taken : Step) → IsOneTraceAllowed [] fits_seen start traces →
    IsOneTraceAllowed [] fits_seen start (onward (taken, unseen) traces)
unseen_allowed start traces taken h = record {
  trace = (taken, unseen) ∷ h.trace;
  among = among_mapped (λ (trace : List (Step × Seen)). (taken, unseen) ∷ trace) traces h.trace h.among;
  allowed = record { chosen = (taken, record { uses = []; again = []; keeps = [] }) ∷ h.allowed.chosen; shows = (refl, refl, h.allowed.shows) };
}

first_of : (n : ℕ) (taken : Step) (traces : Traces) (trace : List (Step × Seen)) → IsAmong traces trace → IsAmong (up_to n taken traces) trace
first_of zero taken traces trace h = h
first_of (suc n) taken traces trace h = among-left traces (onward (taken, unseen) (up_to n taken traces)) trace h

undecided_fails : (s : Score) (place : PlaceView) (line : List ℕ) (wish : Option (List ℕ)) (sight : Sight) (allowed : List Possible) →
    (sight_told s place line wish sight Undecided allowed).after.tally.failed ≡ more s.tally.failed
undecided_fails s place line None Nothing allowed = refl
undecided_fails s place line None (Saw seen) allowed = refl
undecided_fails s place line None Unclear allowed = refl
undecided_fails s place line (Some wish) Nothing allowed = refl
undecided_fails s place line (Some wish) (Saw seen) allowed = refl
undecided_fails s place line (Some wish) Unclear allowed = refl

no_more : (s after told : Score) → after ≡ told → told.tally.failed ≡ more s.tally.failed → after.tally.failed ≡ 0 → ⊥
no_more s after told is one none = one_more s.tally.failed (sym one ∙ sym (ap (λ (s : Score). s.tally.failed) is) ∙ none)

neither : {a b : Bool} → a ≡ false → b ≡ false → (a || b) ≡ false
neither {a} {b} first second = ap (λ (x : Bool). x || b) first ∙ second

line_said : (before : Tried) (line said : List ℕ) (after : Tried) → (before.judged.is_over || before.judged.is_lost) ≡ false → TrialSays before line said after →
    after.judged.is_lost ≡ false → LineSays before.hides after.place (slip_with before.names line) (record before.judged { score = with_wish before.judged.score line })
    (line_with before.names line) line said after.judged
line_said before line said after stops h known =
    subst (λ (stops : Bool). IfJudged stops before.hides after.place (slip_with before.names line) before.judged (line_with before.names line) line said after.judged) stops
    h.judged known

is_refused : Verdict → Bool
is_refused Allowed = false
is_refused Refused = true
is_refused Undecided = false

-- of no step yet
none_yet : (start : State) → IsOneTraceAllowed [] fits_seen start ([] ∷ [])
none_yet start = record { trace = []; among = inl refl; allowed = record { chosen = []; shows = tt } }

module _ (start : State) (most : ℕ) (enough : most_candidates ≤ most) where
  -- what the IOMMU may be after one of these traces, of which some IOMMU shows one
  record IsGood (traces : Traces) (candidates : List CandidateView) : Type 0 where
    are : AreCandidates start traces candidates
    one : IsOneTraceAllowed [] fits_seen start traces

  hides_on : (hides : Bool) (traces : Traces) (before mid : List CandidateView) → Hides hides before true mid → AreCandidates start traces before →
      AreCandidates start (hidden hides most traces) mid
  hides_on false traces before mid h are = subst (AreCandidates start traces) (sym h.1) are
  hides_on true traces before mid h are = h start traces are most enough

  hidden_one : (hides : Bool) (traces : Traces) → IsOneTraceAllowed [] fits_seen start traces → IsOneTraceAllowed [] fits_seen start (hidden hides most traces)
  hidden_one false traces one = one
  hidden_one true traces one = record { trace = one.trace; among = first_of most step.Command traces one.trace one.among; allowed = one.allowed }

  good_hidden : (hides : Bool) (traces : Traces) (before mid : List CandidateView) → Hides hides before true mid → IsGood traces before →
      IsGood (hidden hides most traces) mid
  good_hidden hides traces before mid h good =
      record { are = hides_on hides traces before mid h good.are; one = hidden_one hides traces good.one }

  -- several steps, of which nothing was seen
  record Ran (hides : Bool) (before : Traces) (steps : List Step) (after : List CandidateView) : Type 0 where
    traces : Traces
    shown : SomeShown hides most steps before traces
    good : IsGood traces after

  none_taken : (hides : Bool) (steps : List Step) (traces : Traces) (after : List CandidateView) → IsGood traces after → Ran hides traces steps after
  none_taken hides steps traces after good = record {
    traces = traces;
    shown = record { some = []; rest = steps; are = refl; leaves = refl };
    good = good;
  }

  more_taken : (hides : Bool) (taken : Step) (steps : List Step) (traces : Traces) (after : List CandidateView) →
      Ran hides (behind hides most taken unseen traces) steps after → Ran hides traces (taken ∷ steps) after
  more_taken hides taken steps traces after ran = record {
    traces = ran.traces;
    shown = record { some = taken ∷ ran.shown.some; rest = ran.shown.rest; are = ap (λ (l : List Step). taken ∷ l) ran.shown.are; leaves = ran.shown.leaves };
    good = ran.good;
  }

  -- one of them: its verdict is none but allowed
  ruled_good : (hides : Bool) (traces : Traces) (before : List CandidateView) (taken : Step) (verdict : Verdict) (few : Bool) (mid after : List CandidateView) →
      Hides hides before few mid → FewRuled few mid taken unseen verdict after → is_decided verdict ≡ true → IsGood traces before →
      IsGood (behind hides most taken unseen traces) after
  ruled_good hides traces before taken verdict false mid after hid ruled decided good = absurd (cc (sym (ap is_decided ruled.0) ∙ decided))
  ruled_good hides traces before taken Undecided true mid after hid ruled decided good = absurd (cc decided)
  ruled_good hides traces before taken Allowed true mid after hid ruled decided good =
      let now = good_hidden hides traces before mid hid good in
      let v = ruled start (hidden hides most traces) now.are in
      record { are = v.1; one = v.0 }
  ruled_good hides traces before taken Refused true mid after hid ruled decided good =
      let now = good_hidden hides traces before mid hid good in
      let v = ruled start (hidden hides most traces) now.are in
      absurd (v.0 (unseen_allowed start (hidden hides most traces) taken now.one))

  go_on : (hides : Bool) (traces : Traces) (before : List CandidateView) (steps : List Step) (after : List CandidateView) → AreRuled hides before steps true after →
      IsGood traces before → Ran hides traces steps after
  go_on hides traces before [] after h good = none_taken hides [] traces after (subst (IsGood traces) (sym h.1) good)
  go_on hides traces before (taken ∷ steps) after h good =
      by (is_decided h.0) refl (is_decided h.0 && any_done h.1) refl h.3
      (λ rest now. go_on hides (behind hides most taken unseen traces) h.1 steps after rest now) where
        here : is_decided h.0 ≡ true → IsGood (behind hides most taken unseen traces) h.1
        here decided = ruled_good hides traces before taken h.0 h.2.0 h.2.1 h.1 h.2.2 h.2.3 decided good

        by : (decided : Bool) → is_decided h.0 ≡ decided → (on : Bool) → (is_decided h.0 && any_done h.1) ≡ on →
            Onward on (AreRuled hides h.1 steps true after) ((true ≡ is_decided h.0) × (after ≡ h.1)) →
            (AreRuled hides h.1 steps true after → IsGood (behind hides most taken unseen traces) h.1 → Ran hides (behind hides most taken unseen traces) steps after) →
            Ran hides traces (taken ∷ steps) after
        by decided is true goes rest k = more_taken hides taken steps traces after (k rest (here (both_left (is_decided h.0) (any_done h.1) goes)))
        by decided is false goes rest k =
            more_taken hides taken steps traces after (none_taken hides steps (behind hides most taken unseen traces) after
            (subst (IsGood (behind hides most taken unseen traces)) (sym rest.1) (here (sym rest.0))))

  -- a line that is one step
  record Went (hides : Bool) (taken : Step) (sight : Sight) (before : Traces) (after : Judged) : Type 0 where
    good : IsGood (behind hides most taken (seen_by sight) before) after.candidates
    over : after.is_over ≡ false

  allowed_good : (hides : Bool) (traces : Traces) (before mid after : List CandidateView) (taken : Step) (seen : Seen) → Hides hides before true mid →
      IsFollowed mid taken seen Allowed after → IsGood traces before → IsGood (behind hides most taken seen traces) after
  allowed_good hides traces before mid after taken seen hid followed good =
      let v = followed start (hidden hides most traces) (good_hidden hides traces before mid hid good).are in
      record { are = v.1; one = v.0 }

  -- one of which nothing was seen isn't refused
  unseen_refused : (hides : Bool) (traces : Traces) (before mid after : List CandidateView) (taken : Step) → Hides hides before true mid →
      IsFollowed mid taken unseen Refused after → IsGood traces before → ⊥
  unseen_refused hides traces before mid after taken hid followed good =
      let now = good_hidden hides traces before mid hid good in
      (followed start (hidden hides most traces) now.are).0 (unseen_allowed start (hidden hides most traces) taken now.one)

  step_good : (hides : Bool) (place : PlaceView) (s : Score) (before : List CandidateView) (taken : Step) (line : List ℕ) (after : Judged) (traces : Traces)
      (wish : Option (List ℕ)) (sight : Sight) → IsSight wish sight → (verdict : Verdict) (allowed : List Possible) (few : Bool) (mid : List CandidateView) →
      Hides hides before few mid → FewAnswered few mid taken sight verdict allowed after.candidates → after.is_over ≡ not (is_decided verdict) →
      after.score ≡ (sight_told s place line wish sight verdict allowed).after → after.score.tally.failed ≡ 0 → IsGood traces before →
      Went hides taken sight traces after
  step_good hides place s before taken line after traces wish sight is verdict allowed false mid hid ruled over score none good =
      absurd (no_more s after.score (sight_told s place line wish sight Undecided allowed).after
      (score ∙ ap (λ (v : Verdict). (sight_told s place line wish sight v allowed).after) ruled.0) (undecided_fails s place line wish sight allowed) none)
  step_good hides place s before taken line after traces wish sight is Undecided allowed true mid hid ruled over score none good =
      absurd (no_more s after.score (sight_told s place line wish sight Undecided allowed).after score (undecided_fails s place line wish sight allowed) none)
  step_good hides place s before taken line after traces wish sight is Allowed allowed true mid hid ruled over score none good =
      record { good = allowed_good hides traces before mid after.candidates taken (seen_by sight) hid ruled.0 good; over = over }
  step_good hides place s before taken line after traces None Nothing is Refused allowed true mid hid ruled over score none good =
      absurd (unseen_refused hides traces before mid after.candidates taken hid ruled.0 good)
  step_good hides place s before taken line after traces None (Saw seen) is Refused allowed true mid hid ruled over score none good = absurd (cc is)
  step_good hides place s before taken line after traces None Unclear is Refused allowed true mid hid ruled over score none good = absurd (cc is)
  step_good hides place s before taken line after traces (Some wish) Nothing is Refused allowed true mid hid ruled over score none good = absurd is
  step_good hides place s before taken line after traces (Some wish) (Saw seen) is Refused allowed true mid hid ruled over score none good =
      absurd (no_more s after.score (one_failed s) score refl none)
  step_good hides place s before taken line after traces (Some wish) Unclear is Refused allowed true mid hid ruled over score none good =
      absurd (no_more s after.score (one_failed s) score refl none)

  -- any line
  record Lined (hides : Bool) (kind : DebugLine) (line : List ℕ) (before : Traces) (after : Judged) : Type 0 where
    traces : Traces
    shown : LineShown hides most kind line before traces
    good : IsGood traces after.candidates
    over : after.is_over ≡ false

  plain_good : (hides : Bool) (kind : DebugLine) (line said : List ℕ) (told : Told) (before after : Judged) (traces : Traces) → PlainSays told before said after →
      LineShown hides most kind line traces traces → IsGood traces before.candidates → Lined hides kind line traces after
  plain_good hides kind line said told before after traces h shown good =
      record { traces = traces; shown = shown; good = subst (IsGood traces) (sym h.candidates) good; over = h.over }

  one_good : (hides : Bool) (place : PlaceView) (before : Judged) (taken : Step) (line said : List ℕ) (after : Judged) (traces : Traces) →
      (h : StepSays hides place before taken line said after) → after.score.tally.failed ≡ 0 → IsGood traces before.candidates → Went hides taken h.sight traces after
  one_good hides place before taken line said after traces h none good =
      step_good hides place before.score before.candidates taken line after traces (wanted line) h.sight h.is h.verdict h.allowed h.ruled.0 h.ruled.1 h.ruled.2
      h.ruled.3 h.over h.says.score none good

  several_good : (hides : Bool) (place : PlaceView) (s : Score) (before : List CandidateView) (steps : List Step) (line : List ℕ) (after : Judged) (traces : Traces)
      (decided : Bool) → AreRuled hides before steps decided after.candidates → after.score ≡ (steps_told s place line decided).after →
      after.score.tally.failed ≡ 0 → IsGood traces before → Ran hides traces steps after.candidates × (decided ≡ true)
  several_good hides place s before steps line after traces true ruled score none good = (go_on hides traces before steps after.candidates ruled good, refl)
  several_good hides place s before steps line after traces false ruled score none good = absurd (no_more s after.score (one_failed s) score refl none)

  all_good : (hides : Bool) (place : PlaceView) (before : Judged) (kind : DebugLine) (steps : List Step) (line said : List ℕ) (after : Judged) (traces : Traces) →
      (h : StepsSay hides place before steps line said after) → ((last : Traces) → SomeShown hides most steps traces last → LineShown hides most kind line traces last) →
      after.score.tally.failed ≡ 0 → IsGood traces before.candidates → Lined hides kind line traces after
  all_good hides place before kind steps line said after traces h shows none good =
      let ran = several_good hides place before.score before.candidates steps line after traces h.decided h.ruled h.says.score none good in
      record { traces = ran.0.traces; shown = shows ran.0.traces ran.0.shown; good = ran.0.good; over = h.over ∙ ap not ran.1 }

  line_good : (hides : Bool) (place : PlaceView) (slip : List ℕ) (before : Judged) (kind : DebugLine) (line said : List ℕ) (after : Judged) (traces : Traces) →
      LineSays hides place slip before kind line said after → after.score.tally.failed ≡ 0 → IsGood traces before.candidates → Lined hides kind line traces after
  line_good hides place slip before (Plain Bad) line said after traces h none good = plain_good hides (Plain Bad) line said _ before after traces h refl good
  line_good hides place slip before (Plain Blank) line said after traces h none good = plain_good hides (Plain Blank) line said _ before after traces h refl good
  line_good hides place slip before (Plain (Asks question)) line said after traces h none good =
      plain_good hides (Plain (Asks question)) line said _ before after traces h refl good
  line_good hides place slip before (Inquires inquiry) line said after traces h none good =
      plain_good hides (Inquires inquiry) line said _ before after traces h refl good
  line_good hides place slip before (Plain (Does taken)) line said after traces h none good =
      let went = one_good hides place before taken line said after traces h none good in
      record { traces = behind hides most taken (seen_by h.sight) traces; shown = record { sight = h.sight; is = h.is; leaves = refl }; good = went.good; over = went.over }
  line_good hides place slip before (Named taken) line said after traces h none good =
      let went = one_good hides place before taken line said after traces h none good in
      record { traces = behind hides most taken (seen_by h.sight) traces; shown = record { sight = h.sight; is = h.is; leaves = refl }; good = went.good; over = went.over }
  line_good hides place slip before (Again taken count) line said after traces h none good =
      all_good hides place before (Again taken count) (replicate count taken) line said after traces h (λ last shown. shown) none good
  line_good hides place slip before (Stores steps) line said after traces h none good =
      all_good hides place before (Stores steps) steps line said after traces h (λ last shown. shown) none good

  -- lines, one after the other
  record All (hides : Bool) (names : List Binding) (lines : List (List ℕ)) (before : Traces) : Type 0 where
    traces : Traces
    shown : AreShown hides most names lines before traces
    one : IsOneTraceAllowed [] fits_seen start traces

  go : (lines : List (List ℕ)) (before : Tried) (text : List ℕ) (end : Tried) (traces : Traces) → Speaks trying before lines text end → IsFine end →
      before.judged.is_over ≡ false → IsGood traces before.judged.candidates → All before.hides before.names lines traces
  go [] before text end traces h fine over good = record { traces = traces; shown = refl; one = good.one }
  go (text ∷ lines) before told end traces h fine over good =
      let line = take 513 text in
      let mid : Tried = h.2 in
      let here : IsFine mid = lines_fine lines mid h.1 end h.5 fine in
      let stops : (before.judged.is_over || before.judged.is_lost) ≡ false = neither over (says_fine before line h.0 mid h.4 here).known in
      let says = line_said before line h.0 mid stops h.4 here.known in
      let now = line_good before.hides mid.place (slip_with before.names line) (record before.judged { score = with_wish before.judged.score line })
      (line_with before.names line) line h.0 mid.judged traces says here.passed good in
      let rest = go lines mid h.1 end now.traces h.5 fine now.over now.good in
      record {
        traces = rest.traces;
        shown = (
          now.traces,
          now.shown,
          subst (λ (names : List Binding). AreShown before.hides most names lines now.traces rest.traces) h.4.names
              (subst (λ (hides : Bool). AreShown hides most mid.names lines now.traces rest.traces) h.4.hides rest.shown),
        );
        one = rest.one;
      }

  pub all_shown : (lines : List (List ℕ)) (begin : Tried) (text : List ℕ) (end : Tried) → AreCandidates start ([] ∷ []) begin.judged.candidates →
      PassesAll begin lines text end → (traces : Traces) × AreShown begin.hides most begin.names lines ([] ∷ []) traces × IsOneTraceAllowed [] fits_seen start traces
  all_shown lines begin text end are h =
      let all = go lines begin text end ([] ∷ []) h.said (record { passed = h.passed; known = h.known }) h.goes_on (record { are = are; one = none_yet start }) in
      (all.traces, all.shown, all.one)

  -- a step that is refused
  pub none_shows : (traces : Traces) (hides : Bool) (place : PlaceView) (before after : Judged) (taken : Step) (line said : List ℕ)
      (one : StepSays hides place before taken line said after) → AreCandidates start traces before.candidates → one.verdict ≡ Refused →
      IsOneTraceAllowed [] fits_seen start (behind hides most taken (seen_by one.sight) traces) → ⊥
  none_shows traces hides place before after taken line said one are is =
      refused one.ruled.0 one.ruled.1 one.ruled.2 one.ruled.3 where
        refused : (few : Bool) (mid : List CandidateView) → Hides hides before.candidates few mid → FewAnswered few mid taken one.sight one.verdict one.allowed after.candidates →
            IsOneTraceAllowed [] fits_seen start (behind hides most taken (seen_by one.sight) traces) → ⊥
        refused false mid hid ruled shown = absurd (cc (sym (ap is_refused is) ∙ ap is_refused ruled.0))
        refused true mid hid ruled shown =
            let v = ruled.0 start (hidden hides most traces) (hides_on hides traces before.candidates mid hid are) in
            (subst (λ (verdict : Verdict). IsVerdict start (hidden hides most traces) (taken, seen_by one.sight) verdict mid after.candidates) is v).0 shown

-- a whole trace
pub passes_all : (begin : Tried) (unread left held holds : Option (List ℕ)) (tally : Tally) (done : IsTried begin unread left held holds false tally) →
    begin.judged.is_over ≡ false → tally.failed ≡ 0 → PassesAll begin (lines_of done.script) done.text done.end
passes_all begin unread left held holds tally done over none =
    let s : Score = done.end.judged.score in
    record {
      goes_on = over;
      said = done.said;
      passed = (picked s s.has_wish (quiet s) (noted s done.end.place (codes "no line has a wish")) (still s)
          (noted_on s done.end.place (codes "no line has a wish"))).passed (sym (ap (λ (t : Tally). t.failed) done.counts) ∙ none);
      known = sym done.lost;
    }
