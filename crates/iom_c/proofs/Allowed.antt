-- A line that passes was allowed: one that fails is told.
use Rattle.std.proofs.Common.{◌≡◌, ℕ, Bool, true, false, List, [], ◌∷◌, ◌++◌, Option, Some, refl, sym, ap, inl, inr, ◌∙◌}
use Rattle.std.specs.Prelude.{◌||◌, not}
use Rattle.iom_check.specs.Reporting.{failed_told, headed, junit_test}
use Rattle.iom_check.specs.Scoring.{Score, with_wish}
use Rattle.iom_check.specs.Wanted.{wanted}
use Rattle.iom_check.specs.declared.rules.Style.{Style}
use Rattle.iom_check.specs.declared.rules.Style.TheVariants as style
use Rattle.iom_core.specs.declared.step.Step.{Step}
use Rattle.iom_debug.specs.Places.{PlaceView}
use Rattle.iom_debug.specs.Telling.{slip_with}
use Rattle.iom_judge.specs.Candidates.{CandidateView}
use Rattle.iom_judge.specs.declared.judge.Verdict.{Verdict}
use Rattle.iom_judge.specs.declared.judge.Verdict.TheVariants.{Allowed, Refused, Undecided}
use Rattle.iom_judge.specs.declared.possible.Possible.{Possible}
use Rattle.iom_judge.specs.declared.seen.Seen.{Seen}
use Rattle.iom_names.specs.Reading.{line_with}
use Rattle.iom_tool.specs.Script.{DebugLine}
use Rattle.iom_traces.specs.Rulings.{IsAnswered, is_decided}
use Rattle.iom_traces.specs.Sights.{IsSight}
use Rattle.iom_traces.specs.Trials.{IfJudged, Judged, LineSays, StepSays, Tried, sight_told}
use Rattle.iom_traces.specs.declared.sights.Sight.{Sight}
use Rattle.iom_traces.specs.declared.sights.Sight.TheVariants.{Nothing, Saw, Unclear}
use Rattle.iom_c.specs.Faults.{ok}
use Rattle.iom_c.specs.Trials.{IsAllowedLine, IsLineJudged, IsNumbered, IsStep}

ends : (text : List ℕ) (c : ℕ) → [] ≡ text ++ c ∷ [] → ⊥
ends [] c is = absurd (cc is)
ends (d ∷ text) c is = absurd (cc is)

-- what is told of a failure isn't empty
fails : (how : Style) (number : ℕ) (name : Option (List ℕ)) (place : PlaceView) (title message : List ℕ) → [] ≡ failed_told how number name place title message → ⊥
unfolding junit_test
fails style.Text number name place title message is = ends (headed name place message) 10 is
fails style.Tap number name place title message is = absurd (cc is)
fails style.Junit number name place title message is = absurd (cc is)

-- so a step's line of which nothing is told, though something was seen, is allowed
passes : (s : Score) (place : PlaceView) (line wish : List ℕ) (sight : Sight) (verdict : Verdict) (possible : List Possible) → IsSight (Some wish) sight →
    false ≡ not (is_decided verdict) → [] ≡ (sight_told s place line (Some wish) sight verdict possible).said → (verdict ≡ Allowed) × ((seen : Seen) × (sight ≡ Saw seen))
passes s place line wish sight Undecided possible is over said = absurd (cc over)
passes s place line wish Nothing Allowed possible is over said = absurd is
passes s place line wish (Saw seen) Allowed possible is over said = (refl, (seen, refl))
passes s place line wish Unclear Allowed possible is over said = absurd (fails s.rules.style _ s.name place _ _ said)
passes s place line wish Nothing Refused possible is over said = absurd is
passes s place line wish (Saw seen) Refused possible is over said = absurd (fails s.rules.style _ s.name place _ _ said)
passes s place line wish Unclear Refused possible is over said = absurd (fails s.rules.style _ s.name place _ _ said)

-- the number 0
zero_of : (lost was_over is_over : Bool) (said : List ℕ) → IsNumbered lost was_over is_over said ok →
    (lost ≡ false) × ((was_over ≡ false) × ((is_over ≡ false) × (said ≡ [])))
zero_of true was_over is_over said is = absurd (cc is)
zero_of false true is_over said is = absurd (cc is)
zero_of false false true said is = absurd (cc is)
zero_of false false false [] is = (refl, (refl, (refl, refl)))
zero_of false false false (c ∷ said) (inl is) = absurd (cc is)
zero_of false false false (c ∷ said) (inr is) = absurd (cc is)

-- where memory isn't refused behind a line, and it wasn't over before, it was judged
judged_line : (over lost hides : Bool) (place : PlaceView) (slip : List ℕ) (before : Judged) (kind : DebugLine) (line said : List ℕ) (after : Judged) →
    IfJudged (over || lost) hides place slip before kind line said after → over ≡ false → before.is_lost ≡ lost → after.is_lost ≡ false →
    LineSays hides place slip (record before { score = with_wish before.score line }) kind line said after
judged_line true lost hides place slip before kind line said after judged none is known = absurd (cc none)
judged_line false true hides place slip before kind line said after judged none is known =
    let wrong : false ≡ true = sym known ∙ (ap (λ (j : Judged). j.is_lost) judged.1 ∙ is) in absurd (cc wrong)
judged_line false false hides place slip before kind line said after judged none is known = judged known

-- of what was seen, by this verdict
answered_of : (hides : Bool) (before after : List CandidateView) (taken : Step) (wish : Option (List ℕ)) (sight : Sight) (verdict : Verdict) (possible : List Possible)
    (seen : Seen) → IsSight wish sight → IsAnswered hides before taken sight verdict possible after → sight ≡ Saw seen → verdict ≡ Allowed →
    IsSight wish (Saw seen) × IsAnswered hides before taken (Saw seen) Allowed possible after
answered_of hides before after taken wish sight verdict possible seen is ruled same may = (rw same at is, rw (same, may) at ruled)

-- of one step
of_step : (hides : Bool) (place : PlaceView) (before : Judged) (taken : Step) (line wish said : List ℕ) (after : Judged) →
    StepSays hides place before taken line said after → wanted line ≡ Some wish → after.is_over ≡ false → said ≡ [] →
    (seen : Seen) × (IsSight (wanted line) (Saw seen) × ((possible : List Possible) × IsAnswered hides before.candidates taken (Saw seen) Allowed possible after.candidates))
of_step hides place before taken line wish said after says is over none =
    let passed = passes before.score place line wish says.sight says.verdict says.allowed (rw is at says.is) (sym over ∙ says.over)
    (sym none ∙ rw is at says.says.text) in
    let found = answered_of hides before.candidates after.candidates taken (wanted line) says.sight says.verdict says.allowed passed.1.0 says.is says.ruled
    passed.1.1 passed.0 in
    (passed.1.0, (found.0, (says.allowed, found.1)))

-- as the one or the other kind of a line
step_of : (hides : Bool) (place : PlaceView) (slip : List ℕ) (before : Judged) (kind : DebugLine) (taken : Step) (line said : List ℕ) (after : Judged) →
    LineSays hides place slip before kind line said after → IsStep kind taken → StepSays hides place before taken line said after
step_of hides place slip before kind taken line said after says (inl is) = rw is at says
step_of hides place slip before kind taken line said after says (inr is) = rw is at says

pub allowed : (before after : Tried) (line said wish : List ℕ) (taken : Step) → IsLineJudged before line said after ok →
    IsStep (line_with before.names line) taken → wanted line ≡ Some wish → IsAllowedLine before line taken after
allowed before after line said wish taken judged step is =
    let zero = zero_of after.judged.is_lost before.judged.is_over after.judged.is_over said judged.number in
    let says = judged_line before.judged.is_over before.judged.is_lost before.hides after.place (slip_with before.names line) before.judged
    (line_with before.names line) line said after.judged judged.says.judged zero.1.0 refl zero.0 in
    let found = of_step before.hides after.place _ taken line wish said after.judged
    (step_of before.hides after.place (slip_with before.names line) _ (line_with before.names line) taken line said after.judged says step)
    is zero.1.1.0 zero.1.1.1 in
    record { seen = found.0; is = found.1.0; possible = found.1.1.0; answered = found.1.1.1 }
