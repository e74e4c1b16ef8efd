-- Steps that are taken one after the other, of which nothing was seen.
use Rattle.std.proofs.Common.{◌≡◌, ◌∙◌, ◌&&◌, Bool, true, false, List, [], ◌∷◌, refl, sym, subst}
use Rattle.iom_core.specs.declared.step.Step.{Step}
use Rattle.iom_judge.specs.Candidates.{CandidateView}
use Rattle.iom_traces.specs.Rulings.{AreRuled, GoesOn, IsPassed, any_done, is_decided}

-- what is taken behind these is all that is taken
abbrev pub Leads : Bool → List CandidateView → List Step → List CandidateView → List Step → Type 0
Leads hides start whole mid rest = (decided : Bool) (end : List CandidateView) → AreRuled hides mid rest decided end → AreRuled hides start whole decided end

pub goes_on : (hides : Bool) (start mid after : List CandidateView) (whole rest : List Step) (taken : Step) (on decided : Bool) →
    Leads hides start whole mid (taken ∷ rest) → IsPassed hides mid taken on decided after → on ≡ true → Leads hides start whole after rest
goes_on hides start mid after whole rest taken on decided so p is told end h =
    let both : (is_decided p.0 && any_done after) ≡ true = sym p.3 ∙ is in
    so told end (p.0, after, p.1, subst (λ (b : Bool). GoesOn b (AreRuled hides after rest told end) ((told ≡ is_decided p.0) × (end ≡ after))) (sym both) h)

pub stops : (hides : Bool) (start mid after : List CandidateView) (whole rest : List Step) (taken : Step) (on decided : Bool) →
    Leads hides start whole mid (taken ∷ rest) → IsPassed hides mid taken on decided after → on ≡ false → AreRuled hides start whole decided after
stops hides start mid after whole rest taken on decided so p is =
    let both : (is_decided p.0 && any_done after) ≡ false = sym p.3 ∙ is in
    so decided after (p.0, after, p.1, subst (λ (b : Bool). GoesOn b (AreRuled hides after rest decided after) ((decided ≡ is_decided p.0) × (after ≡ after))) (sym both) (p.2, refl))

pub ends : (hides : Bool) (start mid : List CandidateView) (whole : List Step) → Leads hides start whole mid [] → AreRuled hides start whole true mid
ends hides start mid whole so = so true mid (refl, refl)
