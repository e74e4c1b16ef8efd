-- What a judge says of the steps of lines.
use Rattle.std.specs.Prelude.{ℕ, ◌≡◌, ◌&&◌, Bool, true, false, List, [], ◌∷◌}
use Rattle.std.specs.List.{list_any}
use Rattle.iom_core.specs.State.{State}
use Rattle.iom_core.specs.declared.step.Step.{Step}
use Rattle.iom_core.specs.declared.step.Step.TheVariants as step
use Rattle.iom_debug.specs.Taking.{is_done}
use Rattle.iom_judge.specs.Candidates.{AreCandidates, CandidateView, IsListed, IsVerdict}
use Rattle.iom_judge.specs.Seen.{unseen}
use Rattle.iom_judge.specs.Unseen.{HasTaken}
use Rattle.iom_judge.specs.declared.judge.Verdict.{Verdict}
use Rattle.iom_judge.specs.declared.judge.Verdict.TheVariants.{Allowed, Refused, Undecided}
use Rattle.iom_judge.specs.declared.possible.Possible.{Possible}
use Rattle.iom_judge.specs.declared.seen.Seen.{Seen}
use Rattle.iom_traces.specs.Sights.{seen_by}
use Rattle.iom_traces.specs.declared.sights.Sight.{Sight}

-- Before a step the IOMMU may have carried out commands that nobody saw, if that is allowed for. `few`: its states are followed.
abbrev pub Hides : Bool → List CandidateView → Bool → List CandidateView → Type 0
Hides false before few after = (few ≡ true) × (after ≡ before)
Hides true before few after =
    (start : State) (traces : List (List (Step × Seen))) → AreCandidates start traces before → HasTaken start traces step.Command few before after

-- the judge's verdict on a step of which this was seen
abbrev pub IsFollowed : List CandidateView → Step → Seen → Verdict → List CandidateView → Type 0
IsFollowed before taken seen verdict after =
    (start : State) (traces : List (List (Step × Seen))) → AreCandidates start traces before → IsVerdict start traces (taken, seen) verdict before after

abbrev pub FewRuled : Bool → List CandidateView → Step → Seen → Verdict → List CandidateView → Type 0
FewRuled true before taken seen verdict after = IsFollowed before taken seen verdict after
FewRuled false before taken seen verdict after = (verdict ≡ Undecided) × (after ≡ before)

abbrev pub IsRuled : Bool → List CandidateView → Step → Seen → Verdict → List CandidateView → Type 0
IsRuled hides before taken seen verdict after =
    (few : Bool) × (mid : List CandidateView) × Hides hides before few mid × FewRuled few mid taken seen verdict after

-- and what is listed beside it: where it is refused, all answers that some IOMMU could have given
abbrev pub CouldBe : List CandidateView → Step → Verdict → List Possible → Type 0
CouldBe before taken verdict allowed =
    (start : State) (traces : List (List (Step × Seen))) → AreCandidates start traces before → IsListed start traces taken verdict allowed

abbrev pub FewAnswered : Bool → List CandidateView → Step → Sight → Verdict → List Possible → List CandidateView → Type 0
FewAnswered true before taken sight verdict allowed after =
    IsFollowed before taken (seen_by sight) verdict after × CouldBe before taken verdict allowed
FewAnswered false before taken sight verdict allowed after = (verdict ≡ Undecided) × (after ≡ before)

-- the same of a line that is one step, with what is allowed
abbrev pub IsAnswered : Bool → List CandidateView → Step → Sight → Verdict → List Possible → List CandidateView → Type 0
IsAnswered hides before taken sight verdict allowed after =
    (few : Bool) × (mid : List CandidateView) × Hides hides before few mid × FewAnswered few mid taken sight verdict allowed after

-- some IOMMU carried its last step out
abbrev pub any_done : List CandidateView → Bool
any_done candidates = list_any (λ (one : CandidateView). is_done one.answer) candidates

abbrev pub is_decided : Verdict → Bool
is_decided Allowed = true
is_decided Refused = true
is_decided Undecided = false

abbrev pub GoesOn : Bool → Type 0 → Type 0 → Type 0
GoesOn true next last = next
GoesOn false next last = last

-- Steps of which nothing was seen, while some IOMMU carries them out. `decided`: each of them is.
abbrev pub AreRuled : Bool → List CandidateView → List Step → Bool → List CandidateView → Type 0
AreRuled hides before [] decided after = (decided ≡ true) × (after ≡ before)
AreRuled hides before (taken ∷ steps) decided after =
    (verdict : Verdict) × (mid : List CandidateView) × IsRuled hides before taken unseen verdict mid
    × GoesOn (is_decided verdict && any_done mid) (AreRuled hides mid steps decided after) ((decided ≡ is_decided verdict) × (after ≡ mid))

-- one of these; `on`: the next one is to be taken
abbrev pub IsPassed : Bool → List CandidateView → Step → Bool → Bool → List CandidateView → Type 0
IsPassed hides before taken on decided after =
    (verdict : Verdict) × IsRuled hides before taken unseen verdict after × (decided ≡ is_decided verdict) × (on ≡ (is_decided verdict && any_done after))
