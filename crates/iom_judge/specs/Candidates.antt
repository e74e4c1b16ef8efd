-- All that an IOMMU may be after the steps of a trace: RISC-V IOMMU Architecture 1.0, "Caching in-memory data structures".
use Rattle.std.specs.Prelude.{ℕ, ◌≡◌, ◌↔◌, ◌⊎◌, ◌<◌, Bool, true, false, List, [], ◌∷◌, filter, length, map, Option, Some, None, Result}
use Rattle.std.specs.List.{AllByRecursion, list_any}
use Rattle.iom_choices.specs.Marked.{Marked}
use Rattle.iom_choices.specs.Traces.{onward}
use Rattle.iom_choices.specs.Trees.{ways_over}
use Rattle.iom_core.specs.Access.{address_on}
use Rattle.iom_core.specs.Rows.{bare}
use Rattle.iom_core.specs.State.{State}
use Rattle.iom_core.specs.declared.access.Denial.{Denial}
use Rattle.iom_core.specs.declared.access.Request.{Request}
use Rattle.iom_core.specs.declared.step.Answer.{Answer}
use Rattle.iom_core.specs.declared.step.Answer.TheVariants as answer
use Rattle.iom_core.specs.declared.step.Step.{Step}
use Rattle.iom_core.specs.declared.way.Way.{Way as Led}
use Rattle.iom_every.specs.Judged.{AreJudged, IsOneTraceAllowed}
use Rattle.iom_every.specs.Trees.{tree_of}
use Rattle.iom_every.specs.declared.entry.Entry.{Entry}
use Rattle.iom_judge.specs.Including.{Includes}
use Rattle.iom_held.specs.Kept.{HasNoneTwice, entries_in, is_spared}
use Rattle.iom_held.specs.declared.kept.Kept.{Kept}
use Rattle.iom_judge.specs.Seen.{fits_seen, unseen}
use Rattle.iom_judge.specs.declared.judge.Verdict.{Verdict}
use Rattle.iom_judge.specs.declared.judge.Verdict.TheVariants.{Allowed, Refused, Undecided}
use Rattle.iom_judge.specs.declared.possible.Possible.{Possible}
use Rattle.iom_judge.specs.declared.seen.Seen.{Seen}
use Rattle.iom_ways.specs.Ways.{leads}

pub record CandidateView : Type 0 where
  pub platform : State
  pub held : List Kept
  pub answer : Answer
  pub goes : Option (Result ℕ Denial)

abbrev pub first_of : State → CandidateView
first_of platform = record { platform = platform; held = []; answer = answer.Done; goes = None }

-- what it is: the platform without its caches, all that it can hold, and what of that outlasts the next fence
abbrev pub marked_of : CandidateView → Marked State Entry
marked_of candidate = record {
  state = bare candidate.platform;
  holds = entries_in candidate.held;
  outlasts = entries_in (filter is_spared candidate.held);
}

-- These are all that an IOMMU that reads nothing ahead may be after one of these traces, each of which lists its steps newest first with what was seen
-- of them.
pub record AreCandidates (start : State) (traces : List (List (Step × Seen))) (candidates : List CandidateView) : Type 0 where
  pub are : AreJudged [] fits_seen start traces (map marked_of candidates)
  pub once : AllByRecursion (λ (candidate : CandidateView). HasNoneTwice (entries_in candidate.held)) candidates

-- what was seen agrees with one of these answers
abbrev pub is_any_fit : Seen → List Possible → Bool
is_any_fit seen list = list_any (λ (one : Possible). fits_seen (one.answer, one.goes) seen) list

-- These are the answers to a step after one of these traces: what was seen of it agrees with one of them exactly if some IOMMU shows one of the traces
-- and then this.
abbrev pub ArePossible : State → List (List (Step × Seen)) → Step → List Possible → Type 0
ArePossible start traces taken list = (seen : Seen) → is_any_fit seen list ≡ true ↔ IsOneTraceAllowed [] fits_seen start (onward (taken, seen) traces)

-- where the access of a step may go, over these entries; a step that makes none goes nowhere
abbrev pub goes_over : State → List Entry → Option Request → List (Option (Result ℕ Denial))
goes_over state held None = None ∷ []
goes_over state held (Some request) = map (λ (led : Led). Some (address_on led request.iova)) (leads (ways_over held (tree_of state request)))

-- the same platform, and all that one can hold the other can too, now and behind the next fence
pub record IsCovered (one other : CandidateView) : Type 0 where
  pub platform : one.platform ≡ other.platform
  pub holds : Includes other.held one.held

-- none of the list is covered by another
abbrev pub AreApart : List CandidateView → Type 0
AreApart [] = Unit {0}
AreApart (one ∷ list) =
    AllByRecursion (λ (other : CandidateView). (IsCovered one other → ⊥) × (IsCovered other one → ⊥)) list × AreApart list

-- how many candidates a judge keeps at most
abbrev pub most_candidates : ℕ
most_candidates = 64

-- More than 64, of which none is covered by another, are all that an IOMMU may be after one of these traces.
pub record AreTooMany (start : State) (traces : List (List (Step × Seen))) : Type 0 where
  pub list : List CandidateView
  pub are : AreCandidates start traces list
  pub apart : AreApart list
  pub many : most_candidates < length list

-- A verdict on a step of which this was seen, after one of these traces: allowed exactly if some IOMMU shows one of them and then this; and what the
-- candidates are then.
abbrev pub IsVerdict : State → List (List (Step × Seen)) → Step × Seen → Verdict → List CandidateView → List CandidateView → Type 0
IsVerdict start traces seen Allowed before after = IsOneTraceAllowed [] fits_seen start (onward seen traces) × AreCandidates start (onward seen traces) after
IsVerdict start traces seen Refused before after =
    (IsOneTraceAllowed [] fits_seen start (onward seen traces) → ⊥) × AreCandidates start (onward (seen.0, unseen) traces) after
IsVerdict start traces seen Undecided before after =
    (after ≡ before) × (AreTooMany start (onward seen traces) ⊎ AreTooMany start (onward (seen.0, unseen) traces))

-- What is listed beside such a verdict: of a refused step all that some IOMMU could have answered, each once, of another nothing.
abbrev pub IsListed : State → List (List (Step × Seen)) → Step → Verdict → List Possible → Type 0
IsListed start traces taken Allowed list = list ≡ []
IsListed start traces taken Refused list = ArePossible start traces taken list × HasNoneTwice list
IsListed start traces taken Undecided list = list ≡ []
