-- Candidates that stand for others: RISC-V IOMMU Architecture 1.0, "Caching in-memory data structures".
use Rattle.std.specs.Prelude.{◌++◌, List}
use Rattle.std.specs.List.{AllByRecursion}
use Rattle.iom_choices.specs.Systems.{IsAmong}
use Rattle.iom_judge.specs.Candidates.{CandidateView, IsCovered}

pub record IsCoveredIn (list : List CandidateView) (one : CandidateView) : Type 0 where
  pub other : CandidateView
  pub among : IsAmong list other
  pub is : IsCovered one other

-- none of them covers it
abbrev pub NoneCovers : List CandidateView → CandidateView → Type 0
NoneCovers list one = AllByRecursion (λ (other : CandidateView). IsCovered one other → ⊥) list

-- it covers none of them
abbrev pub CoversNone : List CandidateView → CandidateView → Type 0
CoversNone list one = AllByRecursion (λ (other : CandidateView). IsCovered other one → ⊥) list

-- one was added that none of those before covers
pub record HasNew (before after : List CandidateView) : Type 0 where
  pub one : CandidateView
  pub among : IsAmong after one
  pub none : NoneCovers before one

-- the list has some of these, and one for each that covers it
pub record IsThinned (all few : List CandidateView) : Type 0 where
  pub within : (one : CandidateView) → IsAmong few one → IsAmong all one
  pub enough : (one : CandidateView) → IsAmong all one → IsCoveredIn few one

-- such a list was added, and thinned with those that were there
pub record AddsThinned (P : List CandidateView → Type 0) (before after : List CandidateView) : Type 0 where
  pub added : List CandidateView
  pub holds : P added
  pub thinned : IsThinned (before ++ added) after
