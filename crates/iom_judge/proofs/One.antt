-- The candidate behind a step.
use Rattle.std.proofs.Common.{◌≡◌, Bool, true, false, List, [], ◌∷◌, Option, if◌then◌else◌, refl, inl, inr}
use Rattle.iom_choices.specs.Systems.{IsAmong}
use Rattle.iom_core.specs.Rows.{row}
use Rattle.iom_core.specs.State.{State}
use Rattle.iom_core.specs.declared.step.Step.{Step}
use Rattle.iom_every.specs.Ways.{Goes}
use Rattle.iom_held.specs.declared.kept.Kept.{Kept}
use Rattle.iom_judge.specs.Behind.{behind_one, next_of}
use Rattle.iom_judge.specs.Candidates.{CandidateView}
use Rattle.iom_judge.specs.Seen.{fits_seen}
use Rattle.iom_judge.specs.declared.seen.Seen.{Seen}

pub one_behind : (state : State) (held : List Kept) (taken : Step) (seen : Seen) (goes : Option Goes) (one : CandidateView) → IsAmong (behind_one state held taken seen goes) one →
    (fits_seen ((row state taken goes).answer, goes) seen ≡ true) × (next_of state held taken goes ≡ one)
one_behind state held taken seen goes one h =
    let Goal : Bool → Type 0 = λ b. fits_seen ((row state taken goes).answer, goes) seen ≡ b → IsAmong (if b then next_of state held taken goes ∷ [] else []) one →
    (fits_seen ((row state taken goes).answer, goes) seen ≡ true) × (next_of state held taken goes ≡ one) in
    let by_fit : (b : Bool) → Goal b = λ b. elim b as Goal [
      | true ↦ λ is h. elim h [
        | inl same ↦ (is, same)
        | inr none ↦ absurd none
      ]
      | false ↦ λ is h. absurd h
    ] in by_fit (fits_seen ((row state taken goes).answer, goes) seen) refl h
