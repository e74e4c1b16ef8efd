-- Whether a line carried out a fence, and whether a write of it was ignored, by what is kept of its steps.
use Rattle.std.proofs.Common.{◌≡◌, ◌∙◌, ◌||◌, ℕ, Bool, true, false, List, [], ◌∷◌, refl, ap}
use Rattle.iom_core.specs.State.{State}
use Rattle.iom_core.specs.Table.{executed, next}
use Rattle.iom_core.specs.declared.step.Step.{Step}
use Rattle.iom_debug.specs.Fences.{have_fence, is_fence}
use Rattle.iom_debug.specs.Ignored.{have_ignored, is_ignored}
use Rattle.iom_debug.specs.Reasons.{KeepsLastStale, LineAccountView, begun}

or_none : (a : Bool) → a ≡ (a || false)
or_none true = refl
or_none false = refl

or_more : (a b c : Bool) → ((a || b) || c) ≡ (a || (b || c))
or_more true b c = refl
or_more false b c = refl

all_noted : (before : LineAccountView) (state : State) (steps : List Step) (number : ℕ) (after : LineAccountView) →
    KeepsLastStale before state steps number after → after.has_fence ≡ (before.has_fence || have_fence state steps)
all_noted before state [] number after h = ap (λ (r : LineAccountView). r.has_fence) h ∙ or_none before.has_fence
all_noted before state (step ∷ steps) number after h =
    let there = (next state step).state in
    all_noted h.0 there steps number after h.7 ∙ ap (λ b. b || have_fence there steps) h.3
    ∙ or_more before.has_fence (is_fence (executed state step)) (have_fence there steps)

pub noted : (before : LineAccountView) (state : State) (steps : List Step) (number : ℕ) (after : LineAccountView) →
    KeepsLastStale (begun before) state steps number after → after.has_fence ≡ have_fence state steps
noted before state steps number after h = all_noted (begun before) state steps number after h

all_kept : (before : LineAccountView) (state : State) (steps : List Step) (number : ℕ) (after : LineAccountView) →
    KeepsLastStale before state steps number after → after.has_ignored ≡ (before.has_ignored || have_ignored state steps)
all_kept before state [] number after h = ap (λ (r : LineAccountView). r.has_ignored) h ∙ or_none before.has_ignored
all_kept before state (step ∷ steps) number after h =
    let there = (next state step).state in
    all_kept h.0 there steps number after h.7 ∙ ap (λ b. b || have_ignored there steps) h.6
    ∙ or_more before.has_ignored (is_ignored state step) (have_ignored there steps)

pub kept : (before : LineAccountView) (state : State) (steps : List Step) (number : ℕ) (after : LineAccountView) →
    KeepsLastStale (begun before) state steps number after → after.has_ignored ≡ have_ignored state steps
kept before state steps number after h = all_kept (begun before) state steps number after h
