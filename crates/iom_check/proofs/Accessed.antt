-- Where none of a line's accesses is found unsettled, each was settled just before its step.
use Rattle.std.proofs.Common.{◌≡◌, ◌∙◌, ◌++◌, ℕ, Bool, true, false, List, [], ◌∷◌, Option, Some, None, refl, sym, ap, subst, append_assoc, reverse}
use Rattle.std.specs.Option.{option_map}
use Rattle.std.proofs.lemmas.List.{reverse-append}
use Rattle.iom_choices.specs.Models.{end_of as reached}
use Rattle.iom_core.specs.Run.{end_of}
use Rattle.iom_core.specs.State.{State}
use Rattle.iom_core.specs.Table.{next, request_of_step}
use Rattle.iom_core.specs.declared.access.Request.{Request}
use Rattle.iom_core.specs.declared.step.Step.{Step}
use Rattle.iom_every.specs.Every.{platform}
use Rattle.iom_owed.specs.Holdings.{HoldingsView, Keeps}
use Rattle.iom_owed.specs.Newest.{steps_of}
use Rattle.iom_owed.specs.Settled.{IsSettledBefore, IsStepJudged}
use Rattle.iom_owed.specs.declared.settling.Unsettled.{Unsettled}
use Rattle.iom_debug.specs.Reasons.{KeepsLastStale, LineAccountView, begun}
use Rattle.iom_debug.specs.Settling.{IsFound, SettlesIf, SettlingView, access_of, is_lost_in, later_unsettled, line_begun, unsettled_in, with_line}
use Rattle.iom_debug.specs.declared.settling.UnsettledAccess.{UnsettledAccess}
use Rattle.iom_check.specs.Scripts.{AreSettledBehind}

-- memory wasn't refused, and no access of the line was found unsettled
pub record IsQuiet (settling : Option SettlingView) : Type 0 where
  pub known : is_lost_in settling ≡ false
  pub none : unsettled_in settling ≡ None

-- what any IOMMU may hold after these steps is kept
abbrev pub Follows : List Request → State → List (Step × ℕ) → State → Option SettlingView → Type 0
Follows ahead start taken state None = ⊥
Follows ahead start taken state (Some settling) = Keeps ahead settling.holdings state start taken

known_before : (b c : Bool) → (b ≡ true → c ≡ true) → c ≡ false → b ≡ false
known_before false c lost known = refl
known_before true c lost known =
    let is : true ≡ false = sym (lost refl) ∙ known in absurd (cc is)

-- where the later of two is none, both are
both_none : (found last : Option UnsettledAccess) → later_unsettled found last ≡ None → (found ≡ None) × (last ≡ None)
both_none found None is = (is, refl)
both_none found (Some access) is = absurd (cc is)

known_step : (before after : Option SettlingView) (state : State) (step : Step) (number : ℕ) → SettlesIf before state step number after →
    is_lost_in after ≡ false → is_lost_in before ≡ false
known_step None after state step number h known = refl
known_step (Some before) after state step number h known =
    let later : h.0.is_lost ≡ false = subst (λ (s : Option SettlingView). is_lost_in s ≡ false) h.1 known in
    known_before before.is_lost h.0.is_lost h.2.lost later

quiet_step : (before after : Option SettlingView) (state : State) (step : Step) (number : ℕ) → SettlesIf before state step number after →
    IsQuiet after → IsQuiet before
quiet_step None after state step number h quiet = record { known = refl; none = refl }
quiet_step (Some before) after state step number h quiet =
    let none : h.0.unsettled ≡ None = subst (λ (s : Option SettlingView). unsettled_in s ≡ None) h.1 quiet.none in
    record {
      known = known_step (Some before) after state step number h quiet.known;
      none = (both_none before.unsettled h.0.last (sym h.2.told ∙ none)).0;
    }

-- nothing found is a settled request, or none
judged_none : (ahead : List Request) (held : HoldingsView) (start : State) (steps : List Step) (request : Option Request) (judged : Option Unsettled) →
    None ≡ access_of request judged → IsStepJudged ahead held start steps request judged → IsSettledBefore ahead start steps request
judged_none ahead held start steps None judged is settled = tt
judged_none ahead held start steps (Some request) None is settled = settled
judged_none ahead held start steps (Some request) (Some found) is settled = absurd (cc is)

found_none : (ahead : List Request) (held : HoldingsView) (start : State) (steps : List Step) (request : Option Request) (found : Option UnsettledAccess) → found ≡ None →
    IsFound ahead held start steps request found → IsSettledBefore ahead start steps request
found_none ahead held start steps request found none h = judged_none ahead held start steps request h.0 (sym none ∙ h.1) h.2

settled_step : (ahead : List Request) (start : State) (taken : List (Step × ℕ)) (state : State) (step : Step) (number : ℕ) (before after : Option SettlingView) →
    SettlesIf before state step number after → IsQuiet after → Follows ahead start taken state before →
    IsSettledBefore ahead start (steps_of taken) (request_of_step (reached platform start (steps_of taken)) step)
settled_step ahead start taken state step number None after h quiet follows = absurd follows
settled_step ahead start taken state step number (Some before) after h quiet follows =
    let known : h.0.is_lost ≡ false = subst (λ (s : Option SettlingView). is_lost_in s ≡ false) h.1 quiet.known in
    let none : h.0.unsettled ≡ None = subst (λ (s : Option SettlingView). unsettled_in s ≡ None) h.1 quiet.none in
    let keeps : Keeps ahead before.holdings state start taken = follows in
    subst (λ (s : State). IsSettledBefore ahead start (steps_of taken) (request_of_step s step)) keeps.reached
    (found_none ahead before.holdings start (steps_of taken) (request_of_step state step) h.0.last
    (both_none before.unsettled h.0.last (sym h.2.told ∙ none)).1 (h.2.judged known ahead start taken keeps))

follows_step : (ahead : List Request) (start : State) (taken : List (Step × ℕ)) (state : State) (step : Step) (number : ℕ) (before after : Option SettlingView) →
    SettlesIf before state step number after → is_lost_in after ≡ false → Follows ahead start taken state before →
    Follows ahead start ((step, number) ∷ taken) (next state step).state after
follows_step ahead start taken state step number None after h known follows = absurd follows
follows_step ahead start taken state step number (Some before) after h known follows =
    let here : h.0.is_lost ≡ false = subst (λ (s : Option SettlingView). is_lost_in s ≡ false) h.1 known in
    subst (Follows ahead start ((step, number) ∷ taken) (next state step).state) (sym h.1) (h.2.keeps here ahead start taken follows)

-- of steps of one number, one after the other
known_steps : (before : LineAccountView) (state : State) (steps : List Step) (number : ℕ) (after : LineAccountView) →
    KeepsLastStale before state steps number after → is_lost_in after.settling ≡ false → is_lost_in before.settling ≡ false
known_steps before state [] number after h known = subst (λ (r : LineAccountView). is_lost_in r.settling ≡ false) h known
known_steps before state (step ∷ steps) number after h known =
    known_step before.settling h.0.settling state step number h.4 (known_steps h.0 (next state step).state steps number after h.7 known)

quiet_steps : (before : LineAccountView) (state : State) (steps : List Step) (number : ℕ) (after : LineAccountView) →
    KeepsLastStale before state steps number after → IsQuiet after.settling → IsQuiet before.settling
quiet_steps before state [] number after h quiet = subst (λ (r : LineAccountView). IsQuiet r.settling) h quiet
quiet_steps before state (step ∷ steps) number after h quiet =
    quiet_step before.settling h.0.settling state step number h.4 (quiet_steps h.0 (next state step).state steps number after h.7 quiet)

follow_steps : (ahead : List Request) (start : State) (taken : List (Step × ℕ)) (before : LineAccountView) (state : State) (steps : List Step) (number : ℕ)
    (after : LineAccountView) → KeepsLastStale before state steps number after → is_lost_in after.settling ≡ false →
    Follows ahead start taken state before.settling → Follows ahead start (with_line number steps taken) (end_of state steps) after.settling
follow_steps ahead start taken before state [] number after h known follows =
    subst (λ (r : LineAccountView). Follows ahead start taken state r.settling) (sym h) follows
follow_steps ahead start taken before state (step ∷ steps) number after h known follows =
    let there = (next state step).state in
    follow_steps ahead start ((step, number) ∷ taken) h.0 there steps number after h.7 known
    (follows_step ahead start taken state step number before.settling h.0.settling h.4 (known_steps h.0 there steps number after h.7 known) follows)

settled_steps : (ahead : List Request) (start : State) (taken : List (Step × ℕ)) (before : LineAccountView) (state : State) (steps : List Step) (number : ℕ)
    (after : LineAccountView) → KeepsLastStale before state steps number after → IsQuiet after.settling → Follows ahead start taken state before.settling →
    AreSettledBehind ahead start (steps_of taken) steps
settled_steps ahead start taken before state [] number after h quiet follows = tt
settled_steps ahead start taken before state (step ∷ steps) number after h quiet follows =
    let there = (next state step).state in
    let here : IsQuiet h.0.settling = quiet_steps h.0 there steps number after h.7 quiet in (
      settled_step ahead start taken state step number before.settling h.0.settling h.4 here follows,
      settled_steps ahead start ((step, number) ∷ taken) h.0 there steps number after h.7 quiet
          (follows_step ahead start taken state step number before.settling h.0.settling h.4 here.known follows),
    )

-- a line begins
known_begun : (settling : Option SettlingView) → is_lost_in (option_map line_begun settling) ≡ false → is_lost_in settling ≡ false
known_begun None known = refl
known_begun (Some settling) known = known

follows_begun : (ahead : List Request) (start : State) (taken : List (Step × ℕ)) (state : State) (settling : Option SettlingView) → Follows ahead start taken state settling →
    Follows ahead start taken state (option_map line_begun settling)
follows_begun ahead start taken state None follows = follows
follows_begun ahead start taken state (Some settling) follows = follows

-- of the steps of a line
pub known_line : (before : LineAccountView) (state : State) (steps : List Step) (number : ℕ) (after : LineAccountView) →
    KeepsLastStale (begun before) state steps number after → is_lost_in after.settling ≡ false → is_lost_in before.settling ≡ false
known_line before state steps number after h known = known_begun before.settling (known_steps (begun before) state steps number after h known)

pub follows_line : (ahead : List Request) (start : State) (taken : List (Step × ℕ)) (before : LineAccountView) (state : State) (steps : List Step) (number : ℕ)
    (after : LineAccountView) → KeepsLastStale (begun before) state steps number after → is_lost_in after.settling ≡ false →
    Follows ahead start taken state before.settling → Follows ahead start (with_line number steps taken) (end_of state steps) after.settling
follows_line ahead start taken before state steps number after h known follows =
    follow_steps ahead start taken (begun before) state steps number after h known (follows_begun ahead start taken state before.settling follows)

pub settled_line : (ahead : List Request) (start : State) (taken : List (Step × ℕ)) (before : LineAccountView) (state : State) (steps : List Step) (number : ℕ)
    (after : LineAccountView) → KeepsLastStale (begun before) state steps number after → IsQuiet after.settling →
    Follows ahead start taken state before.settling → AreSettledBehind ahead start (steps_of taken) steps
settled_line ahead start taken before state steps number after h quiet follows =
    settled_steps ahead start taken (begun before) state steps number after h quiet (follows_begun ahead start taken state before.settling follows)

-- steps of a line stand in front of those before it, the newest first
pub turned : (step : Step) (steps older : List Step) → reverse steps ++ step ∷ older ≡ reverse (step ∷ steps) ++ older
turned step steps older =
    sym (append_assoc (reverse steps) (step ∷ []) older) ∙ ap (λ l. l ++ older) (sym (reverse-append (step ∷ []) steps))

pub in_front : (number : ℕ) (steps : List Step) (taken : List (Step × ℕ)) → steps_of (with_line number steps taken) ≡ reverse steps ++ steps_of taken
in_front number [] taken = refl
in_front number (step ∷ steps) taken = in_front number steps ((step, number) ∷ taken) ∙ turned step steps (steps_of taken)
