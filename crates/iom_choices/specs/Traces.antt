-- Traces of a system: its steps, newest first, each with what was seen of its answer. And all that such a system may be after a trace.
use Rattle.std.specs.Prelude.{◌≡◌, ◌++◌, ◌||◌, if◌then◌else◌, ℕ, zero, suc, Bool, true, false, List, [], ◌∷◌, filter, flat_map, map, Option, Some, None}
use Rattle.iom_choices.specs.Systems.{System, ModelWalk, IsAmong}
use Rattle.iom_choices.specs.Choices.{Choice, Holder, end_as, led_as, undropped}
use Rattle.iom_choices.specs.Trees.{Tree, reads_at, ways_over}

-- With these choices the system takes the trace's steps, and what was seen of each answer fits the answer that it gives.
abbrev pub Shows : {S T R K E L A O : Type 0} → System S T R K E L A → (A → O → Bool) → S → List (T × Choice R K) → List (T × O) → Type 0
Shows sys fits start [] [] = Unit {0}
Shows sys fits start [] (seen ∷ trace) = ⊥
Shows sys fits start (last ∷ chosen) [] = ⊥
Shows sys fits start (last ∷ chosen) (seen ∷ trace) =
    (last.0 ≡ seen.0)
    × (fits (sys.reply (end_as sys start chosen).state last.0 (led_as sys (end_as sys start chosen) last.0 last.1)) seen.1 ≡ true)
    × Shows sys fits start chosen trace

-- some choices of what is kept, used and walked again show this trace
pub record IsAllowed {S T R K E L A O : Type 0} (sys : System S T R K E L A) (fits : A → O → Bool) (start : S) (trace : List (T × O)) : Type 0 where
  pub chosen : List (T × Choice R K)
  pub shows : Shows sys fits start chosen trace

-- where an access may be led, if these entries are held
abbrev pub leds_of : {S R K E L : Type 0} → (S → R → Tree K E L) → S → List E → Option R → List (Option L)
leds_of tree state held None = None ∷ []
leds_of {E = E} {L = L} tree state held (Some request) = map (λ (way : ModelWalk E L). Some way.led) (ways_over held (tree state request))

-- after a step, all entries that were held or can have been read, and aren't dropped; these requests are read ahead
abbrev pub held_behind : {S T R K E L A : Type 0} → System S T R K E L A → (S → R → Tree K E L) → List R → Holder S E → T → List E
held_behind sys tree requests before step = undropped sys before.state step (before.holds ++ reads_at sys tree requests before.state before.holds step)

-- what the system may be after a step of which this was seen: one for each way that fits, and each holds all that it can
abbrev pub possible_behind : {S T R K E L A O : Type 0} → System S T R K E L A → (S → R → Tree K E L) → List R → (A → O → Bool) → T × O → Holder S E → List (Holder S E)
possible_behind {S} {T} {R} {K} {E} {L} sys tree requests fits seen before =
    map (λ (led : Option L). record { state = sys.after before.state seen.0 led; holds = held_behind sys tree requests before seen.0 })
    (filter (λ (led : Option L). fits (sys.reply before.state seen.0 led) seen.1) (leds_of tree before.state before.holds (sys.asked before.state seen.0)))

abbrev pub possible_after : {S T R K E L A O : Type 0} → System S T R K E L A → (S → R → Tree K E L) → List R → (A → O → Bool) → S → List (T × O) → List (Holder S E)
possible_after sys tree requests fits start [] = record { state = start; holds = [] } ∷ []
possible_after sys tree requests fits start (seen ∷ trace) = flat_map (possible_behind sys tree requests fits seen) (possible_after sys tree requests fits start trace)

abbrev pub is_any : {X : Type 0} → List X → Bool
is_any [] = false
is_any (x ∷ xs) = true

-- Steps that nobody sees may come before each step of a trace: at most so many, each one of a list (as `the IOMMU takes its next command`).
abbrev pub IsGap : {T : Type 0} → List T → ℕ → List T → Type 0
IsGap hidden n [] = Unit {0}
IsGap hidden zero (step ∷ gap) = ⊥
IsGap hidden (suc n) (step ∷ gap) = IsAmong hidden step × IsGap hidden n gap

abbrev pub AreGaps : {T O : Type 0} → List T → ℕ → List (List T) → List (T × O) → Type 0
AreGaps hidden n [] [] = Unit {0}
AreGaps hidden n (gap ∷ gaps) [] = ⊥
AreGaps hidden n [] (seen ∷ trace) = ⊥
AreGaps hidden n (gap ∷ gaps) (seen ∷ trace) = IsGap hidden n gap × AreGaps hidden n gaps trace

abbrev pub unseen : {T O : Type 0} → List T → List (T × Option O)
unseen {T} {O} gap = map (λ (step : T). let each : T × Option O = (step, None) in each) gap

-- the trace with the steps that weren't seen
abbrev pub filled : {T O : Type 0} → List (List T) → List (T × O) → List (T × Option O)
filled {T} {O} [] trace = []
filled {T} {O} (gap ∷ gaps) [] = []
filled {T} {O} (gap ∷ gaps) (seen ∷ trace) = (seen.0, Some seen.1) ∷ (unseen gap ++ filled gaps trace)

abbrev pub fits_any : {A O : Type 0} → (A → O → Bool) → A → Option O → Bool
fits_any fits answer None = true
fits_any fits answer (Some seen) = fits answer seen

pub record IsAllowedUnseen {S T R K E L A O : Type 0} (sys : System S T R K E L A) (fits : A → O → Bool) (hidden : List T) (most : ℕ) (start : S) (trace : List (T × O)) : Type 0 where
  pub gaps : List (List T)
  pub are : AreGaps hidden most gaps trace
  pub allowed : IsAllowed sys (fits_any fits) start (filled gaps trace)

-- the same state, and at least as much is held
pub record IsMore {S E : Type 0} (one more : Holder S E) : Type 0 where
  pub state : one.state ≡ more.state
  pub holds : (entry : E) → IsAmong one.holds entry → IsAmong more.holds entry

pub record IsBehind {S E : Type 0} (few : List (Holder S E)) (one : Holder S E) : Type 0 where
  pub more : Holder S E
  pub among : IsAmong few more
  pub is : IsMore one more

-- A thinning takes out only what is no more than another that it leaves.
pub record IsThinning {S E : Type 0} (thin : List (Holder S E) → List (Holder S E)) : Type 0 where
  pub few : (all : List (Holder S E)) (one : Holder S E) → IsAmong (thin all) one → IsAmong all one
  pub enough : (all : List (Holder S E)) (one : Holder S E) → IsAmong all one → IsBehind (thin all) one

abbrev pub possible_unseen : {S T R K E L A O : Type 0} → System S T R K E L A → (S → R → Tree K E L) → List R → (A → O → Bool) → List T → (List (Holder S E) → List (Holder S E)) → ℕ → List (Holder S E) → List (Holder S E)
possible_unseen sys tree requests fits hidden thin zero all = all
possible_unseen {S} {T} {R} {K} {E} {L} {A} {O} sys tree requests fits hidden thin (suc n) all =
    thin (all ++ flat_map (λ (step : T). flat_map (possible_behind {O = Option O} sys tree requests (fits_any fits) (step, None)) (possible_unseen sys tree requests fits hidden thin n all)) hidden)

abbrev pub possible_with : {S T R K E L A O : Type 0} → System S T R K E L A → (S → R → Tree K E L) → List R → (A → O → Bool) → List T → ℕ → (List (Holder S E) → List (Holder S E)) → S → List (T × O) → List (Holder S E)
possible_with sys tree requests fits hidden most thin start [] = record { state = start; holds = [] } ∷ []
possible_with sys tree requests fits hidden most thin start (seen ∷ trace) =
    thin (flat_map (possible_behind sys tree requests (fits_any fits) (seen.0, Some seen.1)) (possible_unseen sys tree requests fits hidden thin most (possible_with sys tree requests fits hidden most thin start trace)))

-- the steps of a trace, and answers that fit what was seen of each
abbrev pub steps_in : {T O : Type 0} → List (T × O) → List T
steps_in {T} {O} trace = map (λ (seen : T × O). seen.0) trace

abbrev pub AllSeen : {T A O : Type 0} → (A → O → Bool) → List A → List (T × O) → Type 0
AllSeen fits [] [] = Unit {0}
AllSeen fits [] (seen ∷ trace) = ⊥
AllSeen fits (answer ∷ answers) [] = ⊥
AllSeen fits (answer ∷ answers) (seen ∷ trace) = (fits answer seen.1 ≡ true) × AllSeen fits answers trace

-- a thinning by a test: what is no more than one that is left is taken out
abbrev pub is_in : {X : Type 0} → (X → X → Bool) → X → List X → Bool
is_in is_more one [] = false
is_in is_more one (more ∷ all) = is_more one more || is_in is_more one all

abbrev pub thinned : {X : Type 0} → (X → X → Bool) → List X → List X
thinned is_more [] = []
thinned is_more (one ∷ all) = if is_in is_more one (thinned is_more all) then thinned is_more all else one ∷ thinned is_more all

-- Two lists of what the system may be are alike if each of either is no more than one of the other. Lists that were made with their entries in
-- another order, or with some twice, are.
pub record AreAlike {S E : Type 0} (list all : List (Holder S E)) : Type 0 where
  pub within : (one : Holder S E) → IsAmong list one → IsBehind all one
  pub enough : (one : Holder S E) → IsAmong all one → IsBehind list one

-- a run that shows the trace, has the state, and holds at least as much
pub record IsShown {S T R K E L A O : Type 0} (sys : System S T R K E L A) (fits : A → O → Bool) (start : S) (trace : List (T × O)) (one : Holder S E) : Type 0 where
  pub chosen : List (T × Choice R K)
  pub shows : Shows sys fits start chosen trace
  pub is : IsMore one (end_as sys start chosen)

-- one of the traces, and such a run
pub record IsEnd {S T R K E L A O : Type 0} (sys : System S T R K E L A) (fits : A → O → Bool) (start : S) (traces : List (List (T × O))) (one : Holder S E) : Type 0 where
  pub trace : List (T × O)
  pub among : IsAmong traces trace
  pub shown : IsShown sys fits start trace one

-- The list is what the system may be after one of these traces: no run of one is left out, and each of the list is the end of such a run.
pub record ArePossible {S T R K E L A O : Type 0} (sys : System S T R K E L A) (fits : A → O → Bool) (start : S) (traces : List (List (T × O))) (list : List (Holder S E)) : Type 0 where
  pub covers : (trace : List (T × O)) → IsAmong traces trace → (chosen : List (T × Choice R K)) → Shows sys fits start chosen trace → IsBehind list (end_as sys start chosen)
  pub reached : (one : Holder S E) → IsAmong list one → IsEnd sys fits start traces one

-- each of these traces, and then this
abbrev pub onward : {T O : Type 0} → T × O → List (List (T × O)) → List (List (T × O))
onward {T} {O} seen traces = map (λ (trace : List (T × O)). seen ∷ trace) traces

-- one of the traces is allowed
pub record IsOneAllowed {S T R K E L A O : Type 0} (sys : System S T R K E L A) (fits : A → O → Bool) (start : S) (traces : List (List (T × O))) : Type 0 where
  pub trace : List (T × O)
  pub among : IsAmong traces trace
  pub allowed : IsAllowed sys fits start trace
