-- An account of the steps of a platform: which steps filled what its caches hold, and why each of the last steps was answered as it was.
use Rattle.std.specs.Prelude.{ℕ, suc, ◌≡◌, ◌++◌, List, [], ◌∷◌, length, replicate, take, slice_get, Option, Some, None}
use Rattle.std.specs.Result.{result_ok}
use Rattle.circular_buffer.specs.Buffer.{keep_last}
use Rattle.iom_core.specs.Access.{address_on, led}
use Rattle.iom_core.specs.State.{State}
use Rattle.iom_core.specs.Run.{end_of}
use Rattle.iom_core.specs.Table.{request_of_step}
use Rattle.iom_core.specs.Warrants.{IsUncached, moment, request_at}
use Rattle.iom_core.specs.declared.access.Request.{Request}
use Rattle.iom_core.specs.declared.step.Step.{Step}
use Rattle.iom_tables.specs.Stale.{stale_way}
use Rattle.iom_core.specs.declared.way.Way.{Way}
use Rattle.iom_account.specs.Following.{ComesFrom, Follows, HistoryView, number_of}
use Rattle.iom_account.specs.declared.reason.Reason.{Reason}

-- the way that the tables lead an access that is stale, before the step that makes it; None: it isn't stale, or there is none
abbrev pub stale_in : State → Option Request → Option Way
stale_in state None = None
stale_in state (Some request) = stale_way state.machine request

-- the physical address that a way leads a request to; None: it is denied, or there is none
abbrev pub address_by : Option Request → Way → Option ℕ
address_by None way = None
address_by (Some request) way = result_ok (address_on way request.iova)

-- the physical address that a request is led to
abbrev pub granted_address : State → Option Request → Option ℕ
granted_address state None = None
granted_address state (Some request) = address_by (Some request) (led state.machine request).way

-- the reason of a step that this platform takes under this number, all but its origin, which depends on the steps before too
pub record IsReasonOf (state : State) (step : Step) (own : ℕ) (reason : Reason) : Type 0 where
  pub number : reason.number ≡ own
  pub request : reason.request ≡ request_of_step state step
  pub address : reason.address ≡ granted_address state (request_of_step state step)
  pub stale : reason.stale ≡ stale_in state (request_of_step state step)

-- the reason of step n, the last of these
pub record IsReason (start : State) (steps : List Step) (numbers : List ℕ) (n : ℕ) (reason : Reason) : Type 0 where
  pub number : reason.number ≡ number_of numbers n
  pub request : reason.request ≡ request_at start steps n
  pub origin : IsUncached start → ComesFrom start steps numbers n reason.origin
  pub address : reason.address ≡ granted_address (moment start steps n) (request_at start steps n)
  pub stale : reason.stale ≡ stale_in (moment start steps n) (request_at start steps n)

-- of how many steps the reasons are kept
abbrev pub most_reasons : ℕ
most_reasons = 32

-- Each of these steps has its reason; the last ones are kept.
pub record Tells (start : State) (steps : List Step) (numbers : List ℕ) (told : List Reason) : Type 0 where
  pub all : List Reason
  pub many : length all ≡ length steps
  pub each : (n : ℕ) (reason : Reason) → slice_get all n ≡ Some reason →
      IsReason start (take (suc n) steps) (take (suc n) numbers) n reason
  pub kept : told ≡ keep_last most_reasons all

-- which steps filled the caches, and the reasons of the last steps
pub record AccountView : Type 0 where
  pub history : HistoryView
  pub reasons : List Reason

-- The account goes along with the platform: since the start these steps were taken, under these numbers.
pub record Accounts (account : AccountView) (platform start : State) (steps : List Step) (numbers : List ℕ) : Type 0 where
  pub reached : platform ≡ end_of start steps
  pub numbered : length numbers ≡ length steps
  pub follows : IsUncached start → Follows account.history platform start steps numbers
  pub tells : Tells start steps numbers account.reasons

-- It went along with these steps, all under one number.
abbrev pub GoesAlong : AccountView → State → List Step → ℕ → AccountView → State → Type 0
GoesAlong before state more number after left =
    (start : State) (steps : List Step) (numbers : List ℕ) → Accounts before state start steps numbers →
    Accounts after left start (steps ++ more) (numbers ++ replicate (length more) number)

-- What a step under this number leaves of an account: its reason is kept after the others, and the history and the origin that the reason
-- has go along with any steps before it.
pub record CountsStep (before : AccountView) (state : State) (step : Step) (number : ℕ) (after : AccountView) (left : State) : Type 0 where
  pub reason : Reason
  pub own : IsReasonOf state step number reason
  pub told : after.reasons ≡ keep_last most_reasons (before.reasons ++ reason ∷ [])
  pub follows : (start : State) (steps : List Step) (numbers : List ℕ) → Follows before.history state start steps numbers →
      Follows after.history left start (steps ++ step ∷ []) (numbers ++ number ∷ [])
  pub origin : (start : State) (steps : List Step) (numbers : List ℕ) → Follows before.history state start steps numbers →
      ComesFrom start (steps ++ step ∷ []) (numbers ++ number ∷ []) (length steps) reason.origin
