-- A history beside a platform: which steps filled what its caches hold, each by the number that the caller gave it.
use Rattle.std.specs.Prelude.{ℕ, zero, suc, ◌≡◌, ◌++◌, Bool, true, false, List, [], ◌∷◌, length, get_or, Option, Some, None}
use Rattle.std.specs.Option.{option_map}
use Rattle.iom_ddt.specs.declared.context.Context.{Context}
use Rattle.iom_nested.specs.declared.translation.Hit.{Hit}
use Rattle.iom_cache.specs.Keys.{same_did, same_key}
use Rattle.iom_cache.specs.Origins.{first_stamps, stamped_by}
use Rattle.iom_cache.specs.Places.{made_room}
use Rattle.iom_cache.specs.declared.key.Key.{Key}
use Rattle.iom_core.specs.Access.{led, request_key}
use Rattle.iom_core.specs.Run.{end_of}
use Rattle.iom_core.specs.State.{State, context_room, page_room}
use Rattle.iom_core.specs.Warrants.{Explains, IsDenied, IsFreshContext, IsFreshPage, IsUncached, context_filled, context_filled_at, moment, page_filled, page_filled_at, request_at}
use Rattle.iom_core.specs.declared.access.Request.{Request}
use Rattle.iom_core.specs.declared.looking.Lookup.{Lookup}
use Rattle.iom_core.specs.declared.step.Step.{Step}
use Rattle.iom_core.specs.declared.warrant.Warrant.{Warrant}
use Rattle.iom_core.specs.declared.warrant.Warrant.TheVariants as warrant
use Rattle.iom_core.specs.declared.way.Way.{Way}
use Rattle.iom_core.specs.declared.way.Way.TheVariants.{Register as ByRegister, Context as ByContext, Walked, Denied}
use Rattle.iom_account.specs.Beside.{beside, noted_at}
use Rattle.iom_account.specs.Reads.{reads_of}
use Rattle.iom_account.specs.declared.history.FilledBy.{FilledBy}
use Rattle.iom_account.specs.declared.origin.NumberedWarrant.{NumberedWarrant}
use Rattle.iom_account.specs.declared.reads.Reads.{Reads}
use Rattle.iom_account.specs.declared.origin.NumberedWarrant.TheVariants as origin

-- the number of step k, which is one of those carried out
abbrev pub number_of : List ℕ → ℕ → ℕ
number_of numbers k = get_or numbers k 0

-- a warrant with each moment replaced by the number of that step
abbrev pub numbered_warrant : List ℕ → Warrant → NumberedWarrant
numbered_warrant numbers warrant.Register = origin.Register
numbered_warrant numbers (warrant.Context context) = origin.Context (number_of numbers context)
numbered_warrant numbers (warrant.Walked context walk current) =
    origin.Walked (number_of numbers context) (number_of numbers walk) (number_of numbers current)

-- numbers that count the steps from 0, and the warrant of an origin that has these
abbrev pub counted : ℕ → List ℕ
counted zero = []
counted (suc n) = counted n ++ n ∷ []

abbrev pub warrant_of : NumberedWarrant → Warrant
warrant_of origin.Register = warrant.Register
warrant_of (origin.Context context) = warrant.Context context
warrant_of (origin.Walked context walk current) = warrant.Walked context walk current

-- a step made no access, or one that was denied
abbrev pub HasNoAccess : State → Option Request → Type 0
HasNoAccess state None = Unit {0}
HasNoAccess state (Some request) = IsDenied (led state.machine request).way

-- The origin of the translation that step n used: what explains the step, by numbers; None: it made no access, or was denied.
pub record ComesFrom (start : State) (steps : List Step) (numbers : List ℕ) (n : ℕ) (found : Option NumberedWarrant) : Type 0 where
  pub warrant : Option Warrant
  pub explains : Explains start steps n warrant
  pub told : found ≡ option_map (numbered_warrant numbers) warrant

-- Where a context comes from that is live after the steps: the step of this number filled it, and nothing has dropped it since.
pub record ContextFrom (start : State) (steps : List Step) (numbers : List ℕ) (did : ℕ) (context : Context) (number : ℕ) : Type 0 where
  pub k : ℕ
  pub fresh : IsFreshContext start steps did (length steps) k context
  pub told : number ≡ number_of numbers k

-- Where a translation comes from that is live after the steps: the step of number `walk` filled it for this request, under a
-- context that the step of number `base` had filled, and nothing has dropped it since.
pub record PageFrom (start : State) (steps : List Step) (numbers : List ℕ) (key : Key) (hit : Hit) (base walk : ℕ) : Type 0 where
  pub c : ℕ
  pub w : ℕ
  pub request : Request
  pub context : Context
  pub own : key ≡ request_key request context
  pub fresh : IsFreshPage start steps request context hit (length steps) w
  pub under : IsFreshContext start steps request.did w c context
  pub base_told : base ≡ number_of numbers c
  pub walk_told : walk ≡ number_of numbers w

-- the numbers of a place of the translation cache
abbrev pub numbers_of : Option ℕ → Option ℕ → Option FilledBy
numbers_of None walk = None
numbers_of (Some base) None = None
numbers_of (Some base) (Some walk) = Some (record { context = base; walk = walk })

-- What a history keeps: beside each place of the context cache the number of the step that filled it; beside each place of the
-- translation cache that of the step that filled it, and that of the step that had filled the context under which it walked.
pub record HistoryView : Type 0 where
  pub contexts : List ℕ
  pub walks : List ℕ
  pub walk_contexts : List ℕ

abbrev pub history_of : List ℕ → List ℕ → List ℕ → HistoryView
history_of contexts walks walk_contexts = record { contexts = contexts; walks = walks; walk_contexts = walk_contexts }

-- the numbers beside the places of a cache before step k of a run: of the context cache, then of the translation cache
abbrev pub contexts_at : State → List Step → List ℕ → ℕ → List ℕ
contexts_at start steps numbers k =
    noted_at context_room (context_filled_at start steps) (number_of numbers) (first_stamps start.machine.contexts) k

abbrev pub walks_at : State → List Step → List ℕ → ℕ → List ℕ
walks_at start steps numbers k =
    noted_at page_room (page_filled_at start steps) (number_of numbers) (first_stamps start.machine.pages) k

-- the number of the step that filled the context of the device that asks, which is live after the step of this number
abbrev pub base_by : State → List ℕ → ℕ → Option Request → ℕ
base_by after contexts number None = number
base_by after contexts number (Some request) = beside (same_did request.did) after.machine.contexts contexts number

abbrev pub base_at : State → List Step → List ℕ → ℕ → ℕ
base_at start steps numbers k =
    base_by (moment start steps (suc k)) (contexts_at start steps numbers (suc k)) (number_of numbers k) (request_at start steps k)

abbrev pub walk_contexts_at : State → List Step → List ℕ → ℕ → List ℕ
walk_contexts_at start steps numbers k =
    noted_at page_room (page_filled_at start steps) (base_at start steps numbers) (first_stamps start.machine.pages) k

abbrev pub notes_at : State → List Step → List ℕ → ℕ → HistoryView
notes_at start steps numbers k = record {
  contexts = contexts_at start steps numbers k;
  walks = walks_at start steps numbers k;
  walk_contexts = walk_contexts_at start steps numbers k;
}

-- The history goes along with the platform: from a start whose caches hold nothing these steps were carried out, with these
-- numbers, and it keeps what their fills noted.
pub record Follows (history : HistoryView) (platform start : State) (steps : List Step) (numbers : List ℕ) : Type 0 where
  pub uncached : IsUncached start
  pub reached : platform ≡ end_of start steps
  pub numbered : length numbers ≡ length steps
  pub contexts : history.contexts ≡ contexts_at start steps numbers (length steps)
  pub walks : history.walks ≡ walks_at start steps numbers (length steps)
  pub walk_contexts : history.walk_contexts ≡ walk_contexts_at start steps numbers (length steps)

-- what a step that asks this leaves of a history, by the platform before and after it
abbrev pub noted : State → State → Option Request → ℕ → HistoryView → HistoryView
noted before after asked number history =
    let contexts = stamped_by context_room number (context_filled before asked) history.contexts in
    record {
      contexts = contexts;
      walks = stamped_by page_room number (page_filled before asked) history.walks;
      walk_contexts = stamped_by page_room (base_by after contexts number asked) (page_filled before asked) history.walk_contexts;
    }

-- what an access leaves of a history, by what it read: a context, and a page under the context of this number
abbrev pub context_noted : Bool → ℕ → HistoryView → HistoryView
context_noted true number history = record history { contexts = made_room context_room history.contexts ++ number ∷ [] }
context_noted false number history = history

abbrev pub walk_noted : Bool → ℕ → ℕ → HistoryView → HistoryView
walk_noted true number base history = record history {
  walks = made_room page_room history.walks ++ number ∷ [];
  walk_contexts = made_room page_room history.walk_contexts ++ base ∷ [];
}
walk_noted false number base history = history

abbrev pub noted_reading : State → Option Request → Reads → ℕ → HistoryView → HistoryView
noted_reading after None reads number history = history
noted_reading after (Some request) reads number history =
    let mid = context_noted reads.context number history in
    walk_noted reads.page number (beside (same_did request.did) after.machine.contexts mid.contexts number) mid

-- what an access leaves of a history, by what was seen of it
abbrev pub noted_so : State → Option Request → Lookup → ℕ → HistoryView → HistoryView
noted_so after request seen number history = noted_reading after request (reads_of seen) number history

-- the origin of a request that is led this way, by the platform after it; None: it is denied
abbrev pub origin_on : HistoryView → State → Request → ℕ → Way → Option NumberedWarrant
origin_on history after request number ByRegister = Some origin.Register
origin_on history after request number (ByContext context) =
    Some (origin.Context (beside (same_did request.did) after.machine.contexts history.contexts number))
origin_on history after request number (Walked context hit) = Some (origin.Walked
    (beside (same_key (request_key request context)) after.machine.pages history.walk_contexts number)
    (beside (same_key (request_key request context)) after.machine.pages history.walks number)
    (beside (same_did request.did) after.machine.contexts history.contexts number))
origin_on history after request number (Denied denial) = None

abbrev pub origin_so : HistoryView → State → Option Request → ℕ → Way → Option NumberedWarrant
origin_so history after None number way = None
origin_so history after (Some request) number way = origin_on history after request number way
