-- What is told of the steps of lines while they are carried out: where each access's translation came from, and where the tables led it
-- then, if it was stale; whether a fence was carried out, and the last invalidation.
use Rattle.std.specs.Prelude.{ℕ, ◌≡◌, ◌++◌, ◌||◌, Bool, false, List, [], ◌∷◌, codes, Option, Some, None, Result, slice_get}
use Rattle.std.specs.Option.{option_and_then, option_map}
use Rattle.circular_buffer.specs.Buffer.{last_item}
use Rattle.iom_text.specs.Texts.{numeral}
use Rattle.iom_core.specs.Access.{address_on}
use Rattle.iom_core.specs.State.{State}
use Rattle.iom_core.specs.Table.{executed, next, request_of_step}
use Rattle.iom_core.specs.declared.access.Denial.{Denial}
use Rattle.iom_core.specs.declared.access.Request.{Request}
use Rattle.iom_core.specs.declared.step.Step.{Step}
use Rattle.iom_core.specs.declared.way.Way.{Way}
use Rattle.iom_account.specs.declared.origin.NumberedWarrant.{NumberedWarrant}
use Rattle.iom_account.specs.declared.origin.NumberedWarrant.TheVariants as origin
use Rattle.iom_account.specs.Account.{AccountView, GoesAlong as AccountGoesAlong}
use Rattle.iom_account.specs.Following.{HistoryView, numbers_of}
use Rattle.iom_account.specs.declared.history.FilledBy.{FilledBy}
use Rattle.iom_account.specs.declared.reason.Reason.{Reason}
use Rattle.iom_debug.specs.Ignored.{is_ignored}
use Rattle.iom_debug.specs.Fences.{is_fence}
use Rattle.iom_debug.specs.Invalidations.{invalidation_after}
use Rattle.iom_debug.specs.Settling.{SettlesIf, SettlingView, line_begun}
use Rattle.iom_debug.specs.Stale.{stale_access}
use Rattle.iom_debug.specs.Ways.{address_text}
use Rattle.iom_debug.specs.declared.invalidations.Invalidation.{Invalidation}
use Rattle.iom_debug.specs.declared.stale.StaleAccess.{StaleAccess}

-- where a way leads a request, if there are both
abbrev pub address_by : Option Request → Option Way → Option (Result ℕ Denial)
address_by None way = None
address_by (Some request) way = option_map (λ way. address_on way request.iova) way

-- where the tables led the access of a step that was stale, by what is told of it
abbrev pub stale_of : Reason → Option (Result ℕ Denial)
stale_of reason = address_by reason.request reason.stale

-- where the translation came from that the access of the last step used
abbrev pub origin_of : Reason → Option NumberedWarrant
origin_of reason = reason.origin

abbrev pub newest_origin : AccountView → Option NumberedWarrant
newest_origin account = option_and_then origin_of (last_item account.reasons)

-- the way that the tables said of that access, where it was stale
abbrev pub tables_of : Reason → Option Way
tables_of reason = reason.stale

abbrev pub newest_tables : AccountView → Option Way
newest_tables account = option_and_then tables_of (last_item account.reasons)

-- what is kept beside a platform: the account of its steps, the last access of a line that was stale, whether a step of the line carried out
-- a fence, or was a write that a busy register ignored, the last invalidation that a step of any line carried out, and, where settledness is told, what any IOMMU may hold
pub record LineAccountView : Type 0 where
  pub account : AccountView
  pub stale : Option StaleAccess
  pub has_fence : Bool
  pub has_ignored : Bool
  pub last_invalidation : Option Invalidation
  pub settling : Option SettlingView

-- It went along with these steps of one number.
abbrev pub GoesAlong : LineAccountView → State → List Step → ℕ → LineAccountView → State → Type 0
GoesAlong before state more number after left = AccountGoesAlong before.account state more number after.account left

-- a line begins
abbrev pub begun : LineAccountView → LineAccountView
begun reasons = record reasons { stale = None; has_fence = false; has_ignored = false; settling = option_map line_begun reasons.settling }

-- the last of two, where there is one
abbrev pub later : Option StaleAccess → Option StaleAccess → Option StaleAccess
later found None = found
later found (Some stale) = Some stale

-- the access of a step, where it was stale: by what is kept before and after it
abbrev pub stale_in : LineAccountView → State → Step → LineAccountView → Option StaleAccess
stale_in before state step after =
    stale_access before.account.history state (request_of_step state step) (newest_origin after.account)

-- a step leaves this: its access, where that was stale
abbrev pub KeepsStale : LineAccountView → State → Step → LineAccountView → Type 0
KeepsStale before state step after = after.stale ≡ later before.stale (stale_in before state step after)

-- and whether it or a step before it carried out a fence
abbrev pub KeepsFence : LineAccountView → State → Step → LineAccountView → Type 0
KeepsFence before state step after = after.has_fence ≡ (before.has_fence || is_fence (executed state step))

-- and whether it or a step before it was a write that a busy register ignored
abbrev pub KeepsIgnored : LineAccountView → State → Step → LineAccountView → Type 0
KeepsIgnored before state step after = after.has_ignored ≡ (before.has_ignored || is_ignored state step)

-- and the last invalidation: its own one, or else the last one before it
abbrev pub KeepsInvalidation : LineAccountView → State → Step → ℕ → LineAccountView → Type 0
KeepsInvalidation before state step number after =
    after.last_invalidation ≡ invalidation_after number (executed state step) before.last_invalidation

-- and its access, where that wasn't settled
abbrev pub KeepsSettling : LineAccountView → State → Step → ℕ → LineAccountView → Type 0
KeepsSettling before state step number after = SettlesIf before.settling state step number after.settling

-- the same of steps of one number, one after the other: of the last of their accesses that was stale or wasn't settled, of fences, of writes that were ignored, and
-- of the last invalidation
abbrev pub KeepsLastStale : LineAccountView → State → List Step → ℕ → LineAccountView → Type 0
KeepsLastStale before state [] number after = after ≡ before
KeepsLastStale before state (step ∷ steps) number after =
    (mid : LineAccountView) × GoesAlong before state (step ∷ []) number mid (next state step).state × KeepsStale before state step mid
    × KeepsFence before state step mid × KeepsSettling before state step number mid × KeepsInvalidation before state step number mid
    × KeepsIgnored before state step mid × KeepsLastStale mid (next state step).state steps number after

-- the numbers of the steps that filled what an access used
abbrev pub origin_text : NumberedWarrant → List ℕ
origin_text origin.Register = codes "register"
origin_text (origin.Context context) = codes "context " ++ numeral 10 context
origin_text (origin.Walked context walk current) =
    codes "walked context=" ++ numeral 10 context ++ codes " walk=" ++ numeral 10 walk ++ codes " current=" ++ numeral 10 current

abbrev pub used_text : Option Request → Option NumberedWarrant → List ℕ
used_text None used = codes "no access"
used_text (Some request) None = codes "denied"
used_text (Some request) (Some used) = origin_text used

abbrev pub tables_text : Option (Result ℕ Denial) → List ℕ
tables_text None = []
tables_text (Some address) = codes " stale " ++ address_text address

unfoldable pub reason_text : Reason → List ℕ
reason_text reason = used_text reason.request reason.origin ++ tables_text (stale_of reason)

abbrev pub why_text : Option Reason → List ℕ
why_text None = codes "none"
why_text (Some reason) = reason_text reason

-- which lines filled a place of a cache, also where what stood there was dropped: of a context one, of a translation that of its context too
abbrev pub context_origin_by : Option ℕ → List ℕ
context_origin_by None = codes "none"
context_origin_by (Some number) = codes "context " ++ numeral 10 number

abbrev pub context_origin_text : HistoryView → ℕ → List ℕ
context_origin_text history i = context_origin_by (slice_get history.contexts i)

abbrev pub page_origin_by : Option FilledBy → List ℕ
page_origin_by None = codes "none"
page_origin_by (Some filled) = codes "walked context=" ++ numeral 10 filled.context ++ codes " walk=" ++ numeral 10 filled.walk

abbrev pub page_origin_text : HistoryView → ℕ → List ℕ
page_origin_text history i = page_origin_by (numbers_of (slice_get history.walk_contexts i) (slice_get history.walks i))
