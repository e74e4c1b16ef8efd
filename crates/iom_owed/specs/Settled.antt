-- Whether it makes a difference to a request what an IOMMU holds: RISC-V IOMMU Architecture 1.0, "Caching in-memory data structures".
use Rattle.std.specs.Prelude.{ℕ, ◌≡◌, ◌≤◌, ◌⊎◌, Bool, true, false, List, ◌∷◌, [], map, Option, Some, None}
use Rattle.iom_choices.specs.Models.{end_of}
use Rattle.iom_choices.specs.Settled.{EachUse, IsSettled}
use Rattle.iom_choices.specs.Systems.{IsAmong}
use Rattle.iom_core.specs.Looking.{by_tables}
use Rattle.iom_core.specs.State.{State}
use Rattle.iom_core.specs.Table.{request_of_step}
use Rattle.iom_core.specs.declared.access.Request.{Request}
use Rattle.iom_core.specs.declared.step.Step.{Step}
use Rattle.iom_core.specs.declared.way.Way.{Way as Led}
use Rattle.iom_every.specs.declared.entry.Entry.{Entry}
use Rattle.iom_every.specs.Every.{MayAhead, iommu, is_listed, none_ahead, platform}
use Rattle.iom_every.specs.Rows.{bare}
use Rattle.iom_every.specs.Uses.{Look}
use Rattle.iom_every.specs.Ways.{way_of}
use Rattle.iom_owed.specs.Alike.{IsAlike}
use Rattle.iom_owed.specs.Holdings.{HoldingsView, at_page, requests_in}
use Rattle.iom_held.specs.declared.kept.Kept.{Kept}
use Rattle.iom_owed.specs.declared.noting.Made.{Made}
use Rattle.iom_owed.specs.declared.settling.Judgement.{Judgement}
use Rattle.iom_owed.specs.declared.settling.Owed.{Owed}
use Rattle.iom_owed.specs.declared.settling.Unsettled.{Unsettled}

-- The request is settled after these steps, if besides those of devices these requests are read ahead: whatever is held, it goes to the address, or
-- to the denial, to which the tables take it.
abbrev pub IsSettledNow : List Request → State → List Step → Request → Type 0
IsSettledNow ahead start steps request =
    IsSettled (iommu (is_listed ahead)) (MayAhead (is_listed ahead) start steps) (bare (end_of platform start steps)) (Some request)

-- every source of such entries leads the request by the tables' way, the same as a whole
abbrev pub IsSameWay : (Entry → Type 0) → State → Request → Type 0
IsSameWay Holds state request = (source : List (Look × Entry)) → EachUse Holds source → (way_of (bare state) source request).led ≡ by_tables state.machine request

-- so it is after these steps, whatever is held
abbrev pub IsSameWayNow : List Request → State → List Step → Request → Type 0
IsSameWayNow ahead start steps request = IsSameWay (MayAhead (is_listed ahead) start steps) (end_of platform start steps) request

-- The entry alone takes the request where memory takes it; compared as a whole, by memory's way.
abbrev pub IsAlikeBy : Bool → State → Request → Entry → Type 0
IsAlikeBy true state request entry = IsSameWay (λ other. other ≡ entry) state request
IsAlikeBy false state request entry = IsSettled (iommu none_ahead) (λ other. other ≡ entry) (bare state) (Some request)

-- This entry alone leads the request so: each look-up uses it, or reads memory. No entry with a smaller number alone leads it otherwise than memory.
pub record IsServedBy (whole : Bool) (held : HoldingsView) (state : State) (request : Request) (way : Led) (kept : Kept) : Type 0 where
  pub among : IsAmong held.entries kept
  pub source : List (Look × Entry)
  pub alone : EachUse (λ entry. entry ≡ kept.entry) source
  pub led : (way_of (bare state) source request).led ≡ way
  pub oldest : (other : Kept) → IsAmong held.entries other → IsAlikeBy whole state request other.entry ⊎ (kept.number ≤ other.number)

-- each entry alone leads the request as memory does
abbrev pub NoneServes : Bool → HoldingsView → State → Request → Type 0
NoneServes whole held state request = (kept : Kept) → IsAmong held.entries kept → IsAlikeBy whole state request kept.entry

-- the oldest entry that alone leads the request otherwise than memory, and by this way; None: no entry does
abbrev pub IsServed : Bool → HoldingsView → State → Request → Led → Option Kept → Type 0
IsServed whole held state request way None = NoneServes whole held state request
IsServed whole held state request way (Some kept) = IsServedBy whole held state request way kept

-- of the entry that alone leads it otherwise, where there is one: the number of the newest step that could read it; and that of the command that
-- names it and isn't fenced yet, where there is one
abbrev pub read_number : Option Kept → Option ℕ
read_number None = None
read_number (Some kept) = Some kept.number

abbrev pub unfenced_number : Option Kept → Option ℕ
unfenced_number None = None
unfenced_number (Some kept) = kept.unfenced

-- Entries that may be held lead the request otherwise than the tables do: elsewhere, or if `whole`, by another way.
pub record LeadsOtherwise (ahead : List Request) (whole : Bool) (held : HoldingsView) (start : State) (steps : List Step) (request : Request) (found : Unsettled) : Type 0 where
  pub source : List (Look × Entry)
  pub may : EachUse (MayAhead (is_listed ahead) start steps) source
  pub led : (way_of (bare (end_of platform start steps)) source request).led ≡ found.elsewhere
  pub tables : by_tables (end_of platform start steps).machine request ≡ found.tables
  pub differs : IsAlike whole request.iova found.elsewhere found.tables → ⊥
  pub served : IsServed whole held (end_of platform start steps) request found.elsewhere found.serving

abbrev pub LeadsElsewhere : List Request → HoldingsView → State → List Step → Request → Unsettled → Type 0
LeadsElsewhere ahead held start steps request found = LeadsOtherwise ahead false held start steps request found

-- None: it is settled
abbrev pub IsJudged : List Request → HoldingsView → State → List Step → Request → Option Unsettled → Type 0
IsJudged ahead held start steps request None = IsSettledNow ahead start steps request
IsJudged ahead held start steps request (Some found) = LeadsElsewhere ahead held start steps request found

-- of a step's request; None: it makes none, or it is settled
abbrev pub IsStepJudged : List Request → HoldingsView → State → List Step → Option Request → Option Unsettled → Type 0
IsStepJudged ahead held start steps None found = found ≡ None
IsStepJudged ahead held start steps (Some request) found = IsJudged ahead held start steps request found

-- Of a request that is settled: another way to where the tables take it; None: each is the tables' way. Of one that isn't settled none is told.
abbrev pub IsBeside : List Request → HoldingsView → State → List Step → Request → Option Unsettled → Option Unsettled → Type 0
IsBeside ahead held start steps request (Some elsewhere) beside = beside ≡ None
IsBeside ahead held start steps request None None = IsSameWayNow ahead start steps request
IsBeside ahead held start steps request None (Some found) = LeadsOtherwise ahead true held start steps request found

-- of a step's request, if it makes one
abbrev pub IsStepBeside : List Request → HoldingsView → State → List Step → Option Request → Judgement → Type 0
IsStepBeside ahead held start steps None judged = judged.beside ≡ None
IsStepBeside ahead held start steps (Some request) judged = IsBeside ahead held start steps request judged.unsettled judged.beside

-- a request that was made, if there is one, is owed; None: it is settled
abbrev pub IsOwedAt : List Request → HoldingsView → State → List Step → Option Made → Option Owed → Type 0
IsOwedAt ahead held start steps None found = found ≡ None
IsOwedAt ahead held start steps (Some made) None = IsSettledNow ahead start steps made.request
IsOwedAt ahead held start steps (Some made) (Some owed) = (owed.made ≡ made) × LeadsElsewhere ahead held start steps made.request owed.unsettled

-- some of these, in their order
abbrev pub AreSomeOf : {X : Type 0} → List X → List X → Type 0
AreSomeOf [] all = Unit {0}
AreSomeOf (x ∷ some) [] = ⊥
AreSomeOf (x ∷ some) (y ∷ all) = ((x ≡ y) × AreSomeOf some all) ⊎ AreSomeOf (x ∷ some) all

abbrev pub requests_owed : List Owed → List Made
requests_owed owed = map (λ (each : Owed). each.made) owed

-- These are what is owed: the requests that were made and aren't settled, in the order of what is kept, each once and with a way that leads
-- elsewhere.
pub record AreOwed (ahead : List Request) (held : HoldingsView) (start : State) (steps : List Step) (owed : List Owed) : Type 0 where
  pub told : (each : Owed) → IsAmong owed each → IsAmong held.requests each.made × LeadsElsewhere ahead held start steps each.made.request each.unsettled
  pub settled : (each : Made) → IsAmong held.requests each → IsAmong (requests_owed owed) each ⊎ IsSettledNow ahead start steps each.request
  pub in_order : AreSomeOf (requests_owed owed) held.requests

-- a request is told to be owed, for the first byte of its page
abbrev pub IsToldOwed : List Owed → Request → Type 0
IsToldOwed owed request = IsAmong (requests_in (requests_owed owed)) (at_page request)

-- what a step requests, if it makes an access, is settled before the step
abbrev pub IsSettledBefore : List Request → State → List Step → Option Request → Type 0
IsSettledBefore ahead start steps None = Unit {0}
IsSettledBefore ahead start steps (Some request) = IsSettledNow ahead start steps request

-- that of each step, newest first
abbrev pub IsEachSettled : List Request → State → List Step → Type 0
IsEachSettled ahead start [] = Unit {0}
IsEachSettled ahead start (last ∷ steps) = IsSettledBefore ahead start steps (request_of_step (end_of platform start steps) last) × IsEachSettled ahead start steps
