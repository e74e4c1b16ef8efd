-- Whether a request is settled, which means that each IOMMU leads it where the tables do, whatever it keeps and forgets, and what is owed,
-- in C: RISC-V IOMMU Architecture 1.0, "Caching in-memory data structures".
use Rattle.std.specs.Prelude.{ℕ, ◌≡◌, ◌⊎◌, ◌++◌, ◌||◌, Bool, true, false, nat_lt, List, [], ◌∷◌, drop, length, map, take, Option, Some, None, is_some}
use Rattle.std.specs.Option.{unwrap_or}
use Rattle.iom_core.specs.State.{Board, State}
use Rattle.iom_core.specs.declared.access.Request.{Request}
use Rattle.iom_core.specs.declared.step.Step.{Step}
use Rattle.iom_owed.specs.Holdings.{HoldingsView, Keeps}
use Rattle.iom_owed.specs.Newest.{steps_of}
use Rattle.iom_owed.specs.Settled.{AreOwed, IsJudged, read_number, unfenced_number}
use Rattle.iom_owed.specs.declared.settling.Owed.{Owed}
use Rattle.iom_owed.specs.declared.settling.Unsettled.{Unsettled}
use Rattle.iom_c.specs.Faults.{not_kept, ok, out_of_memory, status_cached, unsettled}
use Rattle.iom_c.specs.Looks.{is_write}
use Rattle.iom_c.specs.Reasons.{way_of}
use Rattle.iom_c.specs.Settling.{BegunIf}
use Rattle.iom_c.specs.declared.owned.Owned.{Owned}
use Rattle.iom_c.specs.declared.settling.Settling.{Settling}
use Rattle.iom_c.specs.declared.settling.Settling.TheVariants as settling
use Rattle.iom_c.specs.declared.unsettled.OwedRequest.{OwedRequest}
use Rattle.iom_c.specs.declared.unsettled.UnsettledRequest.{UnsettledRequest}

-- where a request of device `did` may be led
abbrev pub unsettled_of : ℕ → Unsettled → UnsettledRequest
unsettled_of did found = record {
  elsewhere = way_of did found.elsewhere;
  tables = way_of did found.tables;
  number = unwrap_or (read_number found.serving) 0;
  has_number = is_some (read_number found.serving);
  is_unfenced = is_some (unfenced_number found.serving);
  unfenced = unwrap_or (unfenced_number found.serving) 0;
  reserved = 0 ∷ 0 ∷ [];
}

-- a request that is owed
abbrev pub owed_of : Owed → OwedRequest
owed_of owed = record {
  unsettled = unsettled_of owed.made.request.did owed.unsettled;
  iova = owed.made.request.iova;
  number = owed.made.number;
  did = owed.made.request.did;
  is_write = is_write owed.made.request.kind;
  reserved = 0 ∷ 0 ∷ 0 ∷ [];
}

-- this is found of a request on a platform, by each start and steps from it that the holdings go along with
abbrev pub IsFoundBy : HoldingsView → State → Request → Option Unsettled → Type 0
IsFoundBy holdings state request found =
    (start : State) (taken : List (Step × ℕ)) → Keeps [] holdings state start taken → IsJudged [] holdings start (steps_of taken) request found

-- this is owed on a platform, likewise
abbrev pub AreOwedBy : HoldingsView → State → List Owed → Type 0
AreOwedBy holdings state owed =
    (start : State) (taken : List (Step × ℕ)) → Keeps [] holdings state start taken → AreOwed [] holdings start (steps_of taken) owed

-- None: it is settled
abbrev pub FoundTold : ℕ → Option Unsettled → ℕ → UnsettledRequest → UnsettledRequest → Type 0
FoundTold did None told old new = (told ≡ ok) × (new ≡ old)
FoundTold did (Some found) told old new = (told ≡ unsettled) × (new ≡ unsettled_of did found)

-- whether a request is settled, by what is held; or memory is refused for that
abbrev pub JudgedTold : HoldingsView → State → Request → ℕ → UnsettledRequest → UnsettledRequest → Type 0
JudgedTold holdings state request told old new =
    ((told ≡ out_of_memory) × (new ≡ old))
    ⊎ ((found : Option Unsettled) × IsFoundBy holdings state request found × FoundTold request.did found told old new)

-- whether a request is settled, where what any IOMMU may hold is kept and known
abbrev pub SettledTold : Settling → State → Request → ℕ → UnsettledRequest → UnsettledRequest → Type 0
SettledTold settling.NotKept state request told old new = (told ≡ not_kept) × (new ≡ old)
SettledTold (settling.Kept holdings) state request told old new = JudgedTold holdings state request told old new
SettledTold settling.Lost state request told old new = (told ≡ out_of_memory) × (new ≡ old)

-- an array that begins with as many of these as have room in it, and has what stood behind their places
abbrev pub filled : List OwedRequest → List OwedRequest → List OwedRequest
filled found old = take (length old) found ++ drop (length found) old

-- what is owed, by what is held, and how many requests that are; or memory is refused for that
abbrev pub ListTold : HoldingsView → State → ℕ → List OwedRequest → List OwedRequest → ℕ → ℕ → Type 0
ListTold holdings state told old new old_count count =
    ((told ≡ out_of_memory) × (new ≡ old) × (count ≡ old_count))
    ⊎ ((owed : List Owed) × AreOwedBy holdings state owed × (told ≡ ok) × (new ≡ filled (map owed_of owed) old) × (count ≡ length owed))

-- what is owed, where what any IOMMU may hold is kept and known
abbrev pub OwedTold : Settling → State → ℕ → List OwedRequest → List OwedRequest → ℕ → ℕ → Type 0
OwedTold settling.NotKept state told old new old_count count = (told ≡ not_kept) × (new ≡ old) × (count ≡ old_count)
OwedTold (settling.Kept holdings) state told old new old_count count = ListTold holdings state told old new old_count count
OwedTold settling.Lost state told old new old_count count = (told ≡ out_of_memory) × (new ≡ old) × (count ≡ old_count)

-- It keeps from here on what any IOMMU may hold, or not; all else stays.
pub record KeepsHoldings (own : Owned) (keeps : Bool) (after : Owned) : Type 0 where
  pub settling : BegunIf keeps after.told.settling
  pub all : after ≡ record own { told = record own.told { settling = after.told.settling } }

-- a cache has a place, live or empty: something was cached since the caches were last reset
abbrev pub has_places : Board → Bool
has_places board = nat_lt 0 (length board.iommu.contexts) || nat_lt 0 (length board.iommu.pages)

-- that is refused, and all stays; or it is done
abbrev pub KeepsUnless : Bool → Owned → Bool → ℕ → Owned → Type 0
KeepsUnless true own keeps told after = (told ≡ status_cached) × (after ≡ own)
KeepsUnless false own keeps told after = (told ≡ ok) × KeepsHoldings own keeps after
