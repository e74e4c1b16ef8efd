-- Where a translation comes from that a device's access used, and how old it may be: RISC-V IOMMU Architecture 1.0, "Caching
-- in-memory data structures" and "IOMMU command-queue commands". Steps are counted from 0; moment k is the state before step k.
use Rattle.std.specs.Prelude.{ℕ, ◌≡◌, ◌<◌, ◌≤◌, ◌&&◌, Bool, true, false, not, List, take, slice_get, Option, Some, None, Ok}
use Rattle.std.specs.Option.{option_and_then}
use Rattle.iom_regs.specs.Views.{mode_of}
use Rattle.iom_regs.specs.declared.views.Mode.TheVariants as mode
use Rattle.iom_ddt.specs.Contexts.{is_bare}
use Rattle.iom_ddt.specs.Directory.{located}
use Rattle.iom_ddt.specs.declared.context.Context.{Context}
use Rattle.iom_nested.specs.Nested.{translation}
use Rattle.iom_nested.specs.declared.translation.Hit.{Hit}
use Rattle.iom_queue.specs.declared.command.Command.{Command}
use Rattle.iom_queue.specs.declared.command.Command.TheVariants.{Vma, Gvma, Iodir}
use Rattle.iom_cache.specs.Drops.{drops_page, drops_context}
use Rattle.iom_cache.specs.Keys.{same_key, same_did, gscid_of}
use Rattle.iom_cache.specs.Origins.{IsLast, fills, drops_at}
use Rattle.iom_cache.specs.Places.{NoneLive}
use Rattle.iom_cache.specs.declared.key.Key.{Key}
use Rattle.iom_core.specs.State.{State}
use Rattle.iom_core.specs.Access.{led, request_key}
use Rattle.iom_core.specs.declared.way.Way.{Way}
use Rattle.iom_core.specs.declared.way.Way.TheVariants.{Register as ByRegister, Context as ByContext, Walked, Denied}
use Rattle.iom_core.specs.declared.access.Request.{Request}
use Rattle.iom_core.specs.Table.{request_of_step, executed}
use Rattle.iom_core.specs.Run.{end_of}
use Rattle.iom_core.specs.declared.step.Step.{Step}
use Rattle.iom_core.specs.declared.warrant.Warrant.{Warrant}
use Rattle.iom_core.specs.declared.warrant.Warrant.TheVariants as warrant

unfoldable pub moment : State → List Step → ℕ → State
moment start steps k = end_of start (take k steps)

-- what step k asks of the IOMMU, and the command that it executes; None past the last step
abbrev pub request_at : State → List Step → ℕ → Option Request
request_at start steps k = option_and_then (request_of_step (moment start steps k)) (slice_get steps k)

abbrev pub executed_at : State → List Step → ℕ → Option Command
executed_at start steps k = option_and_then (executed (moment start steps k)) (slice_get steps k)

-- what a request fills in each cache
abbrev pub context_filled : State → Option Request → Option (ℕ × Context)
context_filled state None = None
context_filled state (Some request) = (led state.machine request).context

abbrev pub page_filled : State → Option Request → Option (Key × Hit)
page_filled state None = None
page_filled state (Some request) = (led state.machine request).page

abbrev pub context_filled_at : State → List Step → ℕ → Option (ℕ × Context)
context_filled_at start steps k = context_filled (moment start steps k) (request_at start steps k)

abbrev pub page_filled_at : State → List Step → ℕ → Option (Key × Hit)
page_filled_at start steps k = page_filled (moment start steps k) (request_at start steps k)

-- whether step k filled the context of a device, or the page of a key
abbrev pub fills_context : State → List Step → ℕ → ℕ → Bool
fills_context start steps did k = fills same_did did (context_filled_at start steps k)

abbrev pub fills_page : State → List Step → Key → ℕ → Bool
fills_page start steps key k = fills same_key key (page_filled_at start steps k)

-- the way that a request was led at moment n
abbrev pub way_at : State → List Step → ℕ → Request → Way
way_at start steps n request = (led (moment start steps n).machine request).way

-- Step k is the last up to n that filled the device's context; the directory gave this context then; and no step from k to
-- n - 1 executed an IODIR that drops it.
pub record IsFreshContext (start : State) (steps : List Step) (did n k : ℕ) (context : Context) : Type 0 where
  pub origin : IsLast (fills_context start steps did) n k
  pub located : located (moment start steps k).machine.memory (moment start steps k).machine.registers did ≡ Ok context
  pub kept : (j : ℕ) → k ≤ j → j < n → drops_at drops_context (executed_at start steps j) did context ≡ false

-- Step k is the last up to n that filled the request's key under this context; the page tables of then lead the request to
-- this hit; and no step from k to n - 1 executed an IOTINVAL that drops it.
pub record IsFreshPage (start : State) (steps : List Step) (request : Request) (context : Context) (hit : Hit) (n k : ℕ) : Type 0 where
  pub origin : IsLast (fills_page start steps (request_key request context)) n k
  pub translated : translation (moment start steps k).machine.memory (moment start steps k).machine.registers.features context request.iova request.kind ≡ Ok hit
  pub kept : (j : ℕ) → k ≤ j → j < n → drops_at drops_page (executed_at start steps j) (request_key request context) hit ≡ false

-- Step n was led by ddtp, whose mode is Bare.
pub record IsByRegister (start : State) (steps : List Step) (n : ℕ) (request : Request) : Type 0 where
  pub used : way_at start steps n request ≡ ByRegister
  pub mode : mode_of (moment start steps n).machine.registers ≡ mode.Bare

-- Step n was led by a context of moment c, both of whose stages are Bare.
pub record IsByContext (start : State) (steps : List Step) (n : ℕ) (request : Request) (c : ℕ) : Type 0 where
  pub context : Context
  pub used : way_at start steps n request ≡ ByContext context
  pub bare : is_bare context ≡ true
  pub fresh : IsFreshContext start steps request.did n c context

-- Step n was led by a context of moment c' to a hit. The page tables of moment w gave it under a context of moment c, with an
-- equal key.
pub record IsWalked (start : State) (steps : List Step) (n : ℕ) (request : Request) (c w c' : ℕ) : Type 0 where
  pub old : Context
  pub now : Context
  pub hit : Hit
  pub used : way_at start steps n request ≡ Walked now hit
  pub old_context : IsFreshContext start steps request.did w c old
  pub now_context : IsFreshContext start steps request.did n c' now
  pub same_key : request_key request now ≡ request_key request old
  pub page : IsFreshPage start steps request old hit n w

-- a warrant for the access of step n
abbrev pub IsWarrant : State → List Step → ℕ → Request → Warrant → Type 0
IsWarrant start steps n request warrant.Register = IsByRegister start steps n request
IsWarrant start steps n request (warrant.Context context) = IsByContext start steps n request context
IsWarrant start steps n request (warrant.Walked context walk current) = IsWalked start steps n request context walk current

abbrev pub IsDenied : Way → Type 0
IsDenied (Denied denial) = Unit {0}
IsDenied _ = ⊥

-- step n made no access, or one that was denied
abbrev pub HasNone : State → List Step → ℕ → Option Request → Type 0
HasNone start steps n None = Unit {0}
HasNone start steps n (Some request) = IsDenied (way_at start steps n request)

-- what explains step n: a warrant for its access, or that it has none
abbrev pub Explains : State → List Step → ℕ → Option Warrant → Type 0
Explains start steps n None = HasNone start steps n (request_at start steps n)
Explains start steps n (Some found) =
    (request : Request) × (request_at start steps n ≡ Some request) × IsWarrant start steps n request found

abbrev pub IsExplained : State → List Step → ℕ → Type 0
IsExplained start steps n = (found : Option Warrant) × Explains start steps n found

-- both caches are empty
pub record IsUncached (state : State) : Type 0 where
  pub contexts : NoneLive state.machine.contexts
  pub pages : NoneLive state.machine.pages

-- IODIR.INVAL_DDT for every device; IOTINVAL.VMA for the host's whole address spaces; IOTINVAL.GVMA for every guest's
abbrev pub is_iodir_of_all : Option Command → Bool
is_iodir_of_all (Some (Iodir dv did)) = not dv
is_iodir_of_all _ = false

abbrev pub is_vma_of_all : Option Command → Bool
is_vma_of_all (Some (Vma av page pscv pscid gv gscid nl s)) = not av && not pscv && not gv
is_vma_of_all _ = false

abbrev pub is_gvma_of_all : Option Command → Bool
is_gvma_of_all (Some (Gvma av page pscid gv gscid nl s)) = not av && not gv
is_gvma_of_all _ = false

-- A full invalidation: contexts first, at step i; then translations of both kinds, at steps v and g in either order. Other
-- steps may stand between. It is complete at n where v and g lie below n.
pub record IsFullInvalidation (start : State) (steps : List Step) (i v g n : ℕ) : Type 0 where
  pub contexts : is_iodir_of_all (executed_at start steps i) ≡ true
  pub host : is_vma_of_all (executed_at start steps v) ≡ true
  pub guests : is_gvma_of_all (executed_at start steps g) ≡ true
  pub host_after : i < v
  pub guests_after : i < g
  pub host_complete : v < n
  pub guests_complete : g < n

-- the walk came after the IOTINVAL of its kind
abbrev pub IsWalkAfter : ℕ → ℕ → ℕ → Option ℕ → Type 0
IsWalkAfter v g walk None = v < walk
IsWalkAfter v g walk (Some gscid) = g < walk

-- the guest, where a walk by both stages led
abbrev pub guest_on : Way → Option ℕ
guest_on (Walked context hit) = gscid_of context
guest_on _ = None

-- No moment of the warrant lies before the full invalidation.
abbrev pub IsAfter : ℕ → ℕ → ℕ → Way → Warrant → Type 0
IsAfter i v g way warrant.Register = Unit {0}
IsAfter i v g way (warrant.Context context) = i < context
IsAfter i v g way (warrant.Walked context walk current) =
    (i < context) × (i < walk) × (i < current) × IsWalkAfter v g walk (guest_on way)

-- What a warrant says of each full invalidation that is complete.
abbrev pub IsUpToDate : State → List Step → ℕ → Request → Warrant → Type 0
IsUpToDate start steps n request found =
    (i v g : ℕ) → IsFullInvalidation start steps i v g n → IsAfter i v g (way_at start steps n request) found

-- The request of step n has a warrant in past states, none of whose moments lies before a full invalidation that is complete.
pub record HasWarrant (start : State) (steps : List Step) (n : ℕ) (request : Request) : Type 0 where
  pub warrant : Warrant
  pub grants : IsWarrant start steps n request warrant
  pub up_to_date : IsUpToDate start steps n request warrant

-- Whatever a device asks at any step, it is denied or has a warrant.
abbrev pub AreWarranted : State → List Step → Type 0
AreWarranted start steps =
    (n : ℕ) (request : Request) → request_at start steps n ≡ Some request → (IsDenied (way_at start steps n request) → ⊥) →
    HasWarrant start steps n request
