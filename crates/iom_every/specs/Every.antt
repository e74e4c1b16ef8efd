-- Every IOMMU, as a system that keeps whichever entries it chooses; and this model as one of them.
use Rattle.std.specs.Prelude.{ℕ, ◌≡◌, ◌++◌, ◌==◌, ◌&&◌, ◌||◌, Bool, true, false, List, [], ◌∷◌, Option, Some, None, Ok}
use Rattle.iom_ddt.specs.declared.context.Context.{Context}
use Rattle.iom_nested.specs.declared.translation.Hit.{Hit}
use Rattle.iom_cache.specs.declared.key.Key.{Key}
use Rattle.iom_core.specs.State.{State}
use Rattle.iom_core.specs.Table.{executed, next, request_of_step}
use Rattle.iom_core.specs.declared.access.Request.{Request}
use Rattle.iom_core.specs.declared.step.Answer.{Answer}
use Rattle.iom_core.specs.declared.step.Step.{Step}
use Rattle.iom_choices.specs.Systems.{System}
use Rattle.iom_choices.specs.Models.{Model, end_of, run_of}
use Rattle.iom_choices.specs.Settled.{MayHold}
use Rattle.iom_choices.specs.Trees.{AreLedAlike, held_after}
use Rattle.iom_choices.specs.Carried.{Due, carrying}
use Rattle.iom_choices.specs.Laws.{CanUse}
use Rattle.iom_choices.specs.Pauses.{IsReadAhead, MayHoldPaused, MayOutlastPaused, alone, paused, paused_at, paused_commands, taken, tells_or_none}
use Rattle.iom_choices.specs.Late.{Commands, Late, MayHoldLate, MayOutlast, late, late_at, late_tree, unnumbered}
use Rattle.iom_cache.specs.Keys.{same_kind}
use Rattle.iom_queue.specs.declared.command.Command.{Command}
use Rattle.iom_queue.specs.declared.command.Command.TheVariants.{Vma, Gvma, Fence, Iodir}
use Rattle.iom_every.specs.Entries.{Entry, OfDevice, OfPage}
use Rattle.iom_every.specs.Drops.{drops_by, drops_entry}
use Rattle.iom_every.specs.Uses.{Look, ForDevice, ForPage}
use Rattle.iom_every.specs.Ways.{Goes, kept_walk, way_of}
use Rattle.iom_every.specs.Rows.{bare, row}
use Rattle.iom_every.specs.Trees.{every_tree}

-- two requests are the same
abbrev pub is_request : Request → Request → Bool
is_request one other = same_kind one.kind other.kind && (one.iova == other.iova && one.did == other.did)

-- a request is one of these
abbrev pub is_listed : List Request → Request → Bool
is_listed [] request = false
is_listed (one ∷ requests) request = is_request one request || is_listed requests request

-- The system of every IOMMU; `ahead`: the requests that it may walk in any step, though no device makes them. The result of a walk is where the
-- request goes.
abbrev pub iommu : (Request → Bool) → System State Step Request Look Entry Goes Answer
iommu ahead = record {
  asked = request_of_step;
  way = λ state source request. kept_walk state.machine.registers.features request.iova (way_of state source request);
  drops = λ state taken entry. drops_by (executed state taken) entry;
  after = λ state taken goes. bare (row state taken goes).state;
  reply = λ state taken goes. (row state taken goes).answer;
  ahead = ahead;
}

-- the live places of a cache, as uses
abbrev pub uses_in : {K V : Type 0} → (K → V → Look × Entry) → List (Option (K × V)) → List (Look × Entry)
uses_in as_use [] = []
uses_in as_use (None ∷ places) = uses_in as_use places
uses_in as_use (Some entry ∷ places) = as_use entry.0 entry.1 ∷ uses_in as_use places

-- a cached context answers the look-up of its device, a cached translation the look-up of its key
abbrev pub context_use : ℕ → Context → Look × Entry
context_use did context = (ForDevice, OfDevice did (Ok context))

abbrev pub hit_use : Key → Hit → Look × Entry
hit_use key hit = (ForPage, OfPage key hit)

abbrev pub context_uses : List (Option (ℕ × Context)) → List (Look × Entry)
context_uses places = uses_in context_use places

abbrev pub page_uses : List (Option (Key × Hit)) → List (Look × Entry)
page_uses places = uses_in hit_use places

-- all entries that this model caches, as uses for its next access
abbrev pub cached : State → List (Look × Entry)
cached state = context_uses state.machine.contexts ++ page_uses state.machine.pages

abbrev pub platform : Model State State Step Look Entry Answer
platform = record {
  next = λ state taken. (next state taken).state;
  answer = λ state taken. (next state taken).answer;
  view = bare;
  uses = cached;
}

-- the entries that may be held after steps of this model's run, newest first, if each command takes effect in its own step
abbrev pub MayAtOnce : (Request → Bool) → State → List Step → Entry → Type 0
MayAtOnce ahead start steps = MayHold (iommu ahead) (λ steps. bare (end_of platform start steps)) steps

-- The entries that may be held, as a list, if these requests are read ahead: computed from step to step by the walks' trees.
abbrev pub held_entries : List Request → State → List Step → List Entry
held_entries requests start steps = held_after (iommu (is_listed requests)) every_tree requests (λ steps. bare (end_of platform start steps)) steps

-- each way that they allow takes the request where the tables take it
abbrev pub AreWaysAlike : List Request → State → List Step → Request → Type 0
AreWaysAlike requests start steps request = AreLedAlike (iommu (is_listed requests)) every_tree (bare (end_of platform start steps)) (held_entries requests start steps) request

-- an IOFENCE.C that is executed completes all commands that were executed before it
abbrev pub is_fence : Command → Bool
is_fence (Fence av wsi pr pw value addr) = true
is_fence (Vma av page pscv pscid gv gscid nl s) = false
is_fence (Gvma av page pscid gv gscid nl s) = false
is_fence (Iodir dv did) = false

abbrev pub queue_commands : Commands State Step Entry Command
queue_commands = record { executed = executed; names = drops_entry; is_fence = is_fence }

-- The system of every IOMMU whose commands take effect at the next fence at the latest: RISC-V IOMMU Architecture 1.0, "IOMMU Command-queue Fence
-- commands".
abbrev pub late_iommu : (Request → Bool) → System (Late State Command) Step Request Look (Entry × ℕ) Goes Answer
late_iommu ahead = late (iommu ahead) queue_commands

-- its state after steps of this model's run
abbrev pub late_view : State → List Step → Late State Command
late_view start steps = late_at queue_commands (λ steps. bare (end_of platform start steps)) steps

abbrev pub MayLate : (Request → Bool) → State → List Step → Entry × ℕ → Type 0
MayLate ahead start steps = MayHold (late_iommu ahead) (late_view start) steps

-- the entries that may be held, with whichever number; and those of them that a fence leaves that comes now
abbrev pub May : (Request → Bool) → State → List Step → Entry → Type 0
May ahead start steps = MayHoldLate (iommu ahead) queue_commands (λ steps. bare (end_of platform start steps)) steps

abbrev pub Outlasts : (Request → Bool) → State → List Step → Entry → Type 0
Outlasts ahead start steps = MayOutlast (iommu ahead) queue_commands (λ steps. bare (end_of platform start steps)) steps

-- no requests are read ahead but those of devices
abbrev pub none_ahead : Request → Bool
none_ahead request = false

abbrev pub late_entries : List Request → State → List Step → List (Entry × ℕ)
late_entries requests start steps = held_after (late_iommu (is_listed requests)) (late_tree every_tree) requests (late_view start) steps

abbrev pub AreWaysAlikeLate : List Request → State → List Step → Request → Type 0
AreWaysAlikeLate requests start steps request = AreLedAlike (late_iommu (is_listed requests)) (late_tree every_tree) (late_view start steps) (late_entries requests start steps) request

-- The system of every IOMMU with all of these freedoms: it also pauses between steps, and walks in a pause what it reads ahead.
abbrev pub every_iommu : (Request → Bool) → System (Late State Command) (Option Step) Request Look (Entry × ℕ) Goes (Option Answer)
every_iommu ahead = late (paused (iommu ahead)) (paused_commands queue_commands)

-- its state after steps of this model's run, with pauses
abbrev pub every_view : State → List (Option Step) → Late State Command
every_view start steps = late_at (paused_commands queue_commands) (paused_at (λ steps. bare (end_of platform start steps))) steps

-- the entries that may be held, however often it pauses between the steps
abbrev pub MayEver : (Request → Bool) → State → List Step → Entry → Type 0
MayEver ahead start steps = MayHoldPaused (iommu ahead) queue_commands (λ steps. bare (end_of platform start steps)) steps

-- with some pauses between these steps such an IOMMU, which did as this model until then, can use exactly this source
pub record IsUsedEver (ahead : Request → Bool) (start : State) (steps : List Step) (source : List (Look × Entry)) : Type 0 where
  pub paused_steps : List (Option Step)
  pub same : taken paused_steps ≡ steps
  pub numbered : List (Look × (Entry × ℕ))
  pub is : unnumbered numbered ≡ source
  pub can : CanUse (every_iommu ahead) (every_view start) (tells_or_none (run_of platform start).tells) paused_steps numbered

-- One that reads ahead by memory alone, in pauses between the steps: what it holds has no part in these walks.
abbrev pub alone_iommu : (Request → Bool) → System State Step (Bool × Request) Look Entry Goes Answer
alone_iommu ahead = alone (iommu ahead)

abbrev pub prefetching_iommu : (Request → Bool) → System (Late State Command) (Option Step) (Bool × Request) Look (Entry × ℕ) Goes (Option Answer)
prefetching_iommu ahead = late (paused (alone_iommu ahead)) (paused_commands queue_commands)

-- the entries that it may hold after steps of this model's run, however often it pauses between them; and those of them that a fence leaves that
-- comes now
abbrev pub MayAhead : (Request → Bool) → State → List Step → Entry → Type 0
MayAhead ahead start steps = MayHoldPaused (alone_iommu ahead) queue_commands (λ steps. bare (end_of platform start steps)) steps

abbrev pub OutlastsAhead : (Request → Bool) → State → List Step → Entry → Type 0
OutlastsAhead ahead start steps = MayOutlastPaused (alone_iommu ahead) queue_commands (λ steps. bare (end_of platform start steps)) steps

-- an entry that it may read ahead behind the last step: memory gives it there
abbrev pub MayReadAhead : (Request → Bool) → State → List Step → Entry → Type 0
MayReadAhead ahead start steps = IsReadAhead (alone_iommu ahead) (MayAhead ahead start steps) (bare (end_of platform start steps))

-- with some pauses between these steps such an IOMMU, which did as this model until then, can use exactly this source
pub record IsUsedAhead (ahead : Request → Bool) (start : State) (steps : List Step) (source : List (Look × Entry)) : Type 0 where
  pub paused_steps : List (Option Step)
  pub same : taken paused_steps ≡ steps
  pub numbered : List (Look × (Entry × ℕ))
  pub is : unnumbered numbered ≡ source
  pub can : CanUse (prefetching_iommu ahead) (every_view start) (tells_or_none (run_of platform start).tells) paused_steps numbered

-- One that carries out each command as a whole, at the end of any step or pause up to the next fence.
abbrev pub carrying_iommu : (Request → Bool) → System (Due State Command) (Option Step × List Bool) Request Look Entry Goes (Option Answer)
carrying_iommu ahead = carrying (paused (iommu ahead)) (paused_commands queue_commands)
