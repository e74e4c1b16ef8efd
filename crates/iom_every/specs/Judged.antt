-- The IOMMUs that a judge of traces allows: RISC-V IOMMU Architecture 1.0, "Caching in-memory data structures" and "IOMMU Command-queue Fence
-- commands". An answer tells besides where the access of its step went: to an address, or why it was denied.
use Rattle.std.specs.Prelude.{ℕ, Bool, List, Option, Some, None}
use Rattle.iom_core.specs.Access.{address_on, led}
use Rattle.iom_core.specs.State.{State}
use Rattle.iom_core.specs.Table.{next, request_of_step}
use Rattle.iom_core.specs.declared.access.Request.{Request}
use Rattle.iom_core.specs.declared.step.Answer.{Answer}
use Rattle.iom_core.specs.declared.step.Step.{Step}
use Rattle.iom_choices.specs.Late.{Late}
use Rattle.iom_choices.specs.Marked.{AreMarked, Marked, late_from, telling}
use Rattle.iom_choices.specs.Models.{end_of, replies_in}
use Rattle.iom_choices.specs.Systems.{System}
use Rattle.iom_choices.specs.Thorough.{thorough, thorough_tree}
use Rattle.iom_choices.specs.Traces.{IsAllowed, IsOneAllowed}
use Rattle.iom_choices.specs.Trees.{Tree}
use Rattle.iom_queue.specs.declared.command.Command.{Command}
use Rattle.iom_every.specs.Entries.{Entry}
use Rattle.iom_every.specs.Every.{iommu, is_listed, platform, queue_commands}
use Rattle.iom_every.specs.Making.{translations}
use Rattle.iom_every.specs.Rows.{bare}
use Rattle.iom_every.specs.Trees.{every_tree}
use Rattle.iom_every.specs.Uses.{Look}
use Rattle.iom_every.specs.Ways.{Goes}

-- Every IOMMU whose commands take effect at the next fence at the latest. A fence takes a whole translation out that was made, since a command came,
-- from a leaf that this command names: made from the leaf before the command, it is named too.
abbrev pub judged_iommu : (Request → Bool) → System (Late State Command) Step Request Look (Entry × Option ℕ) Goes (Answer × Option Goes)
judged_iommu ahead = thorough (telling (iommu ahead)) queue_commands translations every_tree

abbrev pub judged_tree : Late State Command → Request → Tree Look (Entry × Option ℕ) Goes
judged_tree state request = thorough_tree queue_commands translations every_tree state request

-- where this model takes a request, if one is made; and its answers to steps, newest first
abbrev pub goes_of : State → Option Request → Option Goes
goes_of state None = None
goes_of state (Some request) = Some (address_on (led state.machine request).way request.iova)

abbrev pub tells : State → List Step → Step → Answer × Option Goes
tells start steps last = ((next (end_of platform start steps) last).answer, goes_of (end_of platform start steps) (request_of_step (end_of platform start steps) last))

abbrev pub told : State → List Step → List (Answer × Option Goes)
told start steps = replies_in (tells start) steps

-- some such IOMMU, which begins with nothing held and reads these requests ahead in its steps, shows this trace; `fits` says what of an answer was seen
abbrev pub IsTraceAllowed : {O : Type 0} → List Request → (Answer × Option Goes → O → Bool) → State → List (Step × O) → Type 0
IsTraceAllowed requests fits start trace = IsAllowed (judged_iommu (is_listed requests)) fits (late_from (bare start)) trace

-- one of these traces is some such IOMMU's
abbrev pub IsOneTraceAllowed : {O : Type 0} → List Request → (Answer × Option Goes → O → Bool) → State → List (List (Step × O)) → Type 0
IsOneTraceAllowed requests fits start traces = IsOneAllowed (judged_iommu (is_listed requests)) fits (late_from (bare start)) traces

-- The list is all that such an IOMMU may be after one of these traces: of each state what can be held there, and what of that outlasts the next fence.
abbrev pub AreJudged : {O : Type 0} → List Request → (Answer × Option Goes → O → Bool) → State → List (List (Step × O)) → List (Marked State Entry) → Type 0
AreJudged requests fits start traces list = AreMarked (telling (iommu (is_listed requests))) queue_commands translations every_tree fits (bare start) traces list
