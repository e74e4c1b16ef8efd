-- This model is an IOMMU that keeps what it likes.
use Rattle.std.proofs.Common.{◌≡◌, ◌∙◌, Bool, List, [], ◌∷◌, Option, Some, None, ap, refl, sym}
use Rattle.iom_cache.specs.Places.{NoneLive}
use Rattle.iom_choices.specs.Models.{IsCaching, IsRun, end_of, run_of}
use Rattle.iom_choices.specs.Settled.{IsSettled}
use Rattle.iom_choices.specs.Late.{DropsNamed, named_by}
use Rattle.iom_core.specs.Table.{executed}
use Rattle.iom_queue.specs.declared.command.Command.{Command}
use Rattle.iom_every.specs.Drops.{drops_by}
use Rattle.iom_choices.proofs.Alike.{uses_may}
use Rattle.iom_core.specs.Access.{address_on, led}
use Rattle.iom_core.specs.declared.step.Step.{Step}
use Rattle.iom_core.specs.declared.way.Way.{Way as Led}
use Rattle.iom_core.specs.Looking.{by_tables}
use Rattle.iom_core.specs.State.{State}
use Rattle.iom_core.specs.Warrants.{IsUncached}
use Rattle.iom_core.specs.declared.access.Request.{Request}
use Rattle.iom_every.specs.Entries.{Entry}
use Rattle.iom_every.specs.Every.{MayAtOnce, cached, iommu, platform, queue_commands, uses_in}
use Rattle.iom_every.specs.Rows.{bare}
use Rattle.iom_every.specs.Uses.{Look}
use Rattle.iom_every.specs.Ways.{Goes, way_of}
use Rattle.iom_every.proofs.Kept.{kept}
use Rattle.iom_every.proofs.Led.{led_is}
use Rattle.iom_every.proofs.Rows.{row_is}

pub caching : (ahead : Request → Bool) → IsCaching (iommu ahead) platform
caching ahead = record {
  state = λ state taken. (row_is ahead state taken).left;
  answer = λ state taken. (row_is ahead state taken).answered;
  kept = λ state taken e h. kept ahead state taken e h;
}

-- where nothing is used, a request is led as the tables say
pub by_tables_is : (state : State) (request : Request) → (way_of (bare state) [] request).led ≡ by_tables state.machine request
by_tables_is state request = led_is (bare state) request

none_used : {K V : Type 0} (as_use : K → V → Look × Entry) (places : List (Option (K × V))) → NoneLive places → uses_in as_use places ≡ []
none_used as_use [] none = refl
none_used as_use (None ∷ places) none = none_used as_use places none
none_used as_use (Some held ∷ places) none = absurd none

-- an uncached state uses nothing
pub nothing_cached : (state : State) → IsUncached state → cached state ≡ []
nothing_cached state none = rw (none_used _ state.machine.contexts none.contexts, none_used _ state.machine.pages none.pages) refl

pub by_command : (command : Option Command) (entry : Entry) → drops_by command entry ≡ named_by queue_commands command entry
by_command None entry = refl
by_command (Some command) entry = refl

pub runs : (ahead : Request → Bool) (start : State) → IsUncached start → IsRun (iommu ahead) (run_of platform start)
runs ahead start none = record {
  none = nothing_cached start none;
  state = λ steps step. (caching ahead).state (end_of platform start steps) step;
  answer = λ steps step. (caching ahead).answer (end_of platform start steps) step;
  kept = λ steps step entry h. (caching ahead).kept (end_of platform start steps) step entry h;
}

-- a command drops just what it names
pub drops_named : (ahead : Request → Bool) → DropsNamed (iommu ahead) queue_commands
drops_named ahead state taken entry = by_command (executed state taken) entry

-- where a request is settled, this model takes it where the tables say
pub fresh : (ahead : Request → Bool) (start : State) (steps : List Step) (request : Request) → IsUncached start → IsSettled (iommu ahead) (MayAtOnce ahead start steps) (bare (end_of platform start steps)) (Some request) →
    address_on (led (end_of platform start steps).machine request).way request.iova ≡ address_on (by_tables (end_of platform start steps).machine request) request.iova
fresh ahead start steps request none settled =
    let state : State = end_of platform start steps in
    let to : Led → Goes = λ way. address_on way request.iova in
    let same : Some (to (way_of (bare state) (cached state) request).led) ≡ Some (to (way_of (bare state) [] request).led) =
    settled (cached state) (uses_may (iommu ahead) (run_of platform start) (runs ahead start none) steps) in
    let goes : to (way_of (bare state) (cached state) request).led ≡ to (way_of (bare state) [] request).led = cc in
    ap to (sym (led_is state request)) ∙ goes ∙ ap to (by_tables_is state request)
