-- What is behind the first stage's look-up, and behind its end.
use Rattle.std.proofs.Common.{◌≡◌, Bool, false, List, [], Option, Result, Ok, Err, if◌then◌else◌, sym, ap}
use Rattle.std.specs.Prelude.{OnOk}
use Rattle.iom_bits.specs.Features.{Features}
use Rattle.iom_mem.specs.Memory.{Memory}
use Rattle.iom_ddt.specs.declared.context.Context.{Context}
use Rattle.iom_walk.specs.Shape.{is_in_width}
use Rattle.iom_walk.specs.declared.outcome.Outcome.TheVariants as outcome
use Rattle.iom_walk.specs.declared.shape.Shape.{Shape}
use Rattle.iom_nested.specs.Faults.{Failure, fault_of}
use Rattle.iom_nested.specs.Nested.{reached_by, told_of}
use Rattle.iom_nested.specs.declared.translation.Fault.{Fault}
use Rattle.iom_nested.specs.declared.translation.Hit.{Hit}
use Rattle.iom_nested.specs.declared.translation.Reached.{Reached}
use Rattle.iom_core.specs.declared.access.Request.{Request}
use Rattle.iom_every.specs.declared.entry.Entry.{Entry}
use Rattle.iom_every.specs.declared.entry.Held.{Held}
use Rattle.iom_every.specs.Trees.{staged}
use Rattle.iom_held.specs.declared.kept.Kept.{Kept}
use Rattle.iom_ways.specs.Asked.{Explores}
use Rattle.iom_ways.specs.Branches.{behind_reached, behind_used}
use Rattle.iom_ways.specs.declared.exploring.Explored.{Explored}
use Rattle.iom_ways.proofs.Paths.{begins}

-- the IOVA breaks the width rule
pub outside : (memory : Memory) (features : Features) (request : Request) (context : Context) (located : List Entry) (shape : Shape) (used : Option Held) → is_in_width shape request.iova ≡ false →
    behind_reached memory features request context located [] (reached_by request.iova outcome.Fault) ≡ behind_used memory features request context located shape used
outside memory features request context located shape used is =
    sym (ap (λ (b : Bool). if b then begins memory features request context located shape used
    else behind_reached memory features request context located [] (reached_by request.iova outcome.Fault)) is)

-- the first stage found no address, by what it told
pub refused : {T E : Type 0} (result : Result T E) (asks : Bool) (held : List Kept) (memory : Memory) (features : Features) (request : Request) (context : Context) (located first : List Entry) (fault : Fault) (found : Result Reached Failure) (before after : Explored) →
    Err fault ≡ told_of request.kind found →
    ((end : Result Hit Failure) → Err fault ≡ told_of request.kind end → OnOk result (Explores asks held (staged request context located first end []) before after)) →
    OnOk result (Explores asks held (behind_reached memory features request context located first found) before after)
refused result asks held memory features request context located first fault (Ok other) before after told done = absurd (cc)
refused result asks held memory features request context located first fault (Err failure) before after told done =
    let same : fault ≡ fault_of request.kind failure = search told in
    done (Err failure) (ap (λ (f : Fault). Err f) same)
