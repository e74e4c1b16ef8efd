-- What `explain` writes below a step that makes an access: what a block device asks, what the caches hold, and why it was let through. Lines are
-- named as they stand.
use Rattle.std.specs.Prelude.{ℕ, ◌++◌, ◌||◌, Bool, true, false, List, [], ◌∷◌, length, codes, slice_get, Option, Some, None, Result, Ok, Err}
use Rattle.iom_text.specs.Texts.{hexadecimal, numeral}
use Rattle.iom_virtq.specs.Bus.{Ask, Read, Write}
use Rattle.iom_blk.specs.Device.{Device}
use Rattle.iom_blk.specs.Phases.{asks}
use Rattle.iom_blk.specs.declared.phase.Phase.{Phase}
use Rattle.iom_blk.specs.declared.phase.Phase.TheVariants as phase
use Rattle.iom_ddt.specs.declared.context.Context.{Context}
use Rattle.iom_core.specs.Access.{address_on}
use Rattle.iom_core.specs.State.{State}
use Rattle.iom_core.specs.Looking.{is_cached}
use Rattle.iom_core.specs.declared.access.Denial.{Denial}
use Rattle.iom_core.specs.declared.looking.Lookup.{Lookup}
use Rattle.iom_core.specs.declared.step.Step.{Step}
use Rattle.iom_core.specs.declared.step.Step.TheVariants as step
use Rattle.iom_core.specs.declared.way.Way.{Way}
use Rattle.iom_core.specs.declared.way.Way.TheVariants as way
use Rattle.iom_core.specs.declared.witness.Source.{Source}
use Rattle.iom_core.specs.declared.witness.Source.TheVariants as source
use Rattle.iom_account.specs.declared.origin.NumberedWarrant.{NumberedWarrant}
use Rattle.iom_account.specs.declared.origin.NumberedWarrant.TheVariants as origin
use Rattle.iom_items.specs.Lines.{operand}
use Rattle.iom_debug.specs.Marks.{MarksView, named_at, numbered_at}
use Rattle.iom_debug.specs.Settling.{elsewhere_at}
use Rattle.iom_debug.specs.Stale.{access_text, served_line}
use Rattle.iom_debug.specs.declared.invalidations.Invalidation.{Invalidation}
use Rattle.iom_debug.specs.declared.settling.UnsettledAccess.{UnsettledAccess}
use Rattle.iom_debug.specs.declared.stale.StaleAccess.{StaleAccess}

-- what an access of a block device is for: VIRTIO 1.2, "Split Virtqueues" and "Block Device"
unfoldable pub phase_text : Phase → List ℕ
phase_text phase.Index = codes "available index"
phase_text phase.Ring = codes "available ring"
phase_text (phase.Descriptor i) = codes "descriptor " ++ numeral 10 i
phase_text phase.Header = codes "header"
phase_text (phase.Data position) = codes "data"
phase_text phase.Status = codes "status"
phase_text phase.UsedId = codes "used id"
phase_text phase.UsedLen = codes "used length"
phase_text phase.UsedIdx = codes "used index"

-- an IOVA, and how many bytes
abbrev pub ask_text : ℕ → Ask → List ℕ
ask_text did (Read iova count) =
    codes ", read" ++ operand (codes "did") did ++ operand (codes "iova") iova ++ operand (codes "len") count
ask_text did (Write iova bytes) =
    codes ", write" ++ operand (codes "did") did ++ operand (codes "iova") iova ++ operand (codes "len") (length bytes)

abbrev pub asks_by : ℕ → Phase → Option Ask → List ℕ
asks_by did phase None = []
asks_by did phase (Some ask) = codes "    asks: " ++ phase_text phase ++ ask_text did ask ++ 10 ∷ []

abbrev pub device_asks : Option (ℕ × Device) → List ℕ
device_asks None = []
device_asks (Some own) = asks_by own.0 own.1.phase (asks own.1)

-- what the block device of a step asks of the IOMMU; nothing of any other step
unfoldable pub asks_text : State → Step → List ℕ
asks_text state (step.Device dev) = device_asks (slice_get state.devices dev)
asks_text state _ = []

-- where the context comes from that leads an access: of one that is cached the line that filled it
abbrev pub context_text : MarksView → Source → ℕ → List ℕ
context_text marks source.Found line = codes "context of " ++ named_at marks line
context_text marks source.Read line = codes "no context"

-- the line whose walk found the page that an access used
abbrev pub walk_of : Option NumberedWarrant → Option ℕ
walk_of None = None
walk_of (Some origin.Register) = None
walk_of (Some (origin.Context context)) = None
walk_of (Some (origin.Walked context walk current)) = Some walk

abbrev pub is_found : Option Source → Bool
is_found None = false
is_found (Some source.Found) = true
is_found (Some source.Read) = false

-- no page is cached for an access that the stages of a context lead
abbrev pub no_page : Way → List ℕ
no_page (way.Context context) = []
no_page way.Register = codes ", no page"
no_page (way.Walked context hit) = codes ", no page"
no_page (way.Denied denial) = codes ", no page"

abbrev pub page_text : MarksView → Bool → Option ℕ → Way → List ℕ
page_text marks true (Some walk) way = codes ", page of " ++ named_at marks walk
page_text marks true None way = no_page way
page_text marks false walk way = no_page way

-- the physical address that what is cached leads an access to
abbrev pub addr_text : Bool → Result ℕ Denial → List ℕ
addr_text true (Ok addr) = codes ", addr=" ++ hexadecimal addr
addr_text true (Err denial) = []
addr_text false address = []

-- what the caches hold for an access to an IOVA that is seen so before its step, if a context leads it. Its live context is that of `line`
abbrev pub caches_by : MarksView → Option (Source × Context) → Lookup → ℕ → ℕ → Option NumberedWarrant → List ℕ
caches_by marks None seen line iova used = []
caches_by marks (Some context) seen line iova used =
    codes "    caches: " ++ context_text marks context.0 line ++ page_text marks (is_found seen.page) (walk_of used) seen.way
    ++ addr_text (is_found seen.page || is_cached seen) (address_on seen.way iova) ++ 10 ∷ []

-- the lines that filled what an access used, as their numbers are told
abbrev pub walked_text : MarksView → ℕ → ℕ → ℕ → List ℕ
walked_text marks context walk current =
    (codes "walked context=" ++ numbered_at marks context) ++ (codes " walk=" ++ numbered_at marks walk) ++ (codes " current=" ++ numbered_at marks current)

abbrev pub origin_at : MarksView → NumberedWarrant → List ℕ
origin_at marks origin.Register = codes "register"
origin_at marks (origin.Context context) = codes "context " ++ numbered_at marks context
origin_at marks (origin.Walked context walk current) = walked_text marks context walk current

-- where the translation came from that an access used
abbrev pub used_text : MarksView → Option NumberedWarrant → List ℕ
used_text marks None = codes "none, it is denied"
used_text marks (Some used) = origin_at marks used

abbrev pub warrant_text : MarksView → Option NumberedWarrant → List ℕ
warrant_text marks used = codes "    warrant: " ++ used_text marks used ++ 10 ∷ []

-- an access that was stale
abbrev pub stale_text : MarksView → Option StaleAccess → List ℕ
stale_text marks None = []
stale_text marks (Some stale) = codes "    stale: " ++ access_text (named_at marks (served_line stale)) stale ++ 10 ∷ []

-- where an access may still go that wasn't settled; the last invalidation before it is this
abbrev pub unsettled_text : MarksView → Option Invalidation → Option UnsettledAccess → List ℕ
unsettled_text marks last None = []
unsettled_text marks last (Some access) = codes "    unsettled:" ++ elsewhere_at marks last access.unsettled access.request.iova ++ 10 ∷ []
