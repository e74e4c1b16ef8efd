-- A device's access: where it leads, what it leaves in the caches, and how the bus answers it. RISC-V IOMMU Architecture 1.0,
-- "Process to translate an IOVA", "Caching in-memory data structures" and "Fault/Event-Queue (FQ)".
use Rattle.std.specs.Prelude.{ℕ, ◌+◌, ◌*◌, ◌%◌, Bool, true, false, List, [], Option, Some, None, Result, Ok, Err, if◌then◌else◌}
use Rattle.iom_bits.specs.declared.causes.Cause.{Cause}
use Rattle.iom_bits.specs.declared.causes.Cause.TheVariants as cause
use Rattle.iom_bits.specs.declared.causes.Kind.{Kind}
use Rattle.iom_bits.specs.declared.causes.Kind.TheVariants as kind
use Rattle.iom_bits.specs.Features.{Features}
use Rattle.iom_mem.specs.Memory.{Memory, bytes_at}
use Rattle.iom_messages.specs.Messages.{Messages, can_put, memory_put, messages_put}
use Rattle.iom_regs.specs.Table.{Registers}
use Rattle.iom_regs.specs.Views.{mode_of}
use Rattle.iom_regs.specs.declared.views.Mode.{Mode}
use Rattle.iom_regs.specs.declared.views.Mode.TheVariants as mode
use Rattle.iom_ddt.specs.Contexts.{is_bare}
use Rattle.iom_ddt.specs.Directory.{is_too_wide, levels_of, located}
use Rattle.iom_ddt.specs.Formats.{context_format}
use Rattle.iom_ddt.specs.declared.context.Context.{Context}
use Rattle.iom_nested.specs.Nested.{translation}
use Rattle.iom_nested.specs.declared.translation.Fault.{Fault}
use Rattle.iom_nested.specs.declared.translation.Hit.{Hit}
use Rattle.iom_queue.specs.Delivery.{Delivery, delivered}
use Rattle.iom_queue.specs.Denials.{denial_record, is_reported}
use Rattle.iom_cache.specs.Keys.{key_of, same_key, same_did}
use Rattle.iom_cache.specs.Places.{find, filled_by, Look, look}
use Rattle.iom_cache.specs.declared.key.Key.{Key}
use Rattle.iom_virtq.specs.Bus.{Ask, Read, Write, BusReply, reply_of}
use Rattle.iom_virtq.specs.declared.access.Access.TheVariants as access
use Rattle.iom_core.specs.State.{Machine, context_room, page_room}
use Rattle.iom_core.specs.declared.access.Denial.{Denial}
use Rattle.iom_core.specs.declared.access.Request.{Request}
use Rattle.iom_core.specs.declared.witness.Event.{Event}
use Rattle.iom_core.specs.declared.witness.Event.TheVariants as event
use Rattle.iom_core.specs.declared.witness.Source.{Source}
use Rattle.iom_core.specs.declared.witness.Source.TheVariants as source
use Rattle.iom_core.specs.declared.way.Way.{Way}
use Rattle.iom_core.specs.declared.way.Way.TheVariants.{Register as ByRegister, Context as ByContext, Walked, Denied}

-- A request is led by ddtp, whose mode is Bare (ByRegister), or by its device's context, both of whose stages are Bare (ByContext): the
-- address is the IOVA itself; by the stages of the context, which lead the page to a frame (Walked); or nowhere (Denied).

-- the way; the context that leads the request, also where it is denied under it; and what is filled in each cache
pub record Led : Type 0 where
  pub way : Way
  pub by : Option Context
  pub context : Option (ℕ × Context)
  pub page : Option (Key × Hit)

-- a fault before any page table is read: it has no guest-physical address, and always makes a record
abbrev pub plain : Cause → Denial
plain why = record { cause = why; iotval2 = 0; reported = true }

-- a fault of a translation: the context's DTF may silence it
abbrev pub translating : Context → Fault → Denial
translating context fault =
    record { cause = fault.cause; iotval2 = fault.iotval2; reported = is_reported fault.cause context.dtf }

-- the context of a device id, from its live place or else from the directory; an id that is too wide for the directory has
-- none, whatever is cached
abbrev pub live_context : Machine → ℕ → Option Context
live_context m did =
    if is_too_wide (context_format m.registers.features) (levels_of (mode_of m.registers)) did then None else find (same_did did) m.contexts

unfoldable pub context_look : Machine → ℕ → Look ℕ Context Cause
context_look m did = look did (live_context m did) (located m.memory m.registers did)

-- where the page leads, from its live place or else by the stages
abbrev pub request_key : Request → Context → Key
request_key request context = key_of context request.did request.iova request.kind

unfoldable pub page_look : Memory → Features → List (Option (Key × Hit)) → Request → Context → Look Key Hit Fault
page_look memory features pages request context =
    look (request_key request context) (find (same_key (request_key request context)) pages)
    (translation memory features context request.iova request.kind)

-- denied before any page table is read
abbrev pub refused : Cause → Option (ℕ × Context) → Led
refused why fill = record { way = Denied (plain why); by = None; context = fill; page = None }

-- by where the stages of a context lead the page
abbrev pub way_to : Context → Result Hit Fault → Way
way_to context (Ok hit) = Walked context hit
way_to context (Err fault) = Denied (translating context fault)

-- below a context: the way, and the page that is filled
pub record Under : Type 0 where
  pub way : Way
  pub page : Option (Key × Hit)

abbrev pub led_under : Memory → Features → List (Option (Key × Hit)) → Request → Context → Under
led_under memory features pages request context =
    if is_bare context then record { way = ByContext context; page = None }
    else record { way = way_to context (page_look memory features pages request context).used; page = (page_look memory features pages request context).filled }

-- by the context, which is filled before the page is walked, so also where the walk fails
abbrev pub led_by_context : Machine → Request → Option (ℕ × Context) → Result Context Cause → Led
led_by_context m request fill (Ok context) =
    record { way = (led_under m.memory m.registers.features m.pages request context).way; by = Some context; context = fill; page = (led_under m.memory m.registers.features m.pages request context).page }
led_by_context m request fill (Err why) = refused why fill

-- by the mode: with Off all is disallowed, with Bare the address is the IOVA itself, otherwise the directory has the device's
-- context
abbrev pub led_by_mode : Mode → Machine → Request → Led
led_by_mode mode.Off m request = refused cause.Off None
led_by_mode mode.Bare m request = record { way = ByRegister; by = None; context = None; page = None }
led_by_mode (mode.Levels levels) m request =
    led_by_context m request (context_look m request.did).filled (context_look m request.did).used

unfoldable pub led : Machine → Request → Led
led m request = led_by_mode (mode_of m.registers) m request

-- the physical address that a way leads an IOVA to
abbrev pub address_on : Way → ℕ → Result ℕ Denial
address_on ByRegister iova = Ok iova
address_on (ByContext context) iova = Ok iova
address_on (Walked context hit) iova = Ok (hit.frame * 4096 + iova % 4096)
address_on (Denied denial) iova = Err denial

-- what is found in a live place isn't filled; what is read is
abbrev pub source_of : {X : Type 0} → Option X → Source
source_of None = source.Found
source_of (Some fill) = source.Read

-- The events of an access that is led so, in the order in which its witness notices them: the context that leads it, the page that
-- it hits, each with where it comes from, and last the way.
abbrev pub context_told : {S : Type 0} → (S → Event → S) → S → ℕ → Option Context → Option (ℕ × Context) → S
context_told next s did None fill = s
context_told next s did (Some context) fill = next s (event.Context (source_of fill) did context)

abbrev pub page_told : {S : Type 0} → (S → Event → S) → S → Request → Way → Option (Key × Hit) → S
page_told next s request (Walked context hit) fill = next s (event.Page (source_of fill) (request_key request context) hit)
page_told next s request _ fill = s

abbrev pub under_told : {S : Type 0} → (S → Event → S) → S → Request → Under → S
under_told next s request under = next (page_told next s request under.way under.page) (event.Way under.way)

abbrev pub witness_after : {S : Type 0} → (S → Event → S) → S → Request → Led → S
witness_after next s request led =
    next (page_told next (context_told next s request.did led.by led.context) request led.way led.page) (event.Way led.way)

-- a witness after the access that a request is
abbrev pub told_of : {S : Type 0} → (S → Event → S) → S → Machine → Request → S
told_of next s m request = witness_after next s request (led m request)

-- a machine by its parts
abbrev pub machine_of : Memory → Registers → List (Option (ℕ × Context)) → List (Option (Key × Hit)) → Machine
machine_of memory registers contexts pages =
    record { memory = memory; registers = registers; contexts = contexts; pages = pages }

-- places with a fill, in caches that are filled, and as they are in those that aren't
abbrev pub filled_where : {K V : Type 0} → Bool → ℕ → Option (K × V) → List (Option (K × V)) → List (Option (K × V))
filled_where fills room None places = places
filled_where true room (Some entry) places = filled_by room (Some entry) places
filled_where false room (Some entry) places = places

-- the machine after the look-ups
abbrev pub with_fills : Machine → Led → Machine
with_fills m led = record m {
  contexts = filled_by context_room led.context m.contexts;
  pages = filled_by page_room led.page m.pages;
}

-- the request of what a device asks
abbrev pub access_to : ℕ → ℕ → Kind → Request
access_to did iova kind = record { did = did; iova = iova; kind = kind }

abbrev pub request_of : ℕ → Ask → Request
request_of did (Read iova count) = access_to did iova kind.Read
request_of did (Write iova bytes) = access_to did iova kind.Write

-- how the bus answers, and what memory, the messages and the registers are then
pub record Effect : Type 0 where
  pub reply : BusReply
  pub memory : Memory
  pub messages : Messages
  pub registers : Registers

-- nothing is changed
abbrev pub replied : Machine → Messages → BusReply → Effect
replied m messages reply = record { reply = reply; memory = m.memory; messages = messages; registers = m.registers }

-- the bytes at a physical address are read from memory; one of them may be outside
abbrev pub reply_with : Option (List ℕ) → BusReply
reply_with (Some bytes) = reply_of access.Ok bytes
reply_with None = reply_of access.Outside []

-- or they are written to memory, or sent as a message, or go nowhere
abbrev pub granted : Machine → Messages → Ask → ℕ → Effect
granted m messages (Read iova count) addr = replied m messages (reply_with (bytes_at m.memory addr count))
granted m messages (Write iova bytes) addr = record {
  reply = reply_of (if can_put m.memory messages addr bytes then access.Ok else access.Outside) [];
  memory = memory_put m.memory addr bytes;
  messages = messages_put m.memory messages addr bytes;
  registers = m.registers;
}

-- a denial's record is delivered to the fault queue
unfoldable pub record_left : Registers → Memory → Request → Denial → Delivery
record_left registers memory request denial =
    if denial.reported
    then delivered registers memory
    (denial_record denial.cause request.kind request.did request.iova denial.iotval2)
    else record { registers = registers; memory = memory }

-- the machine with what a delivery leaves
abbrev pub with_delivery : Machine → Delivery → Machine
with_delivery m left = record m { memory = left.memory; registers = left.registers }

-- the machine after a request for a translation, which makes no access: what was read is cached, and a denial leaves its record
abbrev pub after_request : Machine → Request → Result ℕ Denial → Machine
after_request m request (Ok addr) = with_fills m (led m request)
after_request m request (Err denial) = with_delivery (with_fills m (led m request)) (record_left m.registers m.memory request denial)

abbrev pub denied : Machine → Messages → Request → Denial → Effect
denied m messages request denial = record {
  reply = reply_of (access.Denied denial.cause) [];
  memory = (record_left m.registers m.memory request denial).memory;
  messages = messages;
  registers = (record_left m.registers m.memory request denial).registers;
}

abbrev pub effect_at : Machine → Messages → Request → Ask → Result ℕ Denial → Effect
effect_at m messages request ask (Ok addr) = granted m messages ask addr
effect_at m messages request ask (Err denial) = denied m messages request denial

-- what a device asks, at the address that its way leads to
unfoldable pub effect : Machine → Messages → ℕ → Ask → Effect
effect m messages did ask =
    effect_at m messages (request_of did ask) ask
    (address_on (led m (request_of did ask)).way (request_of did ask).iova)

-- how the bus answers what a device asks, and the machine and the messages that it leaves
pub record Served : Type 0 where
  pub reply : BusReply
  pub machine : Machine
  pub messages : Messages

abbrev pub served : Machine → Messages → ℕ → Ask → Served
served m messages did ask = record {
  reply = (effect m messages did ask).reply;
  machine = record {
    memory = (effect m messages did ask).memory;
    registers = (effect m messages did ask).registers;
    contexts = filled_by context_room (led m (request_of did ask)).context m.contexts;
    pages = filled_by page_room (led m (request_of did ask)).page m.pages;
  };
  messages = (effect m messages did ask).messages;
}
