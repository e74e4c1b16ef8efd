-- What a request would do as the next access: RISC-V IOMMU Architecture 1.0, "Process to translate an IOVA" and "Caching in-memory
-- data structures".
use Rattle.std.specs.Prelude.{Bool, true, false, [], Option, Some, None}
use Rattle.iom_ddt.specs.declared.context.Context.{Context}
use Rattle.iom_core.specs.Access.{led, witness_after}
use Rattle.iom_core.specs.State.{Machine}
use Rattle.iom_core.specs.declared.access.Request.{Request}
use Rattle.iom_core.specs.declared.looking.Lookup.{Lookup}
use Rattle.iom_core.specs.declared.way.Way.{Way}
use Rattle.iom_core.specs.declared.way.Way.TheVariants.{Context as ByContext, Register as ByRegister}
use Rattle.iom_core.specs.declared.witness.Event.{Event}
use Rattle.iom_core.specs.declared.witness.Event.TheVariants as event
use Rattle.iom_core.specs.declared.witness.Source.{Source}
use Rattle.iom_core.specs.declared.witness.Source.TheVariants as source

-- a machine with both its caches emptied
abbrev pub uncached : Machine → Machine
uncached m = record m { contexts = []; pages = [] }

-- the way where nothing is cached: what the tables say
abbrev pub by_tables : Machine → Request → Way
by_tables m request = (led (uncached m) request).way

-- what is kept of the events of an access
abbrev pub nothing_seen : Lookup
nothing_seen = record { context = None; page = None; way = ByRegister }

abbrev pub noticed : Lookup → Event → Lookup
noticed seen (event.Context from did context) = record seen { context = Some (from, context) }
noticed seen (event.Page from key hit) = record seen { page = Some from }
noticed seen (event.Way way) = record seen { way = way }

abbrev pub seen_in : Machine → Request → Lookup
seen_in m request = witness_after noticed nothing_seen request (led m request)

-- the caches alone lead it: both stages of the context are Bare, or the page is found too
abbrev pub is_led_by : Option Source → Way → Bool
is_led_by (Some source.Found) way = true
is_led_by _ (ByContext context) = true
is_led_by _ way = false

abbrev pub is_cached_by : Option (Source × Context) → Option Source → Way → Bool
is_cached_by (Some (source.Found, context)) page way = is_led_by page way
is_cached_by _ page way = false

abbrev pub is_cached : Lookup → Bool
is_cached seen = is_cached_by seen.context seen.page seen.way

abbrev pub is_read : Option Source → Bool
is_read (Some source.Read) = true
is_read _ = false

abbrev pub is_read_context : Option (Source × Context) → Bool
is_read_context (Some (source.Read, context)) = true
is_read_context _ = false

-- what was read, and not found: an access that a device makes fills it
abbrev pub is_context_read : Lookup → Bool
is_context_read seen = is_read_context seen.context

abbrev pub is_page_read : Lookup → Bool
is_page_read seen = is_read seen.page
