-- What an access read from the tables, by the events that its witness notices: RISC-V IOMMU Architecture 1.0, "Caching in-memory data structures".
use Rattle.std.specs.Prelude.{false, Some}
use Rattle.iom_core.specs.Looking.{is_context_read, is_page_read, is_read}
use Rattle.iom_core.specs.declared.looking.Lookup.{Lookup}
use Rattle.iom_core.specs.declared.witness.Event.{Event}
use Rattle.iom_core.specs.declared.witness.Event.TheVariants as event
use Rattle.iom_account.specs.declared.reads.Reads.{Reads}

abbrev pub nothing_read : Reads
nothing_read = record { context = false; page = false }

abbrev pub read_noticed : Reads → Event → Reads
read_noticed reads (event.Context from did context) = record reads { context = is_read (Some from) }
read_noticed reads (event.Page from key hit) = record reads { page = is_read (Some from) }
read_noticed reads (event.Way way) = reads

-- what an access read from the tables, by what was seen of it
abbrev pub reads_of : Lookup → Reads
reads_of seen = record { context = is_context_read seen; page = is_page_read seen }
