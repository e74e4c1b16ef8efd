-- When a device's access is stale: RISC-V IOMMU Architecture 1.0, "Caching in-memory data structures".
use Rattle.std.specs.Prelude.{◌≢◌, ◌==◌, ◌&&◌, Bool, true, false, Option, Some, None, if◌then◌else◌}
use Rattle.iom_bits.specs.Bits.{flag}
use Rattle.iom_bits.specs.Causes.{cause_number}
use Rattle.iom_ddt.specs.declared.context.Context.{Context}
use Rattle.iom_ddt.specs.declared.context.MsiTable.{MsiTable}
use Rattle.iom_nested.specs.declared.translation.Hit.{Hit}
use Rattle.iom_core.specs.State.{Machine}
use Rattle.iom_core.specs.Access.{led}
use Rattle.iom_core.specs.Looking.{by_tables, uncached}
use Rattle.iom_core.specs.declared.access.Denial.{Denial}
use Rattle.iom_core.specs.declared.access.Request.{Request}
use Rattle.iom_core.specs.declared.way.Way.{Way}
use Rattle.iom_core.specs.declared.way.Way.TheVariants as way

-- A request is stale where the way that it is led differs from the way that the same machine with both caches empty leads it.
abbrev pub IsStale : Machine → Request → Type 0
IsStale m request = (led m request).way ≢ (led (uncached m) request).way

-- tests for equality
abbrev pub is_same_msi : MsiTable → MsiTable → Bool
is_same_msi msi other = msi.ppn == other.ppn && msi.mask == other.mask && msi.pattern == other.pattern && flag msi.flat == flag other.flat

abbrev pub is_same_context : Context → Context → Bool
is_same_context c other =
    flag c.dtf == flag other.dtf && c.custom == other.custom && c.gmode == other.gmode && c.gppn == other.gppn
    && c.gscid == other.gscid && flag c.tav == flag other.tav && c.pscid == other.pscid && c.mode == other.mode
    && c.ppn == other.ppn && is_same_msi c.msi other.msi

abbrev pub is_same_hit : Hit → Hit → Bool
is_same_hit hit other =
    hit.frame == other.frame && hit.level == other.level && flag hit.global == flag other.global && flag hit.napot == flag other.napot

abbrev pub is_same_denial : Denial → Denial → Bool
is_same_denial denial other =
    cause_number denial.cause == cause_number other.cause && denial.iotval2 == other.iotval2
    && flag denial.reported == flag other.reported

unfoldable pub is_same_way : Way → Way → Bool
is_same_way way.Register way.Register = true
is_same_way (way.Context c) (way.Context other) = is_same_context c other
is_same_way (way.Walked c hit) (way.Walked other found) = is_same_context c other && is_same_hit hit found
is_same_way (way.Denied denial) (way.Denied other) = is_same_denial denial other
is_same_way _ _ = false

-- what the tables say of a request that is stale, by these tests; None: it isn't
abbrev pub differing : Way → Way → Option Way
differing now tables = if is_same_way now tables then None else Some tables

unfoldable pub stale_way : Machine → Request → Option Way
stale_way m request = differing (led m request).way (by_tables m request)
