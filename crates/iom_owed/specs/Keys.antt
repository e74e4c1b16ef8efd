-- What the numbers of requests are found by.
use Rattle.std.specs.Prelude.{ℕ, List, map, if◌then◌else◌}
use Rattle.iom_bits.specs.declared.causes.Kind.TheVariants.{Read, Write}
use Rattle.iom_core.specs.declared.access.Request.{Request}
use Rattle.iom_owed.specs.declared.noting.Made.{Made}
use Rattle.iom_owed.specs.declared.noting.RequestKey.{RequestKey}

abbrev pub request_at : RequestKey → Request
request_at key = record { iova = key.iova; did = key.did; kind = if key.writes then Write else Read }

abbrev pub made_at : RequestKey × ℕ → Made
made_at entry = record { request = request_at entry.0; number = entry.1 }

abbrev pub made_in : List (RequestKey × ℕ) → List Made
made_in entries = map made_at entries
