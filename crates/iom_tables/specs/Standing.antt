-- Whether the tables in memory say now what a live place of a cache holds: RISC-V IOMMU Architecture 1.0, "Caching in-memory data
-- structures". A cache may hold what they don't say any more, until it is invalidated.
use Rattle.std.specs.Prelude.{ℕ, ◌≡◌, ◌*◌, ◌%◌, ◌^◌, ◌&&◌, Bool, false, Result, Ok, Err, if◌then◌else◌}
use Rattle.iom_bits.specs.declared.causes.Cause.{Cause}
use Rattle.iom_regs.specs.Views.{mode_of}
use Rattle.iom_regs.specs.declared.views.Mode.{Mode}
use Rattle.iom_regs.specs.declared.views.Mode.TheVariants as mode
use Rattle.iom_ddt.specs.Directory.{located}
use Rattle.iom_ddt.specs.declared.context.Context.{Context}
use Rattle.iom_nested.specs.declared.translation.Hit.{Hit}
use Rattle.iom_cache.specs.Keys.{same_key}
use Rattle.iom_cache.specs.declared.key.Key.{Key}
use Rattle.iom_cache.specs.declared.place.Place.{Place}
use Rattle.iom_cache.specs.declared.place.Place.TheVariants as place
use Rattle.iom_core.specs.State.{Machine, device_id_end}
use Rattle.iom_core.specs.Access.{request_key}
use Rattle.iom_core.specs.declared.access.Request.{Request}
use Rattle.iom_core.specs.Looking.{by_tables}
use Rattle.iom_tables.specs.Stale.{is_same_context, is_same_hit}
use Rattle.iom_tables.specs.declared.standing.Located.{Located}
use Rattle.iom_tables.specs.declared.standing.Located.TheVariants as found
use Rattle.iom_tables.specs.declared.standing.Standing.{Standing}
use Rattle.iom_tables.specs.declared.standing.Standing.TheVariants as standing
use Rattle.iom_core.specs.declared.way.Way.{Way}
use Rattle.iom_core.specs.declared.way.Way.TheVariants as way

-- the answer of a place, by whether the tables say of a key that it holds this value, and by what they say of the key
abbrev pub IsStanding : {K V T : Type 0} → (K → V → Type 0) → (K → T) → Place K V → Standing T → Type 0
IsStanding IsSaid say place.Beyond answer = answer ≡ standing.Beyond
IsStanding IsSaid say place.Empty answer = answer ≡ standing.Empty
IsStanding IsSaid say (place.Live key value) standing.Beyond = ⊥
IsStanding IsSaid say (place.Live key value) standing.Empty = ⊥
IsStanding IsSaid say (place.Live key value) standing.Current = IsSaid key value
IsStanding IsSaid say (place.Live key value) (standing.Stale now) = (¬ IsSaid key value) × (now ≡ say key)

-- what is found for a device id, by ddtp's mode and the directory
abbrev pub found_by : Mode → Result Context Cause → Located
found_by mode.Off verdict = found.NoDirectory
found_by mode.Bare verdict = found.NoDirectory
found_by (mode.Levels levels) (Ok context) = found.Context context
found_by (mode.Levels levels) (Err why) = found.Fault why

-- a device id has 24 bits
abbrev pub found_now : Machine → ℕ → Located
found_now m did = found_by (mode_of m.registers) (located m.memory m.registers (did % device_id_end))

-- the tables say that the device has this context
abbrev pub IsContextNow : Machine → ℕ → Context → Type 0
IsContextNow m did context = found_now m did ≡ found.Context context

-- the request of a key: at the first byte of its page, of which an IOVA has 52 bits
abbrev pub request_of : Key → Request
request_of key = record { did = key.did % device_id_end; iova = key.page % 2 ^ 52 * 4096; kind = key.kind }

-- the tables say that the request of the key hits this, under a context by which it has that very key
abbrev pub IsHitNow : Machine → Key → Hit → Type 0
IsHitNow m key hit =
    (context : Context)
    × (by_tables m (request_of key) ≡ way.Walked context hit)
    × (request_key (request_of key) context ≡ key)

-- tests for `IsContextNow` and `IsHitNow`
abbrev pub is_found : Located → Context → Bool
is_found found.NoDirectory context = false
is_found (found.Context now) context = is_same_context now context
is_found (found.Fault why) context = false

abbrev pub is_context_now : Machine → ℕ → Context → Bool
is_context_now m did context = is_found (found_now m did) context

abbrev pub is_hit_by : Way → Request → Key → Hit → Bool
is_hit_by way.Register request key hit = false
is_hit_by (way.Context context) request key hit = false
is_hit_by (way.Walked context now) request key hit = is_same_hit now hit && same_key (request_key request context) key
is_hit_by (way.Denied denial) request key hit = false

abbrev pub is_hit_now : Machine → Key → Hit → Bool
is_hit_now m key hit = is_hit_by (by_tables m (request_of key)) (request_of key) key hit

abbrev pub standing_of : {K V T : Type 0} → (K → V → Bool) → (K → T) → Place K V → Standing T
standing_of is_said say place.Beyond = standing.Beyond
standing_of is_said say place.Empty = standing.Empty
standing_of is_said say (place.Live key value) = if is_said key value then standing.Current else standing.Stale (say key)
