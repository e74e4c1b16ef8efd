-- The places of both caches, at a script's end and behind fences: each that is stale is a test point that fails.
use Rattle.std.specs.Prelude.{ℕ, zero, suc, ◌+◌, ◌||◌, ◌++◌, Bool, List, codes, bytes_eq, slice_get, Option, Some, None, if◌then◌else◌}
use Rattle.iom_text.specs.Texts.{numeral}
use Rattle.iom_nested.specs.declared.translation.Hit.{Hit}
use Rattle.iom_cache.specs.Places.{place_in}
use Rattle.iom_cache.specs.declared.key.Key.{Key}
use Rattle.iom_cache.specs.declared.place.Place.{Place}
use Rattle.iom_cache.specs.declared.place.Place.TheVariants as place
use Rattle.iom_core.specs.State.{Machine}
use Rattle.iom_tables.specs.Standing.{request_of}
use Rattle.iom_core.specs.declared.access.Request.{Request}
use Rattle.iom_debug.specs.Escaping.{escaped}
use Rattle.iom_debug.specs.Ways.{stale_context_text, stale_page_text}
use Rattle.iom_debug.specs.Places.{PlaceView}
use Rattle.iom_check.specs.Scoring.{Score, Told, about, failed, is_known_page, quiet}
use Rattle.iom_check.specs.declared.looking.Cache.{Cache}
use Rattle.iom_check.specs.declared.looking.Cache.TheVariants as cache

-- what `stale context I` and `stale page I` answer of a place that isn't stale
abbrev pub is_current : List ℕ → Bool
is_current answer = bytes_eq answer (codes "none") || (bytes_eq answer (codes "empty") || bytes_eq answer (codes "same"))

abbrev pub cache_told : Cache → List ℕ
cache_told cache.Contexts = codes "place context "
cache_told cache.Pages = codes "place page "

-- what they answer of a place
abbrev pub standing_at : Machine → Cache → ℕ → List ℕ
standing_at m cache.Contexts i = stale_context_text m i
standing_at m cache.Pages i = stale_page_text m i

unfoldable pub place_title : Cache → ℕ → List ℕ
place_title cache i = cache_told cache ++ numeral 10 i

unfoldable pub place_message : List ℕ → List ℕ → List ℕ
place_message title answer = title ++ (codes " is stale: the tables now say " ++ escaped answer)

-- the request that a place of the translation cache is found by, at the first byte of its page
abbrev pub request_in : Place Key Hit → Option Request
request_in place.Beyond = None
request_in place.Empty = None
request_in (place.Live key hit) = Some (request_of key)

-- the same of a place of either cache; of a context none
abbrev pub asked_at : Machine → Cache → ℕ → Option Request
asked_at m cache.Contexts i = None
asked_at m cache.Pages i = request_in (place_in (slice_get m.pages i))

-- a place that is stale, unless a failure was about its page
abbrev pub looked_at : Score → PlaceView → Cache → ℕ → List ℕ → Option Request → Told
looked_at s place cache i answer asked =
    if is_current answer || is_known_page s.pages asked
    then quiet s
    else about (failed s place (place_title cache i) (place_message (place_title cache i) answer)) asked None

-- so many places from place i on
unfoldable pub looked : Machine → Cache → PlaceView → Score → ℕ → ℕ → Told
looked m cache place s i zero = quiet s
looked m cache place s i (suc count) =
    let first = looked_at s place cache i (standing_at m cache i) (asked_at m cache i) in
    let rest = looked m cache place first.after (i + 1) count in
    record { said = first.said ++ rest.said; after = rest.after }

-- a context cache of 16 places, and a translation cache of 64
unfoldable pub all_looked : Machine → PlaceView → Score → Told
all_looked m place s =
    let contexts = looked m cache.Contexts place s 0 16 in
    let pages = looked m cache.Pages place contexts.after 0 64 in
    record { said = contexts.said ++ pages.said; after = pages.after }

abbrev pub looked_by : Machine → PlaceView → Score → Told
looked_by m place s = if s.rules.fails_if_stale then all_looked m place s else quiet s
