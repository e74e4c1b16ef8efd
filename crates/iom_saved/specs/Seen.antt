-- The words of what stands at a place of a cache.
use Rattle.std.specs.Prelude.{ℕ, List, [], Some, None}
use Rattle.iom_ddt.specs.declared.context.Context.{Context}
use Rattle.iom_nested.specs.declared.translation.Hit.{Hit}
use Rattle.iom_cache.specs.declared.key.Key.{Key}
use Rattle.iom_cache.specs.declared.place.Place.{Place}
use Rattle.iom_cache.specs.declared.place.Place.TheVariants.{Beyond, Empty, Live}
use Rattle.iom_saved.specs.Caches.{context_place_words, page_place_words}
use Rattle.iom_saved.specs.Kept.{IsContextPlace, IsPagePlace}

-- none beyond the last place
abbrev pub context_seen_words : Place ℕ Context → List ℕ
context_seen_words Beyond = []
context_seen_words Empty = context_place_words None
context_seen_words (Live did context) = context_place_words (Some (did, context))

abbrev pub page_seen_words : Place Key Hit → List ℕ
page_seen_words Beyond = []
page_seen_words Empty = page_place_words None
page_seen_words (Live key hit) = page_place_words (Some (key, hit))

-- what stands there may stand at a place
abbrev pub IsContextSeen : Place ℕ Context → Type 0
IsContextSeen Beyond = Unit {0}
IsContextSeen Empty = IsContextPlace None
IsContextSeen (Live did context) = IsContextPlace (Some (did, context))

abbrev pub IsPageSeen : Place Key Hit → Type 0
IsPageSeen Beyond = Unit {0}
IsPageSeen Empty = IsPagePlace None
IsPageSeen (Live key hit) = IsPagePlace (Some (key, hit))
