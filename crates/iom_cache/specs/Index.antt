-- What the index of the translation cache keeps: for each bucket the slot of its newest live place, and behind each slot the one that
-- its bucket goes on with. A place keeps its slot from its fill on; the slots go round. And for each tag how many live places have it.
use Rattle.std.specs.Prelude.{ℕ, zero, suc, ◌≡◌, ◌≢◌, ◌+◌, ◌-◌, ◌*◌, ◌%◌, ◌<◌, ◌==◌, ◌⊎◌, min, Bool, true, false, List, [], ◌∷◌, length, get_or, set, nat_lt, Option, Some, None, if◌then◌else◌}
use Rattle.iom_bits.specs.declared.causes.Kind.{Kind}
use Rattle.iom_bits.specs.declared.causes.Kind.TheVariants.{Read, Write}
use Rattle.iom_nested.specs.declared.translation.Hit.{Hit}
use Rattle.iom_cache.specs.declared.key.Key.{Key}
use Rattle.iom_cache.specs.declared.index.Index.{Index}
use Rattle.iom_cache.specs.Buckets.{bucket_of, is_in}
use Rattle.iom_cache.specs.Keys.{same_key}
use Rattle.iom_cache.specs.Places.{find}

-- the place at a slot, where the oldest place is at slot `first`; 64 where there is no such slot
unfoldable pub position : ℕ → ℕ → ℕ
position first slot = if nat_lt slot 64 then (slot + 64 - first) % 64 else 64

abbrev pub is_in_at : ℕ → List (Option (Key × Hit)) → ℕ → Bool
is_in_at bucket places n = is_in bucket (get_or places n None)

-- From a slot on a bucket's places below n come newest first: at n - 1 is the slot's own place, and the slot behind it leads on, or it
-- isn't, and n - 1 isn't of the bucket. What stands behind the oldest is a place that isn't older, or none.
abbrev pub LeadsAt : Bool → ℕ → ℕ → Type 0 → Type 0 → Type 0
LeadsAt true at n behind below = (at ≡ n) × behind
LeadsAt false at n behind below = (at ≢ n) × below

abbrev pub Leads : List ℕ → ℕ → ℕ → List (Option (Key × Hit)) → ℕ → ℕ → Type 0
Leads links first bucket places slot zero = Unit {0}
Leads links first bucket places slot (suc n) = LeadsAt (is_in_at bucket places n) (position first slot) n
    (Leads links first bucket places (get_or links slot 64) n) (Leads links first bucket places slot n)

-- a place there is, or none
abbrev pub IsWithin : ℕ → ℕ → Type 0
IsWithin at count = (at < count) ⊎ (at ≡ 64)

-- a read and a write of a page have different tags
abbrev pub side_of : Kind → ℕ
side_of Read = 0
side_of Write = 1

-- the tag of a key, one of 256
unfoldable pub tag_of : Key → ℕ
tag_of key = 2 * (key.page % 128) + side_of key.kind

abbrev pub has_tag : ℕ → Option (Key × Hit) → Bool
has_tag tag None = false
has_tag tag (Some entry) = tag_of entry.0 == tag

-- how many live places have a key with the tag
abbrev pub tally : ℕ → List (Option (Key × Hit)) → ℕ
tally tag [] = 0
tally tag (place ∷ places) = if has_tag tag place then suc (tally tag places) else tally tag places

pub record IsIndex (index : Index) (places : List (Option (Key × Hit))) : Type 0 where
  pub heads : length index.heads ≡ 32
  pub links : length index.links ≡ 64
  pub first : index.first < 64
  pub leads : (bucket : ℕ) → bucket < 32 →
      Leads index.links index.first bucket places (get_or index.heads bucket 64) (length places)
  pub within : (bucket : ℕ) → bucket < 32 → IsWithin (position index.first (get_or index.heads bucket 64)) (length places)
  pub counts : length index.counts ≡ 256
  pub counted : (tag : ℕ) → tag < 256 → get_or index.counts tag 0 ≡ tally tag places

-- a bucket that starts with the oldest place has none once that leaves
abbrev pub cleared : List ℕ → ℕ → Option (Key × Hit) → List ℕ
cleared heads first None = heads
cleared heads first (Some entry) =
    if get_or heads (bucket_of entry.0) 64 == first then set heads (bucket_of entry.0) 64 else heads

-- the hit of a place that has the key
abbrev pub hit_of : Key → Option (Key × Hit) → Option Hit
hit_of key None = None
hit_of key (Some entry) = if same_key key entry.0 then Some entry.1 else None

-- no two live places have one key
abbrev pub AreApart : List (Option (Key × Hit)) → Type 0
AreApart [] = Unit {0}
AreApart (None ∷ places) = AreApart places
AreApart (Some entry ∷ places) = (find (same_key entry.0) places ≡ None) × AreApart places

-- a place with the tag is filled
abbrev pub counted_more : List ℕ → ℕ → List ℕ
counted_more counts tag = set counts tag (min (get_or counts tag 0 + 1) 255)

-- the oldest place leaves
abbrev pub counted_less : List ℕ → Option (Key × Hit) → List ℕ
counted_less counts None = counts
counted_less counts (Some entry) = set counts (tag_of entry.0) (get_or counts (tag_of entry.0) 0 - 1)
