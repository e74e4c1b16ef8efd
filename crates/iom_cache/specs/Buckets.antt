-- How the translation cache finds a key without looking at all places: by buckets of the live ones, of which a key's is looked at
-- from its newest fill on. Their number and the bucket of a key are the model's.
use Rattle.std.specs.Prelude.{ℕ, suc, ◌+◌, ◌%◌, ◌==◌, Bool, false, List, [], ◌∷◌, Option, Some, None, if◌then◌else◌}
use Rattle.iom_nested.specs.declared.translation.Hit.{Hit}
use Rattle.iom_cache.specs.declared.key.Key.{Key}
use Rattle.iom_cache.specs.Keys.{same_key}

-- the bucket of a key, one of 32
unfoldable pub bucket_of : Key → ℕ
bucket_of key = (key.page % 32 + key.did % 32) % 32

-- whether a place is live and of the bucket
abbrev pub is_in : ℕ → Option (Key × Hit) → Bool
is_in bucket None = false
is_in bucket (Some entry) = bucket_of entry.0 == bucket

-- how many places are
abbrev pub count_in : ℕ → List (Option (Key × Hit)) → ℕ
count_in bucket [] = 0
count_in bucket (place ∷ places) = if is_in bucket place then suc (count_in bucket places) else count_in bucket places

-- whether the place has the key
abbrev pub has_key : Key → Option (Key × Hit) → Bool
has_key key None = false
has_key key (Some entry) = same_key key entry.0

-- the places from the one with the key on; `all` where none has it
abbrev pub from_key : Key → List (Option (Key × Hit)) → List (Option (Key × Hit)) → List (Option (Key × Hit))
from_key key all [] = all
from_key key all (place ∷ places) = if has_key key place then place ∷ places else from_key key all places

-- how many keys a look-up compares: those of the live places of the key's bucket that were filled at or after the place found, or of
-- all of that bucket where none is found
abbrev pub compared : Key → List (Option (Key × Hit)) → ℕ
compared key places = count_in (bucket_of key) (from_key key places places)
