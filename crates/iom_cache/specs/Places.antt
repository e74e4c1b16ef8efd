-- A cache is a list of places, oldest first; None is an empty place. RISC-V IOMMU Architecture 1.0, "Caching in-memory data
-- structures", leaves the number of entries and their replacement to the implementation; this is the model's.
use Rattle.std.specs.Prelude.{ℕ, suc, ◌++◌, ◌==◌, ◌&&◌, Bool, not, List, [], ◌∷◌, length, drop, map, nat_lt, is_some, Contains, Option, Some, None, Result, Ok, Err, if◌then◌else◌}
use Rattle.iom_cache.specs.declared.place.Place.{Place}
use Rattle.iom_cache.specs.declared.place.Place.TheVariants.{Beyond, Empty, Live}

-- how many places there are for contexts, and for whole translations
abbrev pub context_room : ℕ
context_room = 16

abbrev pub page_room : ℕ
page_room = 64

-- what the live place with the key holds
abbrev pub find : {K V : Type 0} → (K → Bool) → List (Option (K × V)) → Option V
find is_key [] = None
find is_key (None ∷ places) = find is_key places
find is_key (Some entry ∷ places) = if is_key entry.0 then Some entry.1 else find is_key places

-- the index of the live place with the key; as many as there are places where none has it
abbrev pub place_of : {K V : Type 0} → (K → Bool) → List (Option (K × V)) → ℕ
place_of is_key [] = 0
place_of is_key (None ∷ places) = suc (place_of is_key places)
place_of is_key (Some entry ∷ places) = if is_key entry.0 then 0 else suc (place_of is_key places)

-- what `find` returns, by the places: the value found stands with the key in a live place; if nothing is found, no live place has the key
abbrev pub IsHeld : {K V : Type 0} → K → Option V → List (Option (K × V)) → Type 0
IsHeld {K} {V} key None places = (value : V) → ¬ Contains places (Some (key, value))
IsHeld key (Some value) places = Contains places (Some (key, value))

-- the oldest place leaves where there is no room for another
abbrev pub made_room : {X : Type 0} → ℕ → List X → List X
made_room room places = if length places == room then drop 1 places else places

-- a fill appends; None: no fill
abbrev pub filled_by : {K V : Type 0} → ℕ → Option (K × V) → List (Option (K × V)) → List (Option (K × V))
filled_by room None places = places
filled_by room (Some entry) places = made_room room places ++ Some entry ∷ []

-- whether a place may stand behind these as it is: there is room for one more, and no live place has its key
abbrev pub may_follow : {K V : Type 0} → (K → K → Bool) → ℕ → List (Option (K × V)) → Option (K × V) → Bool
may_follow same room places None = nat_lt (length places) room
may_follow same room places (Some entry) = nat_lt (length places) room && not (is_some (find (same entry.0) places))

-- a place after a drop
abbrev pub dropped_by : {K V : Type 0} → (K → V → Bool) → Option (K × V) → Option (K × V)
dropped_by drops None = None
dropped_by drops (Some entry) = if drops entry.0 entry.1 then None else Some entry

-- each place that a command drops becomes empty where it stands; None: no command
abbrev pub emptied_by : {C K V : Type 0} → (C → K → V → Bool) → Option C → List (Option (K × V)) → List (Option (K × V))
emptied_by drops None places = places
emptied_by drops (Some command) places = map (dropped_by (drops command)) places

-- A look-up through a cache of what its source says: what is used, and what is filled.
pub record Look (K V E : Type 0) : Type 0 where
  pub used : Result V E
  pub filled : Option (K × V)

-- what a live place holds is used, and nothing is filled; else what the source says is used, and filled unless it is a refusal
abbrev pub look : {K V E : Type 0} → K → Option V → Result V E → Look K V E
look key (Some held) told = record { used = Ok held; filled = None }
look key None (Ok value) = record { used = Ok value; filled = Some (key, value) }
look key None (Err why) = record { used = Err why; filled = None }

-- no place holds anything
abbrev pub NoneLive : {K V : Type 0} → List (Option (K × V)) → Type 0
NoneLive [] = Unit {0}
NoneLive (None ∷ places) = NoneLive places
NoneLive (Some entry ∷ places) = ⊥

-- what is said of a place that there may be
abbrev pub place_in : {K V : Type 0} → Option (Option (K × V)) → Place K V
place_in None = Beyond
place_in (Some None) = Empty
place_in (Some (Some entry)) = Live entry.0 entry.1
