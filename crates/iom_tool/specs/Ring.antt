-- A list that is kept in a ring of places.
use Rattle.std.specs.Prelude.{ℕ, ◌+◌, ◌++◌, Bool, true, false, List, take, drop}

-- The place at `spare` is no item's. The items stand before it; where all other places hold one, the oldest stand behind it.
abbrev pub kept_around : {A : Type 0} → Bool → ℕ → List A → List A
kept_around false spare places = take spare places
kept_around true spare places = drop (spare + 1) places ++ take spare places
