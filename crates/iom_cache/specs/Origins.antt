-- Which step filled what a cache holds. A step may fill an entry and then carry out a command; the steps of a run are numbered from 0.
use Rattle.std.specs.Prelude.{◌≡◌, ℕ, zero, suc, ◌++◌, ◌<◌, ◌≤◌, Bool, true, false, List, [], ◌∷◌, length, replicate, Option, Some, None, if◌then◌else◌}
use Rattle.iom_cache.specs.Places.{made_room}

-- does a step that fills this fill the key
abbrev pub fills : {K V : Type 0} → (K → K → Bool) → K → Option (K × V) → Bool
fills same key None = false
fills same key (Some entry) = same entry.0 key

-- does a step that carries out this command drop the entry; None: no command
abbrev pub drops_at : {C K V : Type 0} → (C → K → V → Bool) → Option C → K → V → Bool
drops_at drops None key value = false
drops_at drops (Some command) key value = drops command key value

-- k is the last number at or below n that passes the test
pub record IsLast (test : ℕ → Bool) (n k : ℕ) : Type 0 where
  pub within : k ≤ n
  pub passes : test k ≡ true
  pub none_later : (j : ℕ) → k < j → j ≤ n → test j ≡ false

-- Beside a cache's places stand their stamps: the number of the step that filled each. At the start no step has filled any.
abbrev pub first_stamps : {X : Type 0} → List X → List ℕ
first_stamps places = replicate (length places) 0

-- the stamps after step k, by what it filled; a place that is emptied stays, and so does its stamp
abbrev pub stamped_by : {X : Type 0} → ℕ → ℕ → Option X → List ℕ → List ℕ
stamped_by room k None stamps = stamps
stamped_by room k (Some entry) stamps = made_room room stamps ++ k ∷ []

-- the stamps before step k, by those at the start and what each step fills
abbrev pub stamps_at : {X : Type 0} → ℕ → (ℕ → Option X) → List ℕ → ℕ → List ℕ
stamps_at room filled first zero = first
stamps_at room filled first (suc k) = stamped_by room k (filled k) (stamps_at room filled first k)

-- the stamp of what is found; where nothing is, the number of the step that looks, which is to fill it
abbrev pub found_stamp : {K V : Type 0} → (K → Bool) → List (Option (K × V)) → List ℕ → ℕ → ℕ
found_stamp is_key [] stamps step = step
found_stamp is_key (place ∷ places) [] step = step
found_stamp is_key (None ∷ places) (stamp ∷ stamps) step = found_stamp is_key places stamps step
found_stamp is_key (Some entry ∷ places) (stamp ∷ stamps) step = if is_key entry.0 then stamp else found_stamp is_key places stamps step
