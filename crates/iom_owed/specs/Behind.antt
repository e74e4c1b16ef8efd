-- What is kept just behind a step: all that the step leaves, and of what is read ahead behind it perhaps not all.
use Rattle.std.specs.Prelude.{ℕ, ◌≡◌, ◌⊎◌, ◌↔◌, false, List, [], ◌∷◌, filter, Option, Some, None}
use Rattle.iom_choices.specs.Models.{end_of}
use Rattle.iom_choices.specs.Systems.{IsAmong}
use Rattle.iom_choices.specs.Late.{is_fence_by}
use Rattle.iom_core.specs.State.{State}
use Rattle.iom_core.specs.Table.{executed}
use Rattle.iom_core.specs.declared.access.Request.{Request}
use Rattle.iom_core.specs.declared.step.Step.{Step}
use Rattle.iom_every.specs.Drops.{drops_by}
use Rattle.iom_every.specs.declared.entry.Entry.{Entry}
use Rattle.iom_every.specs.Every.{MayAhead, MayReadAhead, OutlastsAhead, is_listed, platform, queue_commands}
use Rattle.iom_held.specs.Kept.{HasNoneTwice, entries_in, is_spared}
use Rattle.iom_held.specs.declared.kept.Kept.{Kept}
use Rattle.iom_owed.specs.Holdings.{Clears, CouldRead, CouldReadBy, HoldingsView, IsMadeLast, IsReadIn, IsUnfenced, Names, requests_in}
use Rattle.iom_owed.specs.Newest.{steps_of}
use Rattle.iom_owed.specs.declared.noting.Made.{Made}

-- What a step leaves: unless it executes a fence, all that may have been held before it or that it could read; and what of that outlasts the next
-- fence.
pub record HasLeft (ahead : List Request) (start : State) (steps : List Step) (last : Step) (entries : List Kept) : Type 0 where
  pub holds : (entry : Entry) → is_fence_by queue_commands (executed (end_of platform start steps) last) ≡ false →
      MayAhead (is_listed ahead) start steps entry ⊎ CouldRead ahead start steps last entry → IsAmong (entries_in entries) entry
  pub outlasts : (entry : Entry) → drops_by (executed (end_of platform start steps) last) entry ≡ false →
      OutlastsAhead (is_listed ahead) start steps entry ⊎ CouldRead ahead start steps last entry → IsAmong (entries_in (filter is_spared entries)) entry

-- these have what the last step leaves, if there is one
abbrev pub HaveLast : List Request → State → List (Step × ℕ) → List Kept → Type 0
HaveLast ahead start [] entries = Unit {0}
HaveLast ahead start (last ∷ taken) entries = HasLeft ahead start (steps_of taken) last.0 entries

-- the number of the newest step that could read an entry, as far as it is known whether that could be read ahead behind the last step
abbrev pub IsReadSoFar : List Request → State → List (Step × ℕ) → Entry → ℕ → Type 0
IsReadSoFar ahead start [] entry number = number ≡ 0
IsReadSoFar ahead start (last ∷ taken) entry number =
    (CouldRead ahead start (steps_of taken) last.0 entry → number ≡ last.1)
    × (CouldReadBy ahead start (steps_of taken) last.0 entry ⊎ IsReadIn ahead start taken entry number)

-- and that of the command, not fenced yet, that names it
abbrev pub IsUnfencedSoFar : List Request → State → List (Step × ℕ) → Entry → Option ℕ → Type 0
IsUnfencedSoFar ahead start [] entry number = number ≡ None
IsUnfencedSoFar ahead start (last ∷ taken) entry number =
    (MayReadAhead (is_listed ahead) start (steps_of (last ∷ taken)) entry × (number ≡ None))
    ⊎ ((Names start (steps_of taken) last.0 entry × (number ≡ Some last.1))
    ⊎ ((Names start (steps_of taken) last.0 entry → ⊥)
    × ((Clears ahead start (steps_of taken) last.0 entry × (number ≡ None))
    ⊎ ((Clears ahead start (steps_of taken) last.0 entry → ⊥) × IsUnfenced ahead start taken entry number))))

-- As `Keeps` of `Holdings`, but of what may be read ahead behind the last step some entries, or their numbers, may be missing.
pub record KeepsBehind (ahead : List Request) (held : HoldingsView) (state start : State) (taken : List (Step × ℕ)) : Type 0 where
  pub reached : state ≡ end_of platform start (steps_of taken)
  pub ahead_is : held.ahead ≡ ahead
  pub may : (kept : Kept) → IsAmong held.entries kept → MayAhead (is_listed ahead) start (steps_of taken) kept.entry
  pub lasts : (kept : Kept) → IsAmong held.entries kept → kept.unfenced ≡ None → OutlastsAhead (is_listed ahead) start (steps_of taken) kept.entry
  pub left : HaveLast ahead start taken held.entries
  pub reads : (kept : Kept) → IsAmong held.entries kept → IsReadSoFar ahead start taken kept.entry kept.number
  pub unfenced : (kept : Kept) → IsAmong held.entries kept → IsUnfencedSoFar ahead start taken kept.entry kept.unfenced
  pub entries_once : HasNoneTwice (entries_in held.entries)
  pub requests : (made : Made) → IsAmong held.requests made ↔ IsMadeLast ahead start taken made.request made.number
  pub requests_once : HasNoneTwice (requests_in held.requests)

-- the number of the newest step; 0 before the first
abbrev pub newest_number : List (Step × ℕ) → ℕ
newest_number [] = 0
newest_number (last ∷ taken) = last.1
