-- The entries that an IOMMU may hold, each once and with a number, that of the newest step that could read it: RISC-V IOMMU Architecture 1.0,
-- "Caching in-memory data structures" and "IOMMU Command-queue Fence commands".
use Rattle.std.specs.Prelude.{ℕ, ◌≡◌, ◌⊎◌, ◌||◌, not, Bool, true, List, [], ◌∷◌, filter, map, Option, Some, None, if◌then◌else◌}
use Rattle.std.specs.List.{AllByRecursion}
use Rattle.std.specs.Option.{is_none}
use Rattle.iom_choices.specs.Systems.{IsAmong}
use Rattle.iom_every.specs.Drops.{drops_entry}
use Rattle.iom_every.specs.Every.{is_fence}
use Rattle.iom_every.specs.Making.{is_leaf_of_stage}
use Rattle.iom_every.specs.declared.entry.Entry.{Entry}
use Rattle.iom_held.specs.declared.kept.Kept.{Kept}
use Rattle.iom_queue.specs.declared.command.Command.{Command}

abbrev pub entry_of : Kept → Entry
entry_of kept = kept.entry

abbrev pub entries_in : List Kept → List Entry
entries_in kept = map entry_of kept

-- an entry under this number, which a command names or not
abbrev pub kept_at : ℕ → Option ℕ → Entry → Kept
kept_at number unfenced entry = record { entry = entry; number = number; unfenced = unfenced }

abbrev pub kept_of : ℕ → Entry → Kept
kept_of number entry = kept_at number None entry

-- as if the command of this step named it: the next fence takes it out
abbrev pub due_of : ℕ → Entry → Kept
due_of number entry = kept_at number (Some number) entry

-- no two of a list are the same
abbrev pub HasNoneTwice : {X : Type 0} → List X → Type 0
HasNoneTwice [] = Unit {0}
HasNoneTwice (x ∷ xs) = (IsAmong xs x → ⊥) × HasNoneTwice xs

-- New things are put into a list, each in place of the one that is of the same. `of` is what a thing is of.
pub record Renews {N X : Type 0} (of : N → X) (news before after : List N) : Type 0 where
  pub all : (x : X) → IsAmong (map of after) x → IsAmong (map of before) x ⊎ IsAmong (map of news) x
  pub kept : (x : X) → IsAmong (map of before) x ⊎ IsAmong (map of news) x → IsAmong (map of after) x
  pub each : HasNoneTwice (map of before) → (n : N) → IsAmong after n →
      IsAmong news n ⊎ (IsAmong before n × (IsAmong (map of news) (of n) → ⊥))
  pub once : HasNoneTwice (map of before) → HasNoneTwice (map of after)

-- those of these entries that aren't there
pub record AreNew (entries : List Entry) (before : List Kept) (news : List Entry) : Type 0 where
  pub each : (entry : Entry) → IsAmong news entry → IsAmong entries entry × (IsAmong (entries_in before) entry → ⊥)
  pub all : (entry : Entry) → IsAmong entries entry → IsAmong (entries_in before) entry ⊎ IsAmong news entry

-- Entries are put in that the next fence takes out; those that are there already stay as they are.
pub record AddsDue (number : ℕ) (entries : List Entry) (before after : List Kept) : Type 0 where
  pub news : List Entry
  pub are : AreNew entries before news
  pub put : Renews entry_of (map (due_of number) news) before after

-- a command that names an entry is noted, by the number of its step
abbrev pub named_by : ℕ → Command → Kept → Kept
named_by number command kept = if drops_entry command kept.entry then record kept { unfenced = Some number } else kept

-- no command names it that came before
abbrev pub is_spared : Kept → Bool
is_spared kept = is_none kept.unfenced

abbrev pub AreSpared : List Kept → Type 0
AreSpared all = AllByRecursion (λ (kept : Kept). is_spared kept ≡ true) all

-- What is made from it outlasts the next fence: it is no leaf, or no command names it.
abbrev pub may_lend : Kept → Bool
may_lend kept = is_spared kept || not (is_leaf_of_stage kept.entry)

-- those of which that is so; None: of all
abbrev pub AreLenders : List Kept → Option (List Kept) → Type 0
AreLenders all None = AllByRecursion (λ (kept : Kept). may_lend kept ≡ true) all
AreLenders all (Some some) = some ≡ filter may_lend all

-- What a command leaves; None: there is none. A fence takes out what a command before it names; all others leave all.
abbrev pub left_by : ℕ → Option Command → List Kept → List Kept
left_by number None kept = kept
left_by number (Some command) kept = if is_fence command then filter is_spared kept else map (named_by number command) kept
