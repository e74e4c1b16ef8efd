-- The entries that a walk in memory alone asks for: RISC-V IOMMU Architecture 1.0, "Caching in-memory data structures". An entry that no look-up of it
-- may use leads the request nowhere else on its own.
use Rattle.std.specs.Prelude.{◌≡◌, ◌≤◌, ◌⊎◌, ◌||◌, Bool, true, false, List, None, is_some}
use Rattle.iom_choices.specs.Systems.{IsAmong}
use Rattle.iom_choices.specs.Trees.{Ends, Looks, ways_over}
use Rattle.iom_every.specs.declared.entry.Entry.{Entry}
use Rattle.iom_every.specs.Trees.{Walk}
use Rattle.iom_every.specs.Uses.{ForAccess, ForDevice, ForFirst, ForPage, device_use, file_use, first_use, page_use, second_fits}
use Rattle.iom_held.specs.Kept.{entries_in}
use Rattle.iom_held.specs.declared.kept.Kept.{Kept}
use Rattle.iom_held.specs.Tags.{tag_of}
use Rattle.iom_held.specs.declared.tags.Tag.{Tag}
use Rattle.iom_ways.specs.Ways.{Gathers}
use Rattle.iom_ways.specs.declared.asked.Asked.{Asked}
use Rattle.iom_ways.specs.declared.asked.Asked.TheVariants as asked
use Rattle.iom_ways.specs.declared.exploring.Explored.{Explored}

-- a look-up of the walk that uses nothing else may use the entry
abbrev pub is_asked : Walk → Entry → Bool
is_asked (Ends way) entry = false
is_asked (Looks look fits more) entry = fits look entry || is_asked (more None) entry

-- the entry fits this look-up
abbrev pub answers : Asked → Entry → Bool
answers (asked.Device format depth did) entry = is_some (device_use format depth did ForDevice entry)
answers (asked.Page key) entry = is_some (page_use key ForPage entry)
answers (asked.First context shape iova) entry = is_some (first_use context shape iova ForFirst entry)
answers (asked.Second context shape address) entry = is_some (second_fits context shape address entry)
answers (asked.File context address) entry = is_some (file_use context address ForAccess entry)

-- the directory has at most three levels
abbrev pub IsDeep : Asked → Type 0
IsDeep (asked.Device format depth did) = depth ≤ 3
IsDeep (asked.Page key) = Unit {0}
IsDeep (asked.First context shape iova) = Unit {0}
IsDeep (asked.Second context shape address) = Unit {0}
IsDeep (asked.File context address) = Unit {0}

-- each entry that passes has one of these tags
abbrev pub AreTagged : (Entry → Bool) → List Tag → Type 0
AreTagged passes tags = (entry : Entry) → passes entry ≡ true → IsAmong tags (tag_of entry)

-- held entries, among them each that passes, are put in
pub record Collects (held : List Kept) (passes : Entry → Bool) (before after : List Kept) : Type 0 where
  pub old : (kept : Kept) → IsAmong before kept → IsAmong after kept
  pub among : (kept : Kept) → IsAmong after kept → IsAmong before kept ⊎ IsAmong held kept
  pub all : (kept : Kept) → IsAmong held kept → passes kept.entry ≡ true → IsAmong after kept

-- What is put in of a walk: the ways that held entries allow it; or, if it asks for entries alone, those that it asks for, and none is followed.
pub record Explores (asks : Bool) (held : List Kept) (tree : Walk) (before after : Explored) : Type 0 where
  pub ways : asks ≡ false → Gathers (ways_over (entries_in held) tree) before.ways after.ways
  pub asked : asks ≡ true → Collects held (is_asked tree) before.asked.items after.asked.items
