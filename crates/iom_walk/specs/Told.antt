-- The path of a walk, entry by entry: each with its address, its level, what was read there, and the row of the table of
-- entries that decides of it.
use Rattle.std.specs.Prelude.{ℕ, List, [], map, if◌then◌else◌}
use Rattle.iom_bits.specs.declared.causes.Kind.{Kind}
use Rattle.iom_walk.specs.declared.rules.EntryRules.{EntryRules}
use Rattle.iom_walk.specs.declared.listing.PathEntry.{PathEntry}
use Rattle.iom_walk.specs.declared.shape.Format.{Format}
use Rattle.iom_walk.specs.declared.source.Got.{Got}
use Rattle.iom_walk.specs.Path.{MetEntry, path_of}
use Rattle.iom_walk.specs.Shape.{is_in_width}
use Rattle.iom_walk.specs.Verdict.{ruling_of}

abbrev pub path_entry : EntryRules → Kind → MetEntry → PathEntry
path_entry rules kind entry = record {
  place = entry.place;
  level = entry.level;
  got = entry.got;
  ruling = ruling_of rules kind entry.level entry.got;
}

-- an address that breaks the width rule has no path
unfoldable pub path_told : (ℕ → Got) → Format → ℕ → ℕ → Kind → List PathEntry
path_told at format root address kind =
    if is_in_width format.shape address then map (path_entry format.rules kind) (path_of at format root address) else []
