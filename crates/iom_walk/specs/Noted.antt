-- A walk from a table on: what it comes to, and what is noted of the entries that it meets.
use Rattle.std.specs.Prelude.{ℕ, ◌++◌, ◌||◌, Bool, not, nat_lt, List, [], ◌∷◌, if◌then◌else◌}
use Rattle.std.specs.List.{find, list_any}
use Rattle.arrayvec.specs.ArrayVec.{ArrayVec, array_vec_len}
use Rattle.iom_bits.specs.declared.causes.Kind.{Kind}
use Rattle.iom_walk.specs.declared.rules.EntryRules.{EntryRules}
use Rattle.iom_walk.specs.declared.listing.PathEntry.{PathEntry}
use Rattle.iom_walk.specs.declared.outcome.Outcome.{Outcome}
use Rattle.iom_walk.specs.Outcome.{conclude_at}
use Rattle.iom_walk.specs.Path.{MetEntry, verdict_on}
use Rattle.iom_walk.specs.Verdict.{is_global, is_pointer, word_of}

-- the verdict on what is left of a path; `global` says whether an entry above it has G set
unfoldable pub verdict_below : EntryRules → Kind → Bool → ℕ → List MetEntry → Outcome
verdict_below rules kind global address path =
    conclude_at rules kind (global || list_any (λ entry. is_global (word_of entry.got)) path) address
    (find (λ entry. not (is_pointer (verdict_on rules kind entry))) path)

-- a list of at most five notes one entry more
abbrev pub kept : {X : Type 0} → (PathEntry → X) → ArrayVec X → PathEntry → ArrayVec X
kept shown list entry = if nat_lt (array_vec_len list) 5 then record { items = list.items ++ shown entry ∷ [] } else list

-- an entry without the row that decides of it
abbrev pub met_entry : PathEntry → MetEntry
met_entry entry = record { level = entry.level; place = entry.place; got = entry.got }
