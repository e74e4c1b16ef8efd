-- The path of a walk: RISC-V Privileged Architecture 1.12, "Virtual Address Translation Process", steps 1, 2 and 4. `at`
-- says what stands at each address. A table is given by its PPN.
use Rattle.std.specs.Prelude.{ℕ, zero, suc, ◌≡◌, ◌+◌, ◌-◌, ◌*◌, ◌≤◌, true, List, [], ◌∷◌, length, Some, slice_get, if◌then◌else◌}
use Rattle.iom_bits.specs.declared.causes.Kind.{Kind}
use Rattle.iom_bits.specs.declared.causes.Kind.TheVariants.{Read}
use Rattle.iom_walk.specs.declared.rules.EntryRules.{EntryRules}
use Rattle.iom_walk.specs.declared.source.Got.{Got}
use Rattle.iom_walk.specs.declared.shape.Format.{Format}
use Rattle.iom_walk.specs.Shape.{levels, index_of}
use Rattle.iom_walk.specs.declared.entry.Verdict.{Verdict}
pub use Rattle.iom_walk.specs.declared.met.MetEntry.{MetEntry}
use Rattle.iom_walk.specs.Verdict.{verdict_of, is_pointer, ppn, word_of}

-- the entry that an address is met at in a table of some level: the table's first byte stands at its PPN times 4096, and each
-- entry has eight bytes (PTESIZE)
abbrev pub entry_at : (ℕ → Got) → Format → ℕ → ℕ → ℕ → MetEntry
entry_at at format address table level =
    let place : ℕ = table * 4096 + index_of format.shape address level * 8 in
    record { level = level; place = place; got = at place }

abbrev pub verdict_on : EntryRules → Kind → MetEntry → Verdict
verdict_on rules kind entry = verdict_of rules kind entry.level entry.got

-- an entry is a pointer, whatever the access is; and the table that it points to
abbrev pub IsPointer : EntryRules → MetEntry → Type 0
IsPointer rules entry = (kind : Kind) → is_pointer (verdict_on rules kind entry) ≡ true

abbrev pub next_table : MetEntry → ℕ
next_table entry = ppn (word_of entry.got)

-- a list of at most `count` entries, in which each is met at its index, the first in `table`, and each but the first is
-- pointed to by the one before
pub record IsPathFrom (at : ℕ → Got) (format : Format) (address table count : ℕ) (path : List MetEntry) : Type 0 where
  pub within : length path ≤ count
  pub first : (entry : MetEntry) → slice_get path 0 ≡ Some entry → entry ≡ entry_at at format address table (count - 1)
  pub linked : (k : ℕ) (entry next : MetEntry) → slice_get path k ≡ Some entry → slice_get path (suc k) ≡ Some next →
      IsPointer format.rules entry × (next ≡ entry_at at format address (next_table entry) (entry.level - 1))

-- such a list from the root on, of at most as many entries as there are levels
abbrev pub IsPath : (ℕ → Got) → Format → ℕ → ℕ → List MetEntry → Type 0
IsPath at format root address path = IsPathFrom at format address root (levels format.shape) path

pub record IsLongestPath (at : ℕ → Got) (format : Format) (root address : ℕ) (path : List MetEntry) : Type 0 where
  pub is_path : IsPath at format root address path
  pub longest : (other : List MetEntry) → IsPath at format root address other → length other ≤ length path

-- the longest path as a function: behind an entry that is a pointer comes the one that it points to
unfoldable pub path_from : (ℕ → Got) → Format → ℕ → ℕ → ℕ → List MetEntry
path_from at format address table zero = []
path_from at format address table (suc count) =
    let entry : MetEntry = entry_at at format address table count in
    entry ∷ (if is_pointer (verdict_on format.rules Read entry) then path_from at format address (next_table entry) count else [])

abbrev pub path_of : (ℕ → Got) → Format → ℕ → ℕ → List MetEntry
path_of at format root address = path_from at format address root (levels format.shape)
