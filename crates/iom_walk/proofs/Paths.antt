-- The path that the function gives is the longest one, and the only one of its length.
use Rattle.std.proofs.Common.{◌≡◌, ◌-◌, ◌≤◌, ℕ, zero, suc, Bool, true, false, List, [], ◌∷◌, length, Some, refl, sym, ◌∙◌, ap, subst, arith}
use Rattle.std.specs.Prelude.{slice_get, if◌then◌else◌}
use Rattle.iom_bits.specs.declared.causes.Kind.{Kind}
use Rattle.iom_bits.specs.declared.causes.Kind.TheVariants.{Read}
use Rattle.iom_walk.specs.declared.source.Got.{Got}
use Rattle.iom_walk.specs.declared.shape.Format.{Format}
use Rattle.iom_walk.specs.declared.outcome.Outcome.{Outcome}
use Rattle.iom_walk.specs.Shape.{levels}
use Rattle.iom_walk.specs.Verdict.{is_pointer}
use Rattle.iom_walk.specs.Path.{MetEntry, entry_at, verdict_on, IsPointer, next_table, IsPathFrom, path_from, path_of}
use Rattle.iom_walk.specs.Outcome.{outcome_of, IsOutcome}
use Rattle.iom_walk.proofs.Entries.{pointer_for_each}

-- the first entry of a path
first_is : (at : ℕ → Got) (format : Format) (address table count : ℕ) (entry : MetEntry) → Some (entry_at at format address table count) ≡ Some entry →
    entry ≡ entry_at at format address table (suc count - 1)
first_is at format address table count entry got =
    let same : entry ≡ entry_at at format address table count = cc in
    same ∙ ap (entry_at at format address table) (omega arith)

-- an entry, and behind it the path from the table that it points to, where it is a pointer
joined : (at : ℕ → Got) (format : Format) (address table count : ℕ) (pointer : Bool) (rest : List MetEntry) →
    is_pointer (verdict_on format.rules Read (entry_at at format address table count)) ≡ pointer →
    IsPathFrom at format address (next_table (entry_at at format address table count)) count rest →
    IsPathFrom at format address table (suc count) (entry_at at format address table count ∷ (if pointer then rest else []))
joined at format address table count true rest points path =
    let here : MetEntry = entry_at at format address table count in
    let pointer : IsPointer format.rules here = λ kind. sym (pointer_for_each format.rules kind count here.got) ∙ points in
    record {
      within = omega (arith, path.within);
      first = first_is at format address table count;
      linked = λ k. elim k as (λ k. (entry next : MetEntry) → slice_get (here ∷ rest) k ≡ Some entry → slice_get (here ∷ rest) (suc k) ≡ Some next →
          IsPointer format.rules entry × (next ≡ entry_at at format address (next_table entry) (entry.level - 1))) [
            | zero ↦ λ entry next got got_next.
                let Links : MetEntry → Type 0 = λ x. IsPointer format.rules x × (next ≡ entry_at at format address (next_table x) (x.level - 1)) in
                let same : here ≡ entry = cc in
                subst Links same (pointer, path.first next got_next)
            | suc k ↦ path.linked k
          ];
    }
joined at format address table count false rest points path =
    let here : MetEntry = entry_at at format address table count in
    record {
      within = omega arith;
      first = first_is at format address table count;
      linked = λ k entry next got got_next. absurd cc;
    }

pub path_from_is_path : (at : ℕ → Got) (format : Format) (address table count : ℕ) →
    IsPathFrom at format address table count (path_from at format address table count)
unfolding path_from
path_from_is_path at format address table zero = record {
  within = omega arith;
  first = λ entry got. absurd cc;
  linked = λ k entry next got got_next. absurd cc;
}
path_from_is_path at format address table (suc count) =
    joined at format address table count (is_pointer (verdict_on format.rules Read (entry_at at format address table count)))
    (path_from at format address (next_table (entry_at at format address table count)) count) refl
    (path_from_is_path at format address (next_table (entry_at at format address table count)) count)

-- what stands behind the first entry of a path
record IsRest (at : ℕ → Got) (format : Format) (address table count : ℕ) (rest : List MetEntry) : Type 0 where
  points : is_pointer (verdict_on format.rules Read (entry_at at format address table count)) ≡ true
  path : IsPathFrom at format address (next_table (entry_at at format address table count)) count rest

met_first : (at : ℕ → Got) (format : Format) (address table count : ℕ) (entry : MetEntry) (more : List MetEntry) →
    IsPathFrom at format address table (suc count) (entry ∷ more) → entry ≡ entry_at at format address table count
met_first at format address table count entry more path =
    path.first entry refl ∙ ap (entry_at at format address table) (omega arith)

rest_of : (at : ℕ → Got) (format : Format) (address table count : ℕ) (entry next : MetEntry) (more : List MetEntry) →
    IsPathFrom at format address table (suc count) (entry ∷ next ∷ more) → IsRest at format address table count (next ∷ more)
rest_of at format address table count entry next more path =
    let here : MetEntry = entry_at at format address table count in
    let Links : MetEntry → Type 0 = λ x. IsPointer format.rules x × (next ≡ entry_at at format address (next_table x) (x.level - 1)) in
    let same : entry ≡ here = met_first at format address table count entry (next ∷ more) path in
    let link : Links here = subst Links same (path.linked 0 entry next refl refl) in
    record {
      points = link.0 Read;
      path = record {
        within = omega (arith, path.within);
        first = λ x got. let last : x ≡ next = cc in last ∙ link.1;
        linked = λ k. path.linked (suc k);
      };
    }

-- no path is longer
none_longer : (at : ℕ → Got) (format : Format) (address table count : ℕ) (path : List MetEntry) → IsPathFrom at format address table count path →
    length path ≤ length (path_from at format address table count)
unfolding path_from
none_longer at format address table zero path is_path = is_path.within
none_longer at format address table (suc count) [] is_path = omega arith
none_longer at format address table (suc count) (entry ∷ []) is_path = omega arith
none_longer at format address table (suc count) (entry ∷ next ∷ more) is_path =
    let rest : IsRest at format address table count (next ∷ more) = rest_of at format address table count entry next more is_path in
    let shorter : length (next ∷ more) ≤ length (path_from at format address (next_table (entry_at at format address table count)) count) =
    none_longer at format address (next_table (entry_at at format address table count)) count (next ∷ more) rest.path in
    rw rest.points (omega (arith, shorter))

empty : (path : List MetEntry) → length path ≡ 0 → [] ≡ path
empty [] e = refl
empty (entry ∷ more) e = absurd (omega arith)

-- a path as long as that is that
same_length : (at : ℕ → Got) (format : Format) (address table count : ℕ) (path : List MetEntry) → IsPathFrom at format address table count path →
    length path ≡ length (path_from at format address table count) → path ≡ path_from at format address table count
unfolding path_from
same_length at format address table zero [] is_path e = refl
same_length at format address table zero (entry ∷ more) is_path e = absurd (omega arith)
same_length at format address table (suc count) [] is_path e = absurd (omega arith)
same_length at format address table (suc count) (entry ∷ []) is_path e =
    let here : MetEntry = entry_at at format address table count in
    let first : entry ≡ here = met_first at format address table count entry [] is_path in
    let rest : List MetEntry = if is_pointer (verdict_on format.rules Read here) then path_from at format address (next_table here) count else [] in
    rw first (ap (λ xs. here ∷ xs) (empty rest (omega (arith, e))))
same_length at format address table (suc count) (entry ∷ next ∷ more) is_path e =
    let here : MetEntry = entry_at at format address table count in
    let first : entry ≡ here = met_first at format address table count entry (next ∷ more) is_path in
    let rest : IsRest at format address table count (next ∷ more) = rest_of at format address table count entry next more is_path in
    let whole : suc (length (next ∷ more)) ≡ suc (length (path_from at format address (next_table here) count)) = e ∙ rw rest.points refl in
    rw (first, rest.points) (ap (λ xs. here ∷ xs)
    (same_length at format address (next_table here) count (next ∷ more) rest.path (omega (arith, whole))))

pub is_outcome : (at : ℕ → Got) (format : Format) (root address : ℕ) (kind : Kind) (end : Outcome) →
    end ≡ outcome_of at format root address kind → IsOutcome at format root address kind end
unfolding outcome_of
is_outcome at format root address kind end told =
    let path : List MetEntry = path_of at format root address in
    let is_path : IsPathFrom at format address root (levels format.shape) path = path_from_is_path at format address root (levels format.shape) in
    let most : (other : List MetEntry) → IsPathFrom at format address root (levels format.shape) other → length other ≤ length path =
    none_longer at format address root (levels format.shape) in
    record {
      some_path = λ wide. (path, record { is_path = is_path; longest = most });
      of_path = λ other wide longest.
          let as_long : length other ≡ length path = omega (arith, most other longest.is_path, longest.longest path is_path) in
          let same : other ≡ path = same_length at format address root (levels format.shape) other longest.is_path as_long in
          told ∙ rw (wide, same) refl;
      of_none = λ wide. told ∙ rw wide refl;
    }
