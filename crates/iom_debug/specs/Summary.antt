-- How the accesses of a script went: counts over what was told of each.
use Rattle.std.specs.Prelude.{ℕ, ◌+◌, ◌-◌, ◌^◌, ◌==◌, ◌++◌, Bool, false, true, not, List, [], ◌∷◌, length, map, min, Option, Some, None, is_some, if◌then◌else◌}
use Rattle.std.specs.List.{count_by, dedup, filter}
use Rattle.circular_buffer.specs.Buffer.{last_item}
use Rattle.iom_debug.specs.declared.summary.AccessOutcome.{AccessOutcome}

-- so many of them, or the largest number of 64 bits
abbrev pub up_to_64_bits : ℕ → ℕ
up_to_64_bits n = min n (2 ^ 64 - 1)

abbrev pub counted : (AccessOutcome → Bool) → List AccessOutcome → ℕ
counted is told = up_to_64_bits (count_by is told)

abbrev pub is_granted : AccessOutcome → Bool
is_granted outcome = not (is_some outcome.denied)

abbrev pub is_it : ℕ → Option ℕ → Bool
is_it n None = false
is_it n (Some other) = n == other

abbrev pub is_denied_for : ℕ → AccessOutcome → Bool
is_denied_for cause outcome = is_it cause outcome.denied

-- the causes of RISC-V IOMMU Architecture 1.0, "Fault/Event-Queue (FQ)", that an access is denied for
abbrev pub causes : List ℕ
causes = 5 ∷ 7 ∷ 13 ∷ 15 ∷ 21 ∷ 23 ∷ 256 ∷ 257 ∷ 258 ∷ 259 ∷ 260 ∷ 261 ∷ 262 ∷ 263 ∷ []

-- the numbers of the lines of those that are so, each once where they follow each other
abbrev pub lines_where : (AccessOutcome → Bool) → List AccessOutcome → List ℕ
lines_where is told = dedup (λ n m. n == m) (map (λ outcome. outcome.number) (filter is told))

pub record Counts : Type 0 where
  pub accesses : ℕ
  pub granted : ℕ
  -- each cause, and for how many it was denied
  pub denied : List (ℕ × ℕ)
  pub cached : ℕ
  pub stale : ℕ
  pub stale_lines : List ℕ
  pub unsettled : ℕ
  pub unsettled_lines : List ℕ

abbrev pub counts_of : List AccessOutcome → Counts
counts_of told = record {
  accesses = up_to_64_bits (length told);
  granted = counted is_granted told;
  denied = map (λ cause. (cause, counted (is_denied_for cause) told)) causes;
  cached = counted (λ outcome. outcome.is_cached) told;
  stale = counted (λ outcome. outcome.is_stale) told;
  stale_lines = lines_where (λ outcome. outcome.is_stale) told;
  unsettled = counted (λ outcome. outcome.is_unsettled) told;
  unsettled_lines = lines_where (λ outcome. outcome.is_unsettled) told;
}

-- one more, where it counts
abbrev pub and_one : Bool → ℕ → ℕ
and_one is n = if is then up_to_64_bits (n + 1) else n

abbrev pub denied_with : AccessOutcome → ℕ × ℕ → ℕ × ℕ
denied_with outcome entry = (entry.0, and_one (is_denied_for entry.0 outcome) entry.1)

-- the number of one line more, unless it is the last one already
abbrev pub with_line : List ℕ → ℕ → List ℕ
with_line lines number = if is_it number (last_item lines) then lines else lines ++ number ∷ []

-- the same, where it counts
abbrev pub line_if : Bool → List ℕ → ℕ → List ℕ
line_if is lines number = if is then with_line lines number else lines

-- the counts with the line of an access that is stale or isn't settled
abbrev pub with_own_lines : Counts → AccessOutcome → Counts
with_own_lines counts outcome = record counts {
  stale_lines = line_if outcome.is_stale counts.stale_lines outcome.number;
  unsettled_lines = line_if outcome.is_unsettled counts.unsettled_lines outcome.number;
}

-- the counts with one access more
abbrev pub with_outcome : Counts → AccessOutcome → Counts
with_outcome counts outcome = record {
  accesses = and_one true counts.accesses;
  granted = and_one (is_granted outcome) counts.granted;
  denied = map (denied_with outcome) counts.denied;
  cached = and_one outcome.is_cached counts.cached;
  stale = and_one outcome.is_stale counts.stale;
  stale_lines = (with_own_lines counts outcome).stale_lines;
  unsettled = and_one outcome.is_unsettled counts.unsettled;
  unsettled_lines = (with_own_lines counts outcome).unsettled_lines;
}
