-- Numbers beside the places of a cache: what each fill notes of its step.
use Rattle.std.specs.Prelude.{ℕ, zero, suc, Bool, List, get_or, Option}
use Rattle.iom_cache.specs.Origins.{stamped_by}
use Rattle.iom_cache.specs.Places.{place_of}

-- what stands beside the places before step k, if the step that fills a place notes something of itself
abbrev pub noted_at : {X : Type 0} → ℕ → (ℕ → Option X) → (ℕ → ℕ) → List ℕ → ℕ → List ℕ
noted_at room filled note first zero = first
noted_at room filled note first (suc k) = stamped_by room (note k) (filled k) (noted_at room filled note first k)

-- what stands beside that place; where nothing does, the number of the step that asks
abbrev pub beside : {K V : Type 0} → (K → Bool) → List (Option (K × V)) → List ℕ → ℕ → ℕ
beside is_key places notes number = get_or notes (place_of is_key places) number
