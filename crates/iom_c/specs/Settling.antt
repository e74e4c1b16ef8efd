-- What any IOMMU may hold beside a handle's platform, whatever it keeps and forgets, where that is kept: RISC-V IOMMU Architecture 1.0,
-- "Caching in-memory data structures".
use Rattle.std.specs.Prelude.{ℕ, ◌≡◌, ◌⊎◌, Bool, true, false, List, [], ◌∷◌}
use Rattle.iom_core.specs.State.{State}
use Rattle.iom_core.specs.Table.{next}
use Rattle.iom_core.specs.declared.step.Step.{Step}
use Rattle.iom_owed.specs.Holdings.{HoldingsView, Keeps}
use Rattle.iom_c.specs.declared.settling.Settling.{Settling}
use Rattle.iom_c.specs.declared.settling.Settling.TheVariants as settling

-- nothing is held yet, and no request was made
abbrev pub HoldsNothing : Settling → Type 0
HoldsNothing settling.NotKept = ⊥
HoldsNothing (settling.Kept holdings) = (start : State) → Keeps [] holdings start start []
HoldsNothing settling.Lost = ⊥

-- it is kept from here on, where nothing is held yet, or not kept
abbrev pub BegunIf : Bool → Settling → Type 0
BegunIf true begun = HoldsNothing begun
BegunIf false begun = begun ≡ settling.NotKept

-- where it is kept, nothing is held any more; also where memory was refused before
abbrev pub BeginsAnew : Settling → Settling → Type 0
BeginsAnew settling.NotKept after = after ≡ settling.NotKept
BeginsAnew (settling.Kept holdings) after = HoldsNothing after
BeginsAnew settling.Lost after = HoldsNothing after

-- It goes along with a step of this number, unless memory is refused for that; then no more is known.
abbrev pub HoldsOn : Settling → State → Step → ℕ → Settling → Type 0
HoldsOn settling.NotKept state step number after = after ≡ settling.NotKept
HoldsOn (settling.Kept before) state step number after =
    (after ≡ settling.Lost)
    ⊎ ((some : HoldingsView) × (after ≡ settling.Kept some) × ((start : State) (taken : List (Step × ℕ)) → Keeps [] before state start taken →
    Keeps [] some (next state step).state start ((step, number) ∷ taken)))
HoldsOn settling.Lost state step number after = after ≡ settling.Lost

-- steps behind those that were taken, newest first, each under the number 0
abbrev pub uncounted : List Step → List (Step × ℕ) → List (Step × ℕ)
uncounted [] taken = taken
uncounted (step ∷ steps) taken = uncounted steps ((step, 0) ∷ taken)
