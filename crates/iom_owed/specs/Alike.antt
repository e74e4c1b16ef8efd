-- When two ways of a request are alike.
use Rattle.std.specs.Prelude.{ℕ, ◌≡◌, Bool, true, false}
use Rattle.iom_core.specs.Access.{address_on}
use Rattle.iom_core.specs.declared.way.Way.{Way as Led}

-- They take its IOVA to the same address, or to the same denial; compared as a whole they are the same way.
abbrev pub IsAlike : Bool → ℕ → Led → Led → Type 0
IsAlike true iova way other = way ≡ other
IsAlike false iova way other = address_on way iova ≡ address_on other iova
