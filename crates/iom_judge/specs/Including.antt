-- Held entries that have all that others have.
use Rattle.std.specs.Prelude.{◌≡◌, true, List}
use Rattle.iom_choices.specs.Systems.{IsAmong}
use Rattle.iom_held.specs.Kept.{is_spared}
use Rattle.iom_held.specs.declared.kept.Kept.{Kept}

-- the same entry, which no command names if none names the other
pub record IsAsGood (kept own : Kept) : Type 0 where
  pub same : own.entry ≡ kept.entry
  pub spared : is_spared kept ≡ true → is_spared own ≡ true

pub record IsHeldIn (all : List Kept) (kept : Kept) : Type 0 where
  pub own : Kept
  pub among : IsAmong all own
  pub good : IsAsGood kept own

-- each of these entries is held there too, and outlasts the next fence there if it does so here
abbrev pub Includes : List Kept → List Kept → Type 0
Includes all few = (kept : Kept) → IsAmong few kept → IsHeldIn all kept
