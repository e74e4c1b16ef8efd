-- A look-up with nothing cached finds what its source says.
use Rattle.std.proofs.Common.{◌≡◌, ℕ, true, false, None, Result, Ok, Err, if◌then◌else◌, refl}
use Rattle.iom_regs.specs.Views.{mode_of}
use Rattle.iom_ddt.specs.Directory.{is_too_wide, levels_of, located}
use Rattle.iom_ddt.specs.Formats.{context_format}
use Rattle.iom_cache.specs.Places.{look}
use Rattle.iom_core.specs.Access.{context_look}
use Rattle.iom_core.specs.Looking.{uncached}
use Rattle.iom_core.specs.State.{Machine}

pub looked_none : {K V E : Type 0} → (key : K) (told : Result V E) → (look key None told).used ≡ told
looked_none key (Ok value) = refl
looked_none key (Err why) = refl

pub used_uncached : (m : Machine) (did : ℕ) → (context_look (uncached m) did).used ≡ located m.memory m.registers did
unfolding context_look
used_uncached m did = elim (is_too_wide (context_format m.registers.features) (levels_of (mode_of m.registers)) did) as (λ wide.
    (look did (if wide then None else None) (located m.memory m.registers did)).used ≡ located m.memory m.registers did) [
      | true ↦ looked_none did (located m.memory m.registers did)
      | false ↦ looked_none did (located m.memory m.registers did)
    ]
