-- An id that is too wide has no context.
use Rattle.std.proofs.Common.{◌≡◌, ℕ, Err, true, refl}
use Rattle.iom_bits.specs.declared.causes.Cause.TheVariants.{TooWide}
use Rattle.iom_mem.specs.Memory.{Memory}
use Rattle.iom_regs.specs.Table.{Registers}
use Rattle.iom_regs.specs.Views.{mode_of}
use Rattle.iom_ddt.specs.Directory.{is_too_wide, levels_of, located}
use Rattle.iom_ddt.specs.Formats.{context_format}

pub too_wide_located : (memory : Memory) (registers : Registers) (did : ℕ) →
    is_too_wide (context_format registers.features) (levels_of (mode_of registers)) did ≡ true → located memory registers did ≡ Err TooWide
unfolding located
too_wide_located memory registers did wide = rw wide refl
