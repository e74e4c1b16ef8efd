-- The two formats of device contexts: RISC-V IOMMU Architecture 1.0, "Device-directory-table", "Base-format device-context" and
-- "Extended-format device-context".
use Rattle.std.specs.Prelude.{ℕ, zero, suc, ◌*◌, ◌/◌, ◌^◌, ◌++◌, List, [], ◌∷◌, Option, if◌then◌else◌}
use Rattle.std.specs.Option.{option_map}
use Rattle.iom_bits.specs.Bits.{has_bit, field_of}
use Rattle.iom_bits.specs.Features.{Features, msi_flat_bit}
use Rattle.iom_mem.specs.Memory.{Memory, words_at}
use Rattle.iom_ddt.specs.declared.formats.ContextFormat.{ContextFormat}
use Rattle.iom_ddt.specs.declared.formats.ContextFormat.TheVariants.{Base, Extended}

-- with MSI_FLAT every context is extended
unfoldable pub context_format : Features → ContextFormat
context_format features = if has_bit features msi_flat_bit then Extended else Base

-- the parts of a device id: the index into the last table, and into those above it
abbrev pub ddi : ContextFormat → ℕ → ℕ → ℕ
ddi Base did zero = field_of did 0 7
ddi Base did (suc zero) = field_of did 7 9
ddi Base did (suc (suc above)) = field_of did 16 8
ddi Extended did zero = field_of did 0 6
ddi Extended did (suc zero) = field_of did 6 9
ddi Extended did (suc (suc above)) = field_of did 15 9

-- the part of a device id that an entry of this level stands for: all bits from its index on, and 0 below; so the first of those ids
abbrev pub id_part : ContextFormat → ℕ → ℕ → ℕ
id_part format zero did = did
id_part Base (suc zero) did = did / 2 ^ 7 * 2 ^ 7
id_part Base (suc (suc above)) did = did / 2 ^ 16 * 2 ^ 16
id_part Extended (suc zero) did = did / 2 ^ 6 * 2 ^ 6
id_part Extended (suc (suc above)) did = did / 2 ^ 15 * 2 ^ 15

-- how many bytes a context has
abbrev pub context_bytes : ContextFormat → ℕ
context_bytes Base = 32
context_bytes Extended = 64

-- The eight words of the context at a physical address; one of the base format stands for one whose last four words are 0. None: a
-- byte of it is outside.
abbrev pub words_in : ContextFormat → Memory → ℕ → Option (List ℕ)
words_in Base memory place = option_map (λ words. words ++ 0 ∷ 0 ∷ 0 ∷ 0 ∷ []) (words_at memory place 4)
words_in Extended memory place = words_at memory place 8
