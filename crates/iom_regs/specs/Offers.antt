-- How the features show in the registers: RISC-V IOMMU Architecture 1.0, "IOMMU capabilities" and "Interrupt-cause-to-vector
-- register".
use Rattle.std.specs.Prelude.{ℕ, ◌+◌, ◌*◌, ◌^◌, bit_and, bit_or}
use Rattle.iom_bits.specs.Bits.{field_of}
use Rattle.iom_bits.specs.Features.{Features, igs_bits, rows, shown_bits}
use Rattle.iom_bits.specs.declared.features.Vectors.{Vectors}
use Rattle.iom_bits.specs.declared.features.Vectors.TheVariants.{One, Two, Four}

-- the version, bits 7:0: 1.0
abbrev pub version_1_0 : ℕ
version_1_0 = 0x10

-- the bit of each paging mode that every IOMMU here has
abbrev pub sv39_bit : ℕ
sv39_bit = 9

abbrev pub sv48_bit : ℕ
sv48_bit = 10

abbrev pub sv39x4_bit : ℕ
sv39x4_bit = 17

abbrev pub sv48x4_bit : ℕ
sv48x4_bit = 18

-- PAS, from bit 32 on: physical addresses have 56 bits
abbrev pub pas_of_56 : ℕ
pas_of_56 = 2 ^ 32 * 56

-- what every IOMMU here has
abbrev pub each : ℕ
each = version_1_0 + 2 ^ sv39_bit + 2 ^ sv48_bit + 2 ^ sv39x4_bit + 2 ^ sv48x4_bit + pas_of_56

-- the register: what every IOMMU here has, and of the features of this one IGS, bits 29:28, and the rows that it shows
abbrev pub capabilities_of : Features → ℕ
capabilities_of features = bit_or each (bit_and features (bit_or igs_bits (shown_bits rows)))

-- how many vectors there are
abbrev pub vector_count : Vectors → ℕ
vector_count One = 1
vector_count Two = 2
vector_count Four = 4

-- how many bits number a vector
abbrev pub vector_bits : Vectors → ℕ
vector_bits One = 0
vector_bits Two = 1
vector_bits Four = 2

-- icvec: civ, from bit 0 on, and fiv, from bit 4 on, each keep only the lowest bits, those that number a vector. pmiv and piv are
-- 0: there are no counters and no page requests
abbrev pub icvec_of : Vectors → ℕ → ℕ
icvec_of vectors value = field_of value 0 (vector_bits vectors) + 2 ^ 4 * field_of value 4 (vector_bits vectors)
