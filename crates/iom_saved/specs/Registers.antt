-- The words of a register file: RISC-V IOMMU Architecture 1.0, "Memory-mapped register interface".
use Rattle.std.specs.Prelude.{ℕ, ◌≡◌, ◌<◌, ◌^◌, List, [], ◌∷◌, ◌++◌, length}
use Rattle.std.specs.List.{flat_map}
use Rattle.iom_bits.specs.Bits.{flag}
use Rattle.iom_regs.specs.Table.{Registers}
use Rattle.iom_regs.specs.declared.vectors.MsiVector.{MsiVector}

-- a vector of interrupts by message
abbrev pub vector_words : MsiVector → List ℕ
vector_words vector = vector.addr ∷ vector.value ∷ flag vector.masked ∷ flag vector.owed ∷ []

abbrev pub table_words : List MsiVector → List ℕ
table_words table = length table ∷ flat_map vector_words table

-- the word of the features, and one for each register that can change, with ddtp as it acts; and the vectors
abbrev pub front_words : Registers → List ℕ
front_words r =
    r.features ∷ r.ddtp ∷ r.acting ∷ r.cqb ∷ r.cqh ∷ r.cqt ∷ r.fqb ∷ r.fqh ∷ r.fqt ∷ r.cqcsr ∷ r.fqcsr ∷ r.ipsr ∷ r.icvec ∷ r.fctl ∷ []

abbrev pub register_words : Registers → List ℕ
register_words r = front_words r ++ table_words r.table

-- msi_data has 32 bits
abbrev pub AreVectors : List MsiVector → Type 0
AreVectors [] = Unit {0}
AreVectors (vector ∷ table) = (vector.value < 2 ^ 32) × AreVectors table
