-- The vectors of interrupts by message: RISC-V IOMMU Architecture 1.0, "MSI configuration table (msi_cfg_tbl)".
use Rattle.std.specs.Prelude.{ℕ, ◌*◌, ◌+◌, ◌==◌, ◌&&◌, Bool, true, false, not, List, [], ◌∷◌, get_or, nat_lt, if◌then◌else◌}
use Rattle.iom_bits.specs.Bits.{field_of}
use Rattle.iom_bits.specs.Features.{Features, has_messages, vectors_of}
use Rattle.iom_regs.specs.Offers.{vector_count}
use Rattle.iom_regs.specs.declared.vectors.MsiVector.{MsiVector}

-- at reset: no address, no data, not masked, and no message is owed
abbrev pub blank : MsiVector
blank = record { addr = 0; value = 0; masked = false; owed = false }

-- how many the table has room for here
abbrev pub table_room : ℕ
table_room = 4

abbrev pub blank_table : List MsiVector
blank_table = blank ∷ blank ∷ blank ∷ blank ∷ []

-- there is a vector of this number: interrupts may be messages, and icvec can choose it
abbrev pub is_vector : Features → ℕ → Bool
is_vector features x = has_messages features && nat_lt x (vector_count (vectors_of features))

-- one that isn't there is as at reset
abbrev pub vector_at : List MsiVector → ℕ → MsiVector
vector_at table x = get_or table x blank

-- msi_addr has bits 55:2
abbrev pub msi_addr_of : ℕ → ℕ
msi_addr_of value = 4 * field_of value 2 54

-- the entries that a table may have, from number `x` on
abbrev pub is_kept : Features → ℕ → MsiVector → Bool
is_kept features x vector =
    if is_vector features x then msi_addr_of vector.addr == vector.addr
    else vector.addr == 0 && vector.value == 0 && not vector.masked && not vector.owed

abbrev pub are_kept : Features → ℕ → List MsiVector → Bool
are_kept features x [] = true
are_kept features x (vector ∷ table) = is_kept features x vector && are_kept features (x + 1) table
