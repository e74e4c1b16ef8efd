-- The features that an IOMMU may have or not, each a row: RISC-V IOMMU Architecture 1.0, "IOMMU capabilities".
use Rattle.std.specs.Prelude.{ℕ, ◌^◌, ◌+◌, ◌==◌, ◌&&◌, ◌||◌, Bool, true, false, not, List, [], ◌∷◌, codes, bytes_eq, bit_and, bit_or, nat_lt, if◌then◌else◌}
use Rattle.iom_bits.specs.Bits.{has_bit}
use Rattle.iom_bits.specs.declared.features.Interrupts.{Interrupts}
use Rattle.iom_bits.specs.declared.features.Interrupts.TheVariants.{Messages, Wires, Choice}
use Rattle.iom_bits.specs.declared.features.Vectors.{Vectors}
use Rattle.iom_bits.specs.declared.features.Vectors.TheVariants.{One, Two, Four}

-- its name in texts, its bit in a word of features, and whether register capabilities has that bit too
pub record Feature : Type 0 where
  pub name : List ℕ
  pub bit : ℕ
  pub shown : Bool

abbrev pub feature : List ℕ → ℕ → Bool → Feature
feature name bit shown = record { name = name; bit = bit; shown = shown }

-- Sv57: a first stage of five levels
abbrev pub sv57_bit : ℕ
sv57_bit = 11

-- Svpbmt: a leaf has a memory type
abbrev pub svpbmt_bit : ℕ
svpbmt_bit = 15

-- Sv57x4: a second stage of five levels
abbrev pub sv57x4_bit : ℕ
sv57x4_bit = 19

-- MSI_FLAT: device contexts are of the extended format, and may have a flat MSI page table
abbrev pub msi_flat_bit : ℕ
msi_flat_bit = 22

-- NL: an IOTINVAL may drop entries that aren't leaves
abbrev pub nl_bit : ℕ
nl_bit = 42

-- S: the address of an IOTINVAL may stand for a range
abbrev pub s_bit : ℕ
s_bit = 43

-- a write of ddtp, cqcsr or fqcsr may act later
abbrev pub delays_bit : ℕ
delays_bit = 59

unfoldable pub rows : List Feature
rows =
    feature (codes "sv57") sv57_bit true
    ∷ feature (codes "svpbmt") svpbmt_bit true
    ∷ feature (codes "sv57x4") sv57x4_bit true
    ∷ feature (codes "msi_flat") msi_flat_bit true
    ∷ feature (codes "nl") nl_bit true
    ∷ feature (codes "s") s_bit true
    ∷ feature (codes "delays") delays_bit false
    ∷ []

-- Beside them: IGS, bits 29:28 as in the register, where 0 says that interrupts are messages, 1 that they go by wire, and 2 that fctl
-- chooses; Svnapot is left out; and there are two vectors, or four.
abbrev pub wires_bit : ℕ
wires_bit = 28

abbrev pub choice_bit : ℕ
choice_bit = 29

abbrev pub no_svnapot_bit : ℕ
no_svnapot_bit = 56

abbrev pub two_vectors_bit : ℕ
two_vectors_bit = 57

abbrev pub four_vectors_bit : ℕ
four_vectors_bit = 58

abbrev pub igs_bits : ℕ
igs_bits = 2 ^ wires_bit + 2 ^ choice_bit

abbrev pub beside : ℕ
beside = igs_bits + 2 ^ no_svnapot_bit + 2 ^ two_vectors_bit + 2 ^ four_vectors_bit

-- what a machine offers, as a word: a bit for each
abbrev pub Features : Type 0
Features = ℕ

-- the bits of all rows, and of those that the register has
abbrev pub all_bits : List Feature → ℕ
all_bits [] = 0
all_bits (row ∷ table) = bit_or (2 ^ row.bit) (all_bits table)

abbrev pub shown_bits : List Feature → ℕ
shown_bits [] = 0
shown_bits (row ∷ table) = if row.shown then bit_or (2 ^ row.bit) (shown_bits table) else shown_bits table

-- a word has no other bit, not IGS 3, and one number of vectors
unfoldable pub is_offer : Features → Bool
is_offer word =
    bit_and word (bit_or beside (all_bits rows)) == word
    && not (has_bit word wires_bit && has_bit word choice_bit)
    && not (has_bit word two_vectors_bit && has_bit word four_vectors_bit)

-- interrupts may go by wire: IGS 1 or 2; or be messages: IGS 0 or 2
abbrev pub has_wires : Features → Bool
has_wires word = has_bit word wires_bit || has_bit word choice_bit

abbrev pub has_messages : Features → Bool
has_messages word = not (has_bit word wires_bit)

-- Svnapot: a leaf at level 0 with N set maps 64 KiB
abbrev pub has_svnapot : Features → Bool
has_svnapot word = not (has_bit word no_svnapot_bit)

-- how many interrupt vectors there are
abbrev pub vectors_of : Features → Vectors
vectors_of word = if has_bit word two_vectors_bit then Two else if has_bit word four_vectors_bit then Four else One

-- the bits of so many
abbrev pub vectors_word : Vectors → ℕ
vectors_word One = 0
vectors_word Two = 2 ^ two_vectors_bit
vectors_word Four = 2 ^ four_vectors_bit

-- the bits of IGS
abbrev pub interrupts_word : Interrupts → ℕ
interrupts_word Messages = 0
interrupts_word Wires = 2 ^ wires_bit
interrupts_word Choice = 2 ^ choice_bit

-- none of the rows, interrupts by wire, no Svnapot, and one vector
abbrev pub no_features : Features
no_features = 2 ^ wires_bit + 2 ^ no_svnapot_bit

-- Each bit is one of a word of 64. A bit that the register has is below Svnapot's, one that it hasn't is above those of the vectors.
abbrev pub is_placed : Feature → Bool
is_placed row =
    nat_lt row.bit 64
    && (if row.shown then nat_lt row.bit no_svnapot_bit else nat_lt four_vectors_bit row.bit)

abbrev pub are_placed : List Feature → Bool
are_placed [] = true
are_placed (row ∷ table) = is_placed row && are_placed table

-- no bit and no name stands twice
abbrev pub is_apart : Feature → List Feature → Bool
is_apart one [] = true
is_apart one (row ∷ table) = not (one.bit == row.bit) && not (bytes_eq one.name row.name) && is_apart one table

abbrev pub are_apart : List Feature → Bool
are_apart [] = true
are_apart (row ∷ table) = is_apart row table && are_apart table
