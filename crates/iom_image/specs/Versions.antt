-- Versions of an image, the words in which one of version 3 or 4 states what its machine offers (RISC-V IOMMU Architecture 1.0,
-- "IOMMU capabilities"), and those in which one of version 4 states a window beside memory.
use Rattle.std.specs.Prelude.{ℕ, ◌≡◌, ◌+◌, ◌*◌, ◌/◌, ◌%◌, ◌^◌, ◌==◌, ◌&&◌, ◌||◌, ◌++◌, Bool, true, false, List, [], Option, Some, None, codes, bit_and, bit_or, nat_le, nat_lt, if◌then◌else◌}
use Rattle.iom_bits.specs.Bytes.{bytes_of_number}
use Rattle.iom_bits.specs.Features.{Features, igs_bits, interrupts_word, is_offer, no_features, rows, shown_bits}
use Rattle.iom_bits.specs.declared.features.Interrupts.TheVariants.{Wires}
use Rattle.iom_mem.specs.Lent.{is_lendable}
use Rattle.iom_messages.specs.declared.window.Window.{Window}
use Rattle.iom_regs.specs.Offers.{capabilities_of, each}
use Rattle.iom_image.specs.declared.version.Version.{Version}
use Rattle.iom_image.specs.declared.version.Version.TheVariants.{First, Second, Third, Fourth}

-- whether disks have flags
abbrev pub is_flagged : Version → Bool
is_flagged First = false
is_flagged Second = true
is_flagged (Third features) = true
is_flagged (Fourth features window) = true

-- the lowest version from this one on whose disks have flags where that is asked
abbrev pub flagged : Version → Bool → Version
flagged First asked = if asked then Second else First
flagged Second asked = Second
flagged (Third features) asked = Third features
flagged (Fourth features window) asked = Fourth features window

-- what the machine offers: the one of version 1 and 2 nothing, Svnapot neither
abbrev pub features_of : Version → Features
features_of First = no_features
features_of Second = no_features
features_of (Third features) = features
features_of (Fourth features window) = features

-- its window: only version 4 can state one
abbrev pub window_of : Version → Option Window
window_of First = None
window_of Second = None
window_of (Third features) = None
window_of (Fourth features window) = window

-- There may be a window of whole pages that ends at or below address 2^56, and no byte of it is memory.
abbrev pub is_window : Option Window → Bool
is_window None = true
is_window (Some window) = is_lendable window.base window.size

abbrev pub is_beside : Option Window → ℕ → ℕ → Bool
is_beside None base size = true
is_beside (Some window) base size = nat_le (window.base + window.size) base || nat_le (base + size) window.base

-- Version 3 has one word: Sv57, Svpbmt, Sv57x4, NL and S at their bits of register capabilities, Svnapot left out, and the vectors.
-- What came later it can't state: its interrupts go by wire, IGS 1, and the word has no bit for that.
abbrev pub third_bits : ℕ
third_bits = 2 ^ 11 + 2 ^ 15 + 2 ^ 19 + 2 ^ 42 + 2 ^ 43 + 2 ^ 56 + 2 ^ 57 + 2 ^ 58

abbrev pub third_word : Features → ℕ
third_word features = bit_and features third_bits

abbrev pub third_features : ℕ → Features
third_features word = word + interrupts_word Wires

abbrev pub is_third_word : ℕ → Bool
is_third_word word = bit_and word third_bits == word && is_offer (third_features word)

-- whether its word says all of these features
abbrev pub is_third : Features → Bool
is_third features = third_features (third_word features) == features

-- the lowest version that can state these features and this window
abbrev pub stating : Features → Option Window → Version
stating features None = if is_third features then Third features else Fourth features None
stating features (Some window) = Fourth features (Some window)

-- Version 4 has two words: register capabilities, and of the features what it doesn't show, from bit 56 of their word on. Bit 8 of
-- the second one says that the base and the size of a window follow.
abbrev pub choices_of : Features → ℕ
choices_of features = features / 2 ^ 56

abbrev pub window_bit : Option Window → ℕ
window_bit None = 0
window_bit (Some window) = 2 ^ 8

abbrev pub window_bytes : Option Window → List ℕ
window_bytes None = []
window_bytes (Some window) = bytes_of_number 8 window.base ++ bytes_of_number 8 window.size

abbrev pub register_bits : ℕ
register_bits = bit_or igs_bits (shown_bits rows)

abbrev pub features_in : ℕ → ℕ → Features
features_in capabilities choices = bit_and capabilities register_bits + 2 ^ 56 * (choices % 2 ^ 8)

abbrev pub has_window : ℕ → Bool
has_window choices = nat_le (2 ^ 8) choices

abbrev pub are_words : ℕ → ℕ → Bool
are_words capabilities choices =
    nat_lt choices (2 ^ 9)
    && (capabilities_of (features_in capabilities choices) == capabilities && is_offer (features_in capabilities choices))

-- what an image of a version can state
abbrev pub CanState : Version → Type 0
CanState First = Unit {0}
CanState Second = Unit {0}
CanState (Third features) = (is_third features && is_offer features) ≡ true
CanState (Fourth features window) = (is_offer features ≡ true) × (is_window window ≡ true)

-- The bits of a word below Svnapot's are those that the capabilities have in the register, beside what each IOMMU has there.
abbrev pub StatesCapabilities : Type 0
StatesCapabilities =
    (features : Features) → is_offer features ≡ true → capabilities_of features ≡ each + features % 2 ^ 56

-- the first bytes of an image
abbrev pub version_bytes : Version → List ℕ
version_bytes First = codes "RVIOMMU1"
version_bytes Second = codes "RVIOMMU2"
version_bytes (Third features) = codes "RVIOMMU3" ++ bytes_of_number 8 (third_word features)
version_bytes (Fourth features window) =
    codes "RVIOMMU4"
    ++ (bytes_of_number 8 (capabilities_of features) ++ (bytes_of_number 8 (choices_of features + window_bit window) ++ window_bytes window))
