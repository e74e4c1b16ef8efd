-- The shapes of page tables: RISC-V Privileged Architecture 1.12, "Sv39: Page-Based 39-bit Virtual-Memory System", "Sv48:
-- Page-Based 48-bit Virtual-Memory System" and "Sv57: Page-Based 57-bit Virtual-Memory System", and for Sv39x4, Sv48x4 and Sv57x4
-- "Two-Stage Address Translation", "Guest Physical Address Translation".
use Rattle.std.specs.Prelude.{ℕ, ◌+◌, ◌-◌, ◌*◌, ◌^◌, ◌==◌, ◌&&◌, Bool, if◌then◌else◌}
use Rattle.iom_bits.specs.Bits.{has_bit, field_of}
use Rattle.iom_bits.specs.Features.{Features}
use Rattle.iom_walk.specs.declared.rules.Class.TheVariants.{User}
use Rattle.iom_walk.specs.declared.rules.EntryRules.{EntryRules}
use Rattle.iom_walk.specs.declared.shape.Format.{Format}
use Rattle.iom_walk.specs.declared.shape.Shape.{Shape}
use Rattle.iom_walk.specs.declared.shape.Shape.TheVariants.{Sv39, Sv39x4, Sv48, Sv48x4, Sv57, Sv57x4}

-- how many levels of tables there are (LEVELS); the root's level is one less, that of the last table is 0
abbrev pub levels : Shape → ℕ
levels Sv39 = 3
levels Sv39x4 = 3
levels Sv48 = 4
levels Sv48x4 = 4
levels Sv57 = 5
levels Sv57x4 = 5

-- by how many bits the index into the root is wider than the nine of the others
abbrev pub widening : Shape → ℕ
widening Sv39 = 0
widening Sv39x4 = 2
widening Sv48 = 0
widening Sv48x4 = 2
widening Sv57 = 0
widening Sv57x4 = 2

-- the width of the index into a table (VPN[level], GPA VPN[level])
abbrev pub index_width : Shape → ℕ → ℕ
index_width shape level = if level + 1 == levels shape then 9 + widening shape else 9

-- the index itself: those bits of the address, above the twelve of the offset in a page
unfoldable pub index_of : Shape → ℕ → ℕ → ℕ
index_of shape address level = field_of address (12 + 9 * level) (index_width shape level)

-- the bits from `low` up to 63 of an address are all equal to `bit`
abbrev pub are_all : Bool → ℕ → ℕ → Bool
are_all bit address low =
    if bit then field_of address low (64 - low) == 2 ^ (64 - low) - 1 else field_of address low (64 - low) == 0

-- the width of a page's number: those of the indexes together (VPN, GPA VPN)
abbrev pub page_width : Shape → ℕ
page_width shape = 9 * levels shape + widening shape

-- The width rule: the bits above the page's number equal its highest bit, and in a shape whose root is wider 0. So bits 63:39 of an
-- address of Sv39 equal bit 38, bits 63:48 of one of Sv48 bit 47, bits 63:57 of one of Sv57 bit 56; bits 63:41 of one of Sv39x4 are 0,
-- bits 63:50 of one of Sv48x4 and bits 63:59 of one of Sv57x4.
unfoldable pub is_in_width : Shape → ℕ → Bool
is_in_width shape address =
    are_all (widening shape == 0 && has_bit address (12 + (page_width shape - 1))) address (12 + page_width shape)

-- the rules for accesses of user mode, and the format of tables of some shape for these
abbrev pub user_rules : Features → EntryRules
user_rules features = record { features = features; class = User }

abbrev pub user_format : Shape → Features → Format
user_format shape features = record { shape = shape; rules = user_rules features }
