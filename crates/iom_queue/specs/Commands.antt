-- Commands and the two words that stand for each in the command queue: RISC-V IOMMU Architecture 1.0, "Command-Queue (CQ)".
-- A word is the sum of its fields at their places: opcode from bit 0, func3 from bit 7, and the operands; all other bits are 0.
use Rattle.std.specs.Prelude.{ℕ, ◌≡◌, ◌+◌, ◌*◌, ◌/◌, ◌%◌, ◌^◌, ◌<◌, ◌==◌, ◌&&◌, ◌||◌, Bool, true, not, List, [], ◌∷◌, Option, Some, None, if◌then◌else◌}
use Rattle.iom_bits.specs.Bits.{has_bit, flag, field_of}
use Rattle.iom_bits.specs.Features.{Features, nl_bit, s_bit}
use Rattle.iom_queue.specs.declared.command.Command.{Command}
use Rattle.iom_queue.specs.declared.command.Command.TheVariants.{Vma, Gvma, Fence, Iodir}

-- "IOTINVAL": opcode 1, func3 0 for VMA and 1 for GVMA; AV 10, PSCID 31:12, PSCV 32 (0 for GVMA), GV 33, NL 34, GSCID 59:44.
-- "IOFENCE.C": opcode 2, func3 0; AV 10, WSI 11, PR 12, PW 13, DATA 63:32.
-- "IODIR": opcode 3, func3 0 for INVAL_DDT; DV 33, DID 63:40
abbrev pub first_word : Command → ℕ
first_word (Vma av page pscv pscid gv gscid nl s) =
    1 + 2 ^ 7 * 0 + 2 ^ 10 * flag av + 2 ^ 12 * pscid + 2 ^ 32 * flag pscv + 2 ^ 33 * flag gv + 2 ^ 34 * flag nl + 2 ^ 44 * gscid
first_word (Gvma av page pscid gv gscid nl s) =
    1 + 2 ^ 7 * 1 + 2 ^ 10 * flag av + 2 ^ 12 * pscid + 2 ^ 33 * flag gv + 2 ^ 34 * flag nl + 2 ^ 44 * gscid
first_word (Fence av wsi pr pw value addr) =
    2 + 2 ^ 7 * 0 + 2 ^ 10 * flag av + 2 ^ 11 * flag wsi + 2 ^ 12 * flag pr + 2 ^ 13 * flag pw + 2 ^ 32 * value
first_word (Iodir dv did) = 3 + 2 ^ 7 * 0 + 2 ^ 33 * flag dv + 2 ^ 40 * did

-- IOTINVAL: S 9, and ADDR[63:12], the number of a page, in bits 61:10. IOFENCE.C: ADDR[63:2] in bits 61:0. IODIR: 0
abbrev pub second_word : Command → ℕ
second_word (Vma av page pscv pscid gv gscid nl s) = 2 ^ 9 * flag s + 2 ^ 10 * page
second_word (Gvma av page pscid gv gscid nl s) = 2 ^ 9 * flag s + 2 ^ 10 * page
second_word (Fence av wsi pr pw value addr) = addr / 4
second_word (Iodir dv did) = 0

abbrev pub command_words : Command → List ℕ
command_words command = first_word command ∷ second_word command ∷ []

-- each operand fits its field; a fence stores at a multiple of 4
abbrev pub CommandFits : Command → Type 0
CommandFits (Vma av page pscv pscid gv gscid nl s) = (page < 2 ^ 52) × (pscid < 2 ^ 20) × (gscid < 2 ^ 16)
CommandFits (Gvma av page pscid gv gscid nl s) = (page < 2 ^ 52) × (pscid < 2 ^ 20) × (gscid < 2 ^ 16)
CommandFits (Fence av wsi pr pw value addr) = (value < 2 ^ 32) × (addr < 2 ^ 64) × (addr % 4 ≡ 0)
CommandFits (Iodir dv did) = did < 2 ^ 24

-- the words stand for the command
pub record IsCommandEncoding (command : Command) (words : List ℕ) : Type 0 where
  pub fits : CommandFits command
  pub words_are : words ≡ command_words command

-- "IOMMU capabilities", NL and S: an IOMMU without one of them has a reserved bit in its place, which is 0 in each command
abbrev pub is_offered : Features → Command → Bool
is_offered features (Vma av page pscv pscid gv gscid nl s) = (has_bit features nl_bit || not nl) && (has_bit features s_bit || not s)
is_offered features (Gvma av page pscid gv gscid nl s) = (has_bit features nl_bit || not nl) && (has_bit features s_bit || not s)
is_offered features (Fence av wsi pr pw value addr) = true
is_offered features (Iodir dv did) = true

-- the operands of each command, as they stand in two words
abbrev pub vma_in : ℕ → ℕ → Command
vma_in first second =
    Vma (has_bit first 10) (field_of second 10 52) (has_bit first 32) (field_of first 12 20) (has_bit first 33) (field_of first 44 16)
    (has_bit first 34) (has_bit second 9)

abbrev pub gvma_in : ℕ → ℕ → Command
gvma_in first second =
    Gvma (has_bit first 10) (field_of second 10 52) (field_of first 12 20) (has_bit first 33) (field_of first 44 16)
    (has_bit first 34) (has_bit second 9)

abbrev pub fence_in : ℕ → ℕ → Command
fence_in first second =
    Fence (has_bit first 10) (has_bit first 11) (has_bit first 12) (has_bit first 13) (field_of first 32 32) (4 * field_of second 0 62)

abbrev pub iodir_in : ℕ → Command
iodir_in first = Iodir (has_bit first 33) (field_of first 40 24)

-- the command by opcode and func3, whatever the other bits of the words are
abbrev pub operands_of : ℕ → ℕ → ℕ → ℕ → Option Command
operands_of opcode func3 first second =
    if opcode == 1 && func3 == 0 then Some (vma_in first second)
    else if opcode == 1 && func3 == 1 then Some (gvma_in first second)
    else if opcode == 2 && func3 == 0 then Some (fence_in first second)
    else if opcode == 3 && func3 == 0 then Some (iodir_in first)
    else None

-- a command, where it has just these words
abbrev pub with_words : ℕ → ℕ → Option Command → Option Command
with_words first second None = None
with_words first second (Some command) =
    if first_word command == first && second_word command == second then Some command else None

-- the command that two words stand for; None: they stand for no command
unfoldable pub command_of : List ℕ → Option Command
command_of [] = None
command_of (first ∷ []) = None
command_of (first ∷ second ∷ []) =
    with_words first second (operands_of (field_of first 0 7) (field_of first 7 3) first second)
command_of (first ∷ second ∷ third ∷ more) = None
