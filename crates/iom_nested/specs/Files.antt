-- Interrupt files of a guest behind a flat MSI page table, whose entries stand for the second stage at their pages: RISC-V IOMMU
-- Architecture 1.0, "Process to translate addresses of MSIs"; RISC-V Advanced Interrupt Architecture 1.0, "MSI page tables".
use Rattle.std.specs.Prelude.{ℕ, zero, suc, ◌+◌, ◌*◌, ◌/◌, ◌%◌, ◌==◌, ◌&&◌, Bool, not, List, [], ◌∷◌, Option, Some, None, Result, Ok, Err, bit_or, if◌then◌else◌}
use Rattle.iom_bits.specs.Bits.{has_bit, field_of}
use Rattle.iom_mem.specs.Memory.{Memory, words_at}
use Rattle.iom_ddt.specs.declared.context.MsiTable.{MsiTable}
use Rattle.iom_nested.specs.Faults.{Failure, FileOutside, FileInvalid, FileBad}
use Rattle.iom_nested.specs.declared.files.FileRuling.{FileRuling}
use Rattle.iom_nested.specs.declared.files.FileRuling.TheVariants as ruling
use Rattle.iom_nested.specs.declared.translation.Hit.{Hit}
use Rattle.iom_nested.specs.declared.translation.Reached.{Reached}

-- an address is one of a file where the number of its page is the pattern, at each bit that the mask leaves out
abbrev pub is_of_file : MsiTable → ℕ → Bool
is_of_file msi addr = msi.flat && bit_or (addr / 4096) msi.mask == bit_or msi.pattern msi.mask

-- the bits of a number at the places where a mask of so many bits has 1, packed to the low end
abbrev pub packed : ℕ → ℕ → ℕ → ℕ
packed zero number mask = 0
packed (suc count) number mask =
    if mask % 2 == 1 then 2 * packed count (number / 2) (mask / 2) + number % 2 else packed count (number / 2) (mask / 2)

-- the number of the file
abbrev pub file_number : MsiTable → ℕ → ℕ
file_number msi addr = packed 52 (addr / 4096) msi.mask

-- the physical address of its entry, of 16 bytes
abbrev pub file_place : MsiTable → ℕ → ℕ
file_place msi addr = bit_or (msi.ppn * 4096) (file_number msi addr * 16)

-- the first of some words
abbrev pub first_of : Option (List ℕ) → Option ℕ
first_of (Some (word ∷ more)) = Some word
first_of (Some []) = None
first_of None = None

-- the first word of an entry, of which both are in memory
abbrev pub file_word : Memory → ℕ → Option ℕ
file_word memory place = first_of (words_at memory place 2)

-- of the first word of an entry: V is bit 0, M bits 2:1, PPN bits 53:10, C bit 63; all others are reserved where M is basic
abbrev pub entry_mode : ℕ → ℕ
entry_mode word = field_of word 1 2

abbrev pub entry_frame : ℕ → ℕ
entry_frame word = field_of word 10 44

abbrev pub has_reserved : ℕ → Bool
has_reserved word = not (field_of word 3 7 == 0 && field_of word 54 9 == 0)

-- the first row of the table of MSI entries that applies to a first word
abbrev pub word_ruling : ℕ → FileRuling
word_ruling word =
    if not (has_bit word 0) then ruling.Invalid
    else if has_bit word 63 then ruling.Custom
    else if entry_mode word % 2 == 0 then ruling.BadMode
    else if entry_mode word == 1 then ruling.Resident
    else if has_reserved word then ruling.Reserved
    else ruling.Leads

abbrev pub file_ruling : Option ℕ → FileRuling
file_ruling (Some word) = word_ruling word
file_ruling None = ruling.Outside

-- the entry's frame, for reads and writes alike; the first stage's level, global and napot
abbrev pub hit_ruled : Reached → ℕ → FileRuling → Result Hit Failure
hit_ruled reached frame ruling.Outside = Err FileOutside
hit_ruled reached frame ruling.Invalid = Err FileInvalid
hit_ruled reached frame ruling.Custom = Err FileInvalid
hit_ruled reached frame ruling.BadMode = Err FileBad
hit_ruled reached frame ruling.Resident = Err FileBad
hit_ruled reached frame ruling.Reserved = Err FileBad
hit_ruled reached frame ruling.Leads = Ok (record { frame = frame; level = reached.level; global = reached.global; napot = reached.napot })

abbrev pub hit_by_file : Reached → Option ℕ → Result Hit Failure
hit_by_file reached (Some word) = hit_ruled reached (entry_frame word) (word_ruling word)
hit_by_file reached None = Err FileOutside

-- where an entry leads what the first stage reached
abbrev pub file_stage : Memory → MsiTable → Reached → Result Hit Failure
file_stage memory msi reached = hit_by_file reached (file_word memory (file_place msi reached.addr))
