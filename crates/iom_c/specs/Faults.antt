-- The numbers of refusals, and their words.
use Rattle.std.specs.Prelude.{ℕ, ◌≡◌, ◌⊎◌, ◌==◌, if◌then◌else◌, List, [], ◌∷◌, codes, slice_get, Bool, true, false, Option, Some, None, IsSomeAnd, Result, Ok, Err}
use Rattle.std.specs.Option.{unwrap_or}
use Rattle.iom_image.specs.Image.{Image}
use Rattle.iom_image.specs.declared.fault.LoadFault.{LoadFault}
use Rattle.iom_image.specs.declared.fault.LoadFault.TheVariants as load
use Rattle.iom_asm.specs.declared.asm_fault.AsmFault.{AsmFault}
use Rattle.iom_asm.specs.declared.asm_fault.AsmFault.TheVariants as asm
use Rattle.iom_c.specs.Keeping.{none_kept}
use Rattle.iom_c.specs.declared.owned.Owned.{Owned}

-- it was done
abbrev pub ok : ℕ
ok = 0

abbrev pub out_of_memory : ℕ
out_of_memory = 7

-- a base or a size that no memory has
abbrev pub bad_memory : ℕ
bad_memory = 4

-- the memory isn't the handle's own, or these words aren't what it is lent
abbrev pub status_other_memory : ℕ
status_other_memory = 15

-- the caller's buffer is too short
abbrev pub little_room : ℕ
little_room = 11

abbrev pub outside : ℕ
outside = 10

abbrev pub no_disk : ℕ
no_disk = 12

-- there are fewer parts, steps or places, or no device has this id
abbrev pub not_there : ℕ
not_there = 13

-- the bytes are no saved platform
abbrev pub bad_save : ℕ
bad_save = 16

-- they were saved in another form
abbrev pub other_version : ℕ
other_version = 17

-- what any IOMMU may hold isn't kept
abbrev pub not_kept : ℕ
not_kept = 18

-- an IOMMU may lead the request elsewhere than the tables do
abbrev pub unsettled : ℕ
unsettled = 19

-- something is cached
abbrev pub status_cached : ℕ
status_cached = 20

-- an entry that an IOMMU may hold names the memory
abbrev pub named : ℕ
named = 21

-- a line of a text or of a trace can't be read
abbrev pub bad_line : ℕ
bad_line = 8

-- no IOMMU could answer so
abbrev pub refused : ℕ
refused = 22

-- what an IOMMU may be isn't decided by a line, or by one before it
abbrev pub undecided : ℕ
undecided = 23

abbrev pub judged_over : ℕ
judged_over = 24

-- why an image is refused
abbrev pub load_number : LoadFault → ℕ
load_number load.BadMagic = 1
load_number load.Truncated = 2
load_number load.Trailing = 3
load_number load.BadRam = 4
load_number load.BadChunk = 5
load_number load.BadDevice = 6
load_number load.BadCapabilities = 14
load_number load.BadWindow = 25
load_number load.OutOfMemory = 7

-- why a text is refused
abbrev pub asm_number : AsmFault → ℕ
asm_number (asm.BadLine line) = bad_line
asm_number (asm.Overlap line) = 9
asm_number (asm.Outside line) = 10
asm_number asm.OutOfMemory = 7

-- the line with the fault, where this stood
abbrev pub line_in : AsmFault → ℕ → ℕ
line_in (asm.BadLine line) old = line
line_in (asm.Overlap line) old = line
line_in (asm.Outside line) old = line
line_in asm.OutOfMemory old = old

-- an answer to a text that names no line
abbrev pub HasNoLine : ℕ → Type 0
HasNoLine told = (told ≡ ok) ⊎ ((told ≡ little_room) ⊎ (told ≡ out_of_memory))

-- the words of each number, from 0 on
abbrev pub all_words : List (List ℕ)
all_words =
    codes "ok" ∷ codes "bad magic" ∷ codes "truncated" ∷ codes "trailing bytes" ∷ codes "bad memory" ∷ codes "bad chunk"
    ∷ codes "bad device" ∷ codes "out of memory" ∷ codes "bad line" ∷ codes "overlap" ∷ codes "outside memory"
    ∷ codes "too little room" ∷ codes "no such disk" ∷ codes "not there" ∷ codes "bad capabilities" ∷ codes "other memory"
    ∷ codes "not a saved platform" ∷ codes "other version" ∷ codes "holdings not kept" ∷ codes "unsettled" ∷ codes "caches not empty"
    ∷ codes "memory still named" ∷ codes "refused" ∷ codes "undecided" ∷ codes "undecided before"
    ∷ codes "bad window" ∷ []

abbrev pub words_for : ℕ → List ℕ
words_for number = unwrap_or (slice_get all_words number) (codes "no such number")

-- the name of a cause: RISC-V IOMMU Architecture 1.0, "Fault/Event-Queue (FQ)", CAUSE
abbrev pub cause_words : ℕ → List ℕ
cause_words cause =
    if cause == 5 then codes "read access fault"
    else if cause == 7 then codes "write access fault"
    else if cause == 13 then codes "read page fault"
    else if cause == 15 then codes "write page fault"
    else if cause == 21 then codes "read guest page fault"
    else if cause == 23 then codes "write guest page fault"
    else if cause == 256 then codes "all inbound transactions disallowed"
    else if cause == 257 then codes "DDT entry load access fault"
    else if cause == 258 then codes "DDT entry not valid"
    else if cause == 259 then codes "DDT entry misconfigured"
    else if cause == 260 then codes "transaction type disallowed"
    else if cause == 261 then codes "MSI PTE load access fault"
    else if cause == 262 then codes "MSI PTE not valid"
    else if cause == 263 then codes "MSI PTE misconfigured"
    else codes "no such cause"

-- a start is made, of what the handle owns then, or there is no memory for it
abbrev pub Starts : (Owned → Type 0) → ℕ → Option Owned → Type 0
Starts IsStart told held = ((told ≡ ok) × IsSomeAnd held IsStart) ⊎ ((told ≡ out_of_memory) × (held ≡ None))

-- how many reasons are kept, and of which steps, is set anew, or there is no memory for it
abbrev pub KeepsReasons : Owned → ℕ → Bool → ℕ → Option Owned → Type 0
KeepsReasons own most accesses_only told held =
    ((told ≡ ok) × (held ≡ Some (record own { told = record own.told { kept = none_kept most accesses_only } }))) ⊎ ((told ≡ out_of_memory) × (held ≡ Some own))

-- the number that the opening of bytes returns, and what the handle owns after it: the bytes are an image that starts this, or are refused
abbrev pub Opens : (Image → Owned → Type 0) → Result Image LoadFault → ℕ → Option Owned → Type 0
Opens IsStart (Ok found) told held = Starts (IsStart found) told held
Opens IsStart (Err fault) told held = (told ≡ load_number fault) × (held ≡ None)

-- what opens in front of memory that is lent, if there may be such memory
abbrev pub OpensIf : Bool → (ℕ → Option Owned → Type 0) → ℕ → Option Owned → Type 0
OpensIf true Opened told held = Opened told held
OpensIf false Opened told held = (told ≡ bad_memory) × (held ≡ None)
