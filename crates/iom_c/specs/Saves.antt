-- A handle as bytes.
use Rattle.std.specs.Prelude.{ℕ, ◌≡◌, ◌⊎◌, ◌<◌, ◌*◌, ◌%◌, ◌^◌, ◌==◌, Bool, true, false, List, [], ◌∷◌, ◌++◌, codes, drop, get_or, IsTrue, length, nat_lt, not, Option, Some, None, take}
use Rattle.iom_bits.specs.Bits.{flag}
use Rattle.iom_bits.specs.Bytes.{number_of_bytes}
use Rattle.iom_mem.specs.Lent.{is_lendable}
use Rattle.iom_mem.specs.Words.{bytes_of_words}
use Rattle.iom_saved.specs.Boards.{board_words}
use Rattle.iom_saved.specs.Bytes.{memory_words}
use Rattle.iom_saved.specs.Check.{check_of}
use Rattle.iom_saved.specs.Histories.{history_words}
use Rattle.iom_saved.specs.Kept.{IsBoard, IsHistory, IsMemory}
use Rattle.iom_saved.specs.Whole.{EachWhole, IsWhole}
use Rattle.iom_c.specs.Buffers.{begun_by}
use Rattle.iom_c.specs.Faults.{bad_save, other_version, out_of_memory}
use Rattle.iom_c.specs.Handles.{board_of}
use Rattle.iom_c.specs.Keeping.{copied}
use Rattle.iom_c.specs.declared.held.Held.{Held}
use Rattle.iom_c.specs.declared.held.Held.TheVariants as held
use Rattle.iom_c.specs.declared.owned.Owned.{Owned}
use Rattle.iom_c.specs.declared.restoring.RestoreFault.{RestoreFault}
use Rattle.iom_c.specs.declared.restoring.RestoreFault.TheVariants as refused
use Rattle.iom_c.specs.declared.told.Told.{Told}

-- the first word: its bytes are these letters
abbrev pub save_magic : ℕ
save_magic = number_of_bytes (codes "RVIOMMUS")

-- the second word: which form the others have
abbrev pub save_version : ℕ
save_version = 5

-- the memory that is a platform's own, or the place of that which is lent
abbrev pub place_words : Held → List ℕ
place_words (held.Own platform) = 0 ∷ memory_words platform.machine.memory
place_words (held.Lent lent) = 1 ∷ lent.base ∷ lent.count ∷ []

-- and the board
abbrev pub held_words : Held → List ℕ
held_words held = place_words held ++ board_words (board_of held)

-- how many reasons are kept and of which steps, and the history
abbrev pub told_words : Told → List ℕ
told_words told = told.kept.ring.capacity ∷ flag told.kept.accesses_only ∷ history_words told.history

-- the number of the last step, the account of the steps, and the platform
abbrev pub owned_words : Owned → List ℕ
owned_words own = own.count ∷ (told_words own.told ++ held_words own.held)

-- the words that are saved: the third is the check word of those behind it
abbrev pub saved_words : Owned → List ℕ
saved_words own = save_magic ∷ save_version ∷ check_of (owned_words own) ∷ owned_words own

abbrev pub saved : Owned → List ℕ
saved own = bytes_of_words (saved_words own)

-- word `i` of bytes
abbrev pub word_in : List ℕ → ℕ → ℕ
word_in bytes i = number_of_bytes (take 8 (drop (8 * i) bytes))

-- a check that holds, or else this refusal
abbrev pub unless : Bool → ℕ → Option ℕ → Option ℕ
unless true refusal next = next
unless false refusal next = Some refusal

-- The first check of these that bytes fail: they are whole words, begin with the magic word, and then have the version.
abbrev pub head_refusal : List ℕ → Option ℕ
head_refusal bytes =
    unless (length bytes % 8 == 0) bad_save
    (unless (not (nat_lt (length bytes) 16)) bad_save
    (unless (word_in bytes 0 == save_magic) bad_save
    (unless (word_in bytes 1 == save_version) other_version None)))

-- the number of a refusal
abbrev pub restore_number : RestoreFault → ℕ
restore_number refused.Bad = bad_save
restore_number refused.OtherVersion = other_version
restore_number refused.OutOfMemory = out_of_memory

-- why bytes are refused: by the first of these checks that fails; or else they are no words of a handle, or there is no memory for one
abbrev pub RefusedBy : Option ℕ → ℕ → Type 0
RefusedBy (Some refusal) told = told ≡ refusal
RefusedBy None told = (told ≡ bad_save) ⊎ (told ≡ out_of_memory)

-- memory of its own is whole words
abbrev pub HasWholeMemory : Held → Type 0
HasWholeMemory (held.Own platform) = IsWhole platform.machine.memory.bytes
HasWholeMemory (held.Lent lent) = Unit {0}

-- and so is the disk of each device
abbrev pub HasWholeParts : Held → Type 0
HasWholeParts held = HasWholeMemory held × EachWhole (board_of held).devices

-- it is saved as these bytes: each of its words has 64 bits
pub record IsSavedAs (own : Owned) (bytes : List ℕ) : Type 0 where
  pub are : bytes ≡ saved own
  pub whole : HasWholeParts own.held
  pub fit : (i : ℕ) → get_or (owned_words own) i 0 < 2 ^ 64

-- memory of its own is one that there may be, or that which it is lent is
abbrev pub HasMemory : Held → Type 0
HasMemory (held.Own platform) = IsMemory platform.machine.memory
HasMemory (held.Lent lent) = IsTrue (is_lendable lent.base (8 * lent.count))

-- what holds of each handle: its memory and its board are such as there may be, and its history names no more steps than the caches have places
pub record IsRunning (own : Owned) : Type 0 where
  pub memory : HasMemory own.held
  pub board : IsBoard (board_of own.held)
  pub history : IsHistory own.told.history

-- the bytes as which it is saved stand in the caller's buffer, with their number
abbrev pub Saves : Owned → List ℕ → List ℕ → ℕ → Type 0
Saves own old new count = (bytes : List ℕ) × IsSavedAs own bytes × (new ≡ begun_by bytes old) × (count ≡ length bytes)

-- or the buffer is too short for them
abbrev pub NeedsRoom : Owned → List ℕ → ℕ → Type 0
NeedsRoom own old count = (bytes : List ℕ) × IsSavedAs own bytes × (length old < length bytes) × (count ≡ length bytes)

-- the trace has no step, and no reason is kept yet
pub record IsFresh (own : Owned) : Type 0 where
  pub trace : own.trace ≡ []
  pub told : own.told ≡ copied own.told
