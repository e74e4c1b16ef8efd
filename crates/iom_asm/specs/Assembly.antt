-- Texts: what the statements on the lines of a text make, one after the other, and the image of it.
use Rattle.std.specs.Prelude.{ℕ, ◌≡◌, ◌≢◌, ◌+◌, ◌==◌, ◌&&◌, ◌||◌, ◌++◌, Bool, true, false, not, is_some, List, [], ◌∷◌, length, codes, bytes_eq, nat_lt, nat_le, Option, Some, None, Result, Ok, Err, if◌then◌else◌}
use Rattle.std.specs.List.{list_any}
use Rattle.std.specs.Option.{option_map}
use Rattle.std.specs.Result.{result_ok}
use Rattle.hex.specs.Hex.{decode_of}
use Rattle.iom_text.specs.Words.{words_of, number}
use Rattle.iom_mem.specs.Sizes.{is_paged, is_good_size, covers}
use Rattle.iom_asm.specs.declared.asm_fault.AsmFault.{AsmFault}
use Rattle.iom_asm.specs.declared.asm_fault.AsmFault.TheVariants.{BadLine, Outside, Overlap, OutOfMemory}
use Rattle.iom_bits.specs.Bits.{has_bit}
use Rattle.iom_bits.specs.Features.{Features, msi_flat_bit, no_features}
use Rattle.iom_messages.specs.declared.window.Window.{Window}
use Rattle.iom_image.specs.declared.version.Version.TheVariants.{First}
use Rattle.iom_image.specs.Versions.{flagged, features_of, is_beside, is_window, stating, window_of}
use Rattle.iom_image.specs.Image.{Chunk, Disk, Image, end_of, is_next_disk, image_bytes}
use Rattle.iom_mem.specs.Words.{bytes_of_words}
use Rattle.iom_items.specs.Capabilities.{features_for}
use Rattle.iom_items.specs.Forms.{where_so, words_on}
use Rattle.iom_items.specs.Operands.{◌>>=◌}

-- the second, where the first is no fault
abbrev pub then_so : {A B : Type 0} → Result A AsmFault → (A → Result B AsmFault) → Result B AsmFault
then_so (Ok x) f = f x
then_so (Err fault) f = Err fault

-- what a statement gives, where there is such a statement
abbrev pub or_bad : {A : Type 0} → ℕ → Option A → Result A AsmFault
or_bad line (Some x) = Ok x
or_bad line None = Err (BadLine line)

-- The lines of a text: each ends with a line feed, which the last may lack.
abbrev pub onto_line : ℕ → List (List ℕ) → List (List ℕ)
onto_line byte [] = (byte ∷ []) ∷ []
onto_line byte (line ∷ lines) = (byte ∷ line) ∷ lines

unfoldable pub lines_of : List ℕ → List (List ℕ)
lines_of [] = []
lines_of (byte ∷ bytes) = if byte == 10 then [] ∷ lines_of bytes else onto_line byte (lines_of bytes)

-- What the statements so far make: an image, and the physical address of what is placed next.
pub record ImageDraftView : Type 0 where
  pub image : Image
  pub next_address : ℕ

-- two or more hex digits, an even number of them: a byte for two
unfoldable pub hex : List ℕ → Option (List ℕ)
hex word = where_so (nat_le 2 (length word)) (result_ok (decode_of word))

abbrev pub one_hex : List (List ℕ) → Option (List ℕ)
one_hex [] = None
one_hex (word ∷ []) = hex word
one_hex (word ∷ other ∷ more) = None

-- the bytes that a statement places on a machine with these features
unfoldable pub bytes_for : Features → List ℕ → List (List ℕ) → Option (List ℕ)
bytes_for features name operands =
    if bytes_eq name (codes "bytes") then one_hex operands else option_map bytes_of_words (words_on features name operands)

-- `ram BASE SIZE`: the place is the base
abbrev pub empty_draft : ℕ → ℕ → ImageDraftView
empty_draft base size = record { image = record { version = First; base = base; size = size; chunks = []; disks = [] }; next_address = base }

unfoldable pub ram_draft : List ℕ → List ℕ → Option ImageDraftView
ram_draft base size = do
  base ← number base
  size ← number size
  where_so (is_paged base && is_good_size base size) (Some (empty_draft base size))

unfoldable pub opened : List (List ℕ) → Option ImageDraftView
opened [] = None
opened (base ∷ []) = None
opened (base ∷ size ∷ []) = ram_draft base size
opened (base ∷ size ∷ more ∷ others) = None

-- `at ADDR`
abbrev pub moved_to : ImageDraftView → ℕ → ImageDraftView
moved_to draft place = record draft { next_address = place }

unfoldable pub moved : ImageDraftView → List (List ℕ) → Option ImageDraftView
moved draft [] = None
moved draft (place ∷ []) = option_map (moved_to draft) (number place)
moved draft (place ∷ more ∷ others) = None

-- `disk DID SECTORS [HEX]`, or `rodisk DID SECTORS [HEX]` for a disk that may only be read
abbrev pub first_bytes : List (List ℕ) → Option (List ℕ)
first_bytes [] = Some []
first_bytes (word ∷ words) = one_hex (word ∷ words)

unfoldable pub disk_of : Bool → List ℕ → List ℕ → List (List ℕ) → Option Disk
disk_of read_only id sectors words = do
  id ← number id
  sectors ← number sectors
  bytes ← first_bytes words
  Some (record { id = id; sectors = sectors; read_only = read_only; bytes = bytes })

unfoldable pub disk_for : Bool → List (List ℕ) → Option Disk
disk_for read_only [] = None
disk_for read_only (id ∷ []) = None
disk_for read_only (id ∷ sectors ∷ words) = disk_of read_only id sectors words

-- an image with a read-only disk is of version 2, where no capabilities are stated
abbrev pub with_disk : ImageDraftView → Disk → ImageDraftView
with_disk draft disk = record draft {
  image = record draft.image {
    version = flagged draft.image.version disk.read_only;
    disks = draft.image.disks ++ disk ∷ [];
  };
}

unfoldable pub joined : ImageDraftView → Bool → List (List ℕ) → Option ImageDraftView
joined draft read_only words = do
  disk ← disk_for read_only words
  where_so (is_next_disk draft.image.disks disk) (Some (with_disk draft disk))

-- `capabilities KEY=NUMBER..`, which is stated once at most: an image with it is of version 3, or of 4 where that can't state them.
-- Where none are stated yet the machine has no Svnapot, which those that are stated always have. Those with MSI_FLAT, by which contexts
-- have more words, are stated before all data.
abbrev pub offering : ImageDraftView → Features → ImageDraftView
offering draft features = record draft {
  image = record draft.image { version = stating features (window_of draft.image.version) };
}

abbrev pub may_offer : Image → Features → Bool
may_offer image features =
    features_of image.version == no_features && (not (has_bit features msi_flat_bit) || length image.chunks == 0)

unfoldable pub offered : ImageDraftView → List (List ℕ) → Option ImageDraftView
offered draft words = do
  features ← features_for words
  where_so (may_offer draft.image features) (Some (offering draft features))

-- `window BASE SIZE`, which is stated once at most: whole pages, of which no byte is memory. An image with it is of version 4.
unfoldable pub window_for : List (List ℕ) → Option Window
window_for [] = None
window_for (base ∷ []) = None
window_for (base ∷ size ∷ []) = do
  base ← number base
  size ← number size
  Some (record { base = base; size = size })
window_for (base ∷ size ∷ more ∷ others) = None

abbrev pub with_window : ImageDraftView → Window → ImageDraftView
with_window draft window = record draft {
  image = record draft.image { version = stating (features_of draft.image.version) (Some window) };
}

abbrev pub is_next_window : Image → Window → Bool
is_next_window image window =
    not (is_some (window_of image.version)) && (is_window (Some window) && is_beside (Some window) image.base image.size)

unfoldable pub windowed : ImageDraftView → List (List ℕ) → Option ImageDraftView
windowed draft words = do
  window ← window_for words
  where_so (is_next_window draft.image window) (Some (with_window draft window))

-- Bytes at the place. They are a chunk of their own, and the place moves past them.
abbrev pub is_inside : Image → ℕ → ℕ → Bool
is_inside image addr len = covers image.base (image.base + image.size) addr len

-- whether a chunk has one of so many bytes from an address on
abbrev pub meets : ℕ → ℕ → Chunk → Bool
meets addr len chunk = nat_lt chunk.addr (addr + len) && nat_lt addr (end_of chunk)

-- a chunk among others, by address
abbrev pub insert : Chunk → List Chunk → List Chunk
insert chunk [] = chunk ∷ []
insert chunk (first ∷ others) =
    if nat_lt chunk.addr first.addr then chunk ∷ first ∷ others else first ∷ insert chunk others

abbrev pub with_bytes : ImageDraftView → List ℕ → ImageDraftView
with_bytes draft bytes = record {
  image = record draft.image { chunks = insert (record { addr = draft.next_address; bytes = bytes }) draft.image.chunks };
  next_address = draft.next_address + length bytes;
}

unfoldable pub placed : ℕ → ImageDraftView → List ℕ → Result ImageDraftView AsmFault
placed line draft bytes =
    if is_inside draft.image draft.next_address (length bytes)
    then if list_any (meets draft.next_address (length bytes)) draft.image.chunks then Err (Overlap line) else Ok (with_bytes draft bytes)
    else Err (Outside line)

-- The statement of a name on line `line`, after the first one. Data may use what `capabilities` stated before them.
unfoldable pub stated : ℕ → ImageDraftView → List ℕ → List (List ℕ) → Result ImageDraftView AsmFault
stated line draft name operands =
    if bytes_eq name (codes "at") then or_bad line (moved draft operands)
    else if bytes_eq name (codes "disk") then or_bad line (joined draft false operands)
    else if bytes_eq name (codes "rodisk") then or_bad line (joined draft true operands)
    else if bytes_eq name (codes "capabilities") then or_bad line (offered draft operands)
    else if bytes_eq name (codes "window") then or_bad line (windowed draft operands)
    else then_so (or_bad line (bytes_for (features_of draft.image.version) name operands)) (placed line draft)

-- the first statement
unfoldable pub started : ℕ → List ℕ → List (List ℕ) → Result ImageDraftView AsmFault
started line name operands = or_bad line (where_so (bytes_eq name (codes "ram")) (opened operands))

-- The words of a line, after nothing or after what the statements before make. A line without words is no statement.
unfoldable pub after_words : ℕ → Option ImageDraftView → List (List ℕ) → Result (Option ImageDraftView) AsmFault
after_words line draft [] = Ok draft
after_words line None (name ∷ operands) = then_so (started line name operands) (λ draft. Ok (Some draft))
after_words line (Some draft) (name ∷ operands) = then_so (stated line draft name operands) (λ draft. Ok (Some draft))

-- the lines of a text, the first of them line `line`, or the first fault
unfoldable pub after_lines : ℕ → Option ImageDraftView → List (List ℕ) → Result (Option ImageDraftView) AsmFault
after_lines line draft [] = Ok draft
after_lines line draft (text ∷ texts) =
    then_so (after_words line draft (words_of text)) (λ next. after_lines (line + 1) next texts)

abbrev pub ended : Option ImageDraftView → Result Image AsmFault
ended None = Err (BadLine 0)
ended (Some draft) = Ok draft.image

-- the image that a text describes, or the first fault
unfoldable pub described : List ℕ → Result Image AsmFault
described text = then_so (after_lines 1 None (lines_of text)) ended

unfoldable pub assembled : List ℕ → Result (List ℕ) AsmFault
assembled text = then_so (described text) (λ image. Ok (image_bytes image))

-- what a function that takes memory returned is this, as `view` sees it, or there was no memory
abbrev pub Makes : {X Y : Type 0} → (X → Y) → Result X AsmFault → Result Y AsmFault → Type 0
Makes view (Ok x) made = made ≡ Ok (view x)
Makes view (Err fault) made = fault ≢ OutOfMemory → made ≡ Err fault
