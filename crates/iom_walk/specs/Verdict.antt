-- What an entry of a page table says to a walk: RISC-V Privileged Architecture 1.12, "Virtual Address Translation Process",
-- steps 2 to 7, with the entries of "Sv39: Page-Based 39-bit Virtual-Memory System". An access is one of user mode, or of
-- supervisor mode with or without SUM: "Supervisor Status Register", SUM, and for an IOMMU "Process context", SUM. No walk sets A
-- or D: RISC-V IOMMU Architecture 1.0, "Process to translate an IOVA", with GADE and SADE 0. N and PBMT are those of "Svnapot"
-- and "Svpbmt", which an IOMMU may offer.
use Rattle.std.specs.Prelude.{ℕ, ◌*◌, ◌%◌, ◌^◌, ◌==◌, ◌&&◌, ◌||◌, Bool, true, false, not, List, [], ◌∷◌, if◌then◌else◌}
use Rattle.iom_bits.specs.Bits.{has_bit, field_of}
use Rattle.iom_bits.specs.declared.causes.Kind.{Kind}
use Rattle.iom_bits.specs.declared.causes.Kind.TheVariants.{Read, Write}
use Rattle.iom_bits.specs.Features.{Features, has_svnapot, svpbmt_bit}
use Rattle.iom_walk.specs.declared.rules.Class.{Class}
use Rattle.iom_walk.specs.declared.rules.Class.TheVariants.{Supervisor, SupervisorUser, User}
use Rattle.iom_walk.specs.declared.rules.EntryRules.{EntryRules}
use Rattle.iom_walk.specs.declared.source.Got.{Got}
use Rattle.iom_walk.specs.declared.source.Got.TheVariants as got
use Rattle.iom_walk.specs.declared.entry.Verdict.{Verdict}
use Rattle.iom_walk.specs.declared.entry.Verdict.TheVariants as verdict
use Rattle.iom_walk.specs.declared.entry.Ruling.{Ruling}
use Rattle.iom_walk.specs.declared.entry.Ruling.TheVariants as ruling

-- the fields of an entry: flags, bits 9:8 for software, the PPN, seven reserved bits, PBMT, N
abbrev pub is_valid : ℕ → Bool
is_valid word = has_bit word 0

abbrev pub is_readable : ℕ → Bool
is_readable word = has_bit word 1

abbrev pub is_writable : ℕ → Bool
is_writable word = has_bit word 2

abbrev pub is_executable : ℕ → Bool
is_executable word = has_bit word 3

abbrev pub is_user : ℕ → Bool
is_user word = has_bit word 4

abbrev pub is_global : ℕ → Bool
is_global word = has_bit word 5

abbrev pub is_accessed : ℕ → Bool
is_accessed word = has_bit word 6

abbrev pub is_dirty : ℕ → Bool
is_dirty word = has_bit word 7

abbrev pub ppn : ℕ → ℕ
ppn word = field_of word 10 44

-- the memory type: 0 is that of the memory itself, 1 and 2 are others
abbrev pub pbmt : ℕ → ℕ
pbmt word = field_of word 61 2

-- N: a leaf of 64 KiB, of which each of sixteen pages has a copy
abbrev pub is_napot : ℕ → Bool
is_napot word = has_bit word 63

-- R = W = X = 0
abbrev pub has_no_access : ℕ → Bool
has_no_access word = not (is_readable word) && not (is_writable word) && not (is_executable word)

-- of an entry with R = W = X = 0: A, D or U is set, which are reserved in a pointer
abbrev pub has_leaf_bits : ℕ → Bool
has_leaf_bits word = is_accessed word || is_dirty word || is_user word

-- N may be set: under Svnapot in a leaf at level 0 whose PPN[3:0] is 8
abbrev pub may_be_napot : Features → ℕ → ℕ → Bool
may_be_napot features level word =
    has_svnapot features && not (has_no_access word) && level == 0 && ppn word % 2 ^ 4 == 8

-- PBMT may be other than 0: under Svpbmt in a leaf, as 1 or 2
abbrev pub may_be_typed : Features → ℕ → Bool
may_be_typed features word = has_bit features svpbmt_bit && not (has_no_access word) && not (pbmt word == 3)

-- one of bits 63:54 is set where it is reserved
unfoldable pub is_reserved : Features → ℕ → ℕ → Bool
is_reserved features level word =
    not (field_of word 54 7 == 0)
    || is_napot word && not (may_be_napot features level word)
    || not (pbmt word == 0) && not (may_be_typed features word)

-- the PPN of a leaf that maps 2^(9 * level) pages isn't a multiple of that number
abbrev pub is_misaligned : ℕ → ℕ → Bool
is_misaligned level word = not (ppn word % 2 ^ (9 * level) == 0)

-- a leaf is open to accesses of a class: with U = 1 to those of user mode, with U = 0 to those of supervisor mode, which SUM lets
-- at both
abbrev pub is_open_to : Class → ℕ → Bool
is_open_to User word = is_user word
is_open_to Supervisor word = not (is_user word)
is_open_to SupervisorUser word = true

abbrev pub is_read : Kind → Bool
is_read Read = true
is_read Write = false

abbrev pub is_write : Kind → Bool
is_write Read = false
is_write Write = true

-- a word that was read, and whether one was
abbrev pub word_of : Got → ℕ
word_of (got.Word word) = word
word_of got.Outside = 0
word_of got.Guest = 0

abbrev pub is_outside : Got → Bool
is_outside (got.Word word) = false
is_outside got.Outside = true
is_outside got.Guest = false

abbrev pub is_guest : Got → Bool
is_guest (got.Word word) = false
is_guest got.Outside = false
is_guest got.Guest = true

-- a row of the table: when it applies, by the kind of the access, the entry's level and what was read; and its name
pub record Row : Type 0 where
  pub applies : Kind → ℕ → Got → Bool
  pub ruling : Ruling

-- a row on a word that was read
abbrev pub on_word : (Kind → ℕ → ℕ → Bool) → Ruling → Row
on_word test name = record { applies = λ kind level got. test kind level (word_of got); ruling = name }

-- a leaf: one that is misaligned (step 6), that doesn't allow the access (step 5), or for which A or D would have to be set
-- (step 7); or it maps the address
abbrev pub leaf_rows : Class → List Row
leaf_rows class =
    on_word (λ _ level word. is_misaligned level word) ruling.Misaligned
    ∷ on_word (λ _ _ word. not (is_open_to class word)) ruling.NotUser
    ∷ on_word (λ kind _ word. is_read kind && not (is_readable word)) ruling.NotReadable
    ∷ on_word (λ kind _ word. is_write kind && not (is_writable word)) ruling.NotWritable
    ∷ on_word (λ _ _ word. not (is_accessed word)) ruling.NotAccessed
    ∷ on_word (λ kind _ word. is_write kind && not (is_dirty word)) ruling.NotDirty
    ∷ on_word (λ _ _ _. true) ruling.Leaf
    ∷ []

-- before it R = W = X = 0, where A, D and U are reserved and there must be a next level (step 4)
abbrev pub pointer_rows : Class → List Row
pointer_rows class =
    on_word (λ _ _ word. has_no_access word && has_leaf_bits word) ruling.ReservedInPointer
    ∷ on_word (λ _ level word. has_no_access word && level == 0) ruling.LastLevel
    ∷ on_word (λ _ _ word. has_no_access word) ruling.Pointer
    ∷ leaf_rows class

-- the table: before these, what couldn't be read (step 2), V = 0, R = 0 with W = 1 and reserved bits (step 3)
abbrev pub rows : EntryRules → List Row
rows rules =
    record { applies = λ _ _ got. is_outside got; ruling = ruling.Outside }
    ∷ record { applies = λ _ _ got. is_guest got; ruling = ruling.Guest }
    ∷ on_word (λ _ _ word. not (is_valid word)) ruling.Invalid
    ∷ on_word (λ _ _ word. not (is_readable word) && is_writable word) ruling.WriteOnly
    ∷ on_word (λ _ level word. is_reserved rules.features level word) ruling.Reserved
    ∷ pointer_rows rules.class

-- the first row that applies decides
abbrev pub first_of : List Row → Kind → ℕ → Got → Ruling
first_of [] kind level got = ruling.Invalid
first_of (row ∷ more) kind level got =
    if row.applies kind level got then row.ruling else first_of more kind level got

unfoldable pub ruling_of : EntryRules → Kind → ℕ → Got → Ruling
ruling_of rules = first_of (rows rules)

-- what an entry with this word says by each row
abbrev pub consequence : Ruling → ℕ → Verdict
consequence ruling.Outside word = verdict.Outside
consequence ruling.Guest word = verdict.Guest
consequence ruling.Pointer word = verdict.Pointer word
consequence ruling.Leaf word = verdict.Leaf word
consequence ruling.Invalid word = verdict.Fault
consequence ruling.WriteOnly word = verdict.Fault
consequence ruling.Reserved word = verdict.Fault
consequence ruling.ReservedInPointer word = verdict.Fault
consequence ruling.LastLevel word = verdict.Fault
consequence ruling.Misaligned word = verdict.Fault
consequence ruling.NotUser word = verdict.Fault
consequence ruling.NotReadable word = verdict.Fault
consequence ruling.NotWritable word = verdict.Fault
consequence ruling.NotAccessed word = verdict.Fault
consequence ruling.NotDirty word = verdict.Fault

unfoldable pub verdict_of : EntryRules → Kind → ℕ → Got → Verdict
verdict_of rules kind level got = consequence (ruling_of rules kind level got) (word_of got)

abbrev pub is_pointer : Verdict → Bool
is_pointer verdict.Outside = false
is_pointer verdict.Guest = false
is_pointer verdict.Fault = false
is_pointer (verdict.Pointer word) = true
is_pointer (verdict.Leaf word) = false
