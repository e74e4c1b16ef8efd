-- The texts of the parts of a walk. Their names are those of the standards' terms.
use Rattle.std.specs.Prelude.{ℕ, ◌+◌, ◌*◌, ◌++◌, List, [], ◌∷◌, codes, slice_get, Option, Some, None, Result}
use Rattle.iom_text.specs.Texts.{hexadecimal, numeral}
use Rattle.iom_bits.specs.Features.{Features}
use Rattle.iom_mem.specs.Memory.{Memory}
use Rattle.iom_regs.specs.declared.views.Mode.{Mode}
use Rattle.iom_regs.specs.declared.views.Mode.TheVariants as mode
use Rattle.iom_ddt.specs.declared.met.Met.{Met}
use Rattle.iom_ddt.specs.declared.met.Met.TheVariants as met
use Rattle.iom_ddt.specs.declared.refusal.DirectoryWord.{DirectoryWord}
use Rattle.iom_ddt.specs.declared.refusal.DirectoryWord.TheVariants as the
use Rattle.iom_ddt.specs.declared.refusal.Refusal.{Refusal}
use Rattle.iom_ddt.specs.declared.refusal.Refusal.TheVariants as refusal
use Rattle.iom_ddt.specs.Refusals.{why_refused}
use Rattle.iom_walk.specs.declared.entry.Ruling.{Ruling}
use Rattle.iom_walk.specs.declared.entry.Ruling.TheVariants as ruling
use Rattle.iom_walk.specs.declared.listing.PathEntry.{PathEntry}
use Rattle.iom_walk.specs.declared.source.Got.{Got}
use Rattle.iom_walk.specs.declared.source.Got.TheVariants as got
use Rattle.iom_nested.specs.Files.{entry_frame, word_ruling}
use Rattle.iom_nested.specs.declared.files.FileRuling.{FileRuling}
use Rattle.iom_nested.specs.declared.files.FileRuling.TheVariants as file
use Rattle.iom_core.specs.Access.{address_on}
use Rattle.iom_core.specs.State.{Machine}
use Rattle.iom_core.specs.declared.access.Denial.{Denial}
use Rattle.iom_core.specs.declared.access.Request.{Request}
use Rattle.iom_tables.specs.Parts.{parts_of}
use Rattle.iom_tables.specs.declared.part.Part.{Part}
use Rattle.iom_tables.specs.declared.part.Part.TheVariants as part
use Rattle.iom_tables.specs.declared.part.Wide.{Wide}
use Rattle.iom_tables.specs.declared.part.Wide.TheVariants as wide
use Rattle.iom_core.specs.declared.way.Way.{Way}
use Rattle.iom_core.specs.declared.way.Way.TheVariants as way
use Rattle.iom_ddt.specs.declared.formats.ContextFormat.{ContextFormat}
use Rattle.iom_items.specs.Lines.{line_of, operand}
use Rattle.iom_items.specs.declared.item.Item.TheVariants as item
use Rattle.iom_tool.specs.Debugger.{shown_text}
use Rattle.iom_debug.specs.Ways.{address_text}

-- "Device-directory-table pointer": iommu_mode is 0 Off, 1 Bare, 2 to 4 for one to three levels
abbrev pub mode_number : Mode → ℕ
mode_number mode.Off = 0
mode_number mode.Bare = 1
mode_number (mode.Levels levels) = levels + 1

-- the word of a context that has reserved bits
unfoldable pub word_text : DirectoryWord → List ℕ
word_text the.Entry = []
word_text the.Tc = codes " of tc"
word_text the.Ta = codes " of ta"
word_text the.Fsc = codes " of fsc"
word_text the.Msiptp = codes " of msiptp"
word_text the.MsiAddrMask = codes " of mask"
word_text the.MsiAddrPattern = codes " of pattern"
word_text the.Last = codes " of word 7"

-- the row of the directory's checks that refuses; the line of what is outside memory says so already
unfoldable pub refusal_text : Refusal → List ℕ
refusal_text refusal.Outside = []
refusal_text refusal.Invalid = codes " V=0"
refusal_text (refusal.Reserved which high low) =
    codes " reserved bits " ++ numeral 10 high ++ codes ":" ++ numeral 10 low ++ word_text which
refusal_text (refusal.Mode mode) = codes " mode " ++ numeral 10 mode
refusal_text (refusal.SecondMode mode) = codes " gmode " ++ numeral 10 mode
refusal_text (refusal.MsiMode mode) = codes " msimode " ++ numeral 10 mode
refusal_text refusal.Misaligned = codes " gppn not aligned"

abbrev pub why_text : Option Refusal → List ℕ
why_text None = []
why_text (Some why) = refusal_text why

-- an item of the directory, with the line that what stands there has on an IOMMU with these features
abbrev pub item_text : Memory → Features → Met → List ℕ
item_text memory features (met.Entry place word) =
    codes "dir" ++ operand (codes "at") place ++ codes " " ++ shown_text memory features item.Dir place
item_text memory features (met.Leaf place words) =
    codes "context" ++ operand (codes "at") place ++ codes " " ++ shown_text memory features item.Context place

-- with the reason why the directory refuses it, if it does
unfoldable pub met_text : Memory → Features → Met → List ℕ
met_text memory features met = item_text memory features met ++ why_text (why_refused features met)

-- the row of the table of entries that decides
unfoldable pub row_text : Ruling → List ℕ
row_text ruling.Outside = codes " outside memory"
row_text ruling.Guest = codes " guest fault"
row_text ruling.Invalid = codes " V=0"
row_text ruling.WriteOnly = codes " R=0 W=1"
row_text ruling.Reserved = codes " reserved bits"
row_text ruling.ReservedInPointer = codes " reserved in pointer"
row_text ruling.LastLevel = codes " last level"
row_text ruling.Pointer = codes " pointer"
row_text ruling.Misaligned = codes " misaligned"
row_text ruling.NotUser = codes " U"
row_text ruling.NotReadable = codes " R"
row_text ruling.NotWritable = codes " W"
row_text ruling.NotAccessed = codes " A"
row_text ruling.NotDirty = codes " D"
row_text ruling.Leaf = codes " leaf"

-- the line of an entry that was read
unfoldable pub got_text : Got → List ℕ
got_text (got.Word word) = codes " " ++ line_of ContextFormat.Base item.Pte (word ∷ [])
got_text got.Outside = []
got_text got.Guest = []

-- the physical address that an entry of the first stage was read at
abbrev pub in_text : Option ℕ → List ℕ
in_text None = codes " in=-"
in_text (Some addr) = operand (codes "in") addr

unfoldable pub first_text : PathEntry → Option ℕ → List ℕ
first_text entry addr =
    codes "first" ++ operand (codes "level") entry.level ++ operand (codes "at") entry.place ++ in_text addr
    ++ got_text entry.got ++ row_text entry.ruling

unfoldable pub second_text : ℕ → PathEntry → List ℕ
second_text guest entry =
    codes "second" ++ operand (codes "of") guest ++ operand (codes "level") entry.level
    ++ operand (codes "at") entry.place ++ got_text entry.got ++ row_text entry.ruling

-- the row of the table of MSI entries that decides of one with this first word
unfoldable pub file_row_text : ℕ → FileRuling → List ℕ
file_row_text word file.Outside = codes " outside memory"
file_row_text word file.Invalid = codes " V=0"
file_row_text word file.Custom = codes " for custom use, C=1"
file_row_text word file.BadMode = codes " reserved mode, M=0 or M=2"
file_row_text word file.Resident = codes " memory-resident interrupt file, M=1"
file_row_text word file.Reserved = codes " reserved bit set"
file_row_text word file.Leads = codes " leads to " ++ hexadecimal (entry_frame word * 4096)

unfoldable pub file_word_text : Option ℕ → List ℕ
file_word_text None = file_row_text 0 file.Outside
file_word_text (Some word) = codes " u64 " ++ hexadecimal word ++ file_row_text word (word_ruling word)

-- the entry of an interrupt file
unfoldable pub file_text : ℕ → ℕ → Option ℕ → List ℕ
file_text guest place word = codes "msi" ++ operand (codes "of") guest ++ operand (codes "at") place ++ file_word_text word

-- what is too wide for the directory or for a stage
unfoldable pub wide_text : Wide → List ℕ
wide_text (wide.Directory did) = codes "dir" ++ operand (codes "did") did ++ codes " width"
wide_text (wide.First iova) = codes "first" ++ operand (codes "iova") iova ++ codes " width"
wide_text (wide.Second guest) = codes "second" ++ operand (codes "guest") guest ++ codes " width"

-- where the walk ends, with the physical address or the denial
unfoldable pub end_text : Way → Result ℕ Denial → List ℕ
end_text way.Register addr = codes "register " ++ address_text addr
end_text (way.Context context) addr = codes "context " ++ address_text addr
end_text (way.Walked context hit) addr = codes "frame=" ++ hexadecimal hit.frame ++ codes " " ++ address_text addr
end_text (way.Denied denial) addr = address_text addr ++ operand (codes "iotval2") denial.iotval2

abbrev pub part_text : Machine → Request → Part → List ℕ
part_text m request (part.Ddtp mode root) =
    codes "ddtp" ++ operand (codes "mode") (mode_number mode) ++ operand (codes "root") root
part_text m request (part.Directory met) = met_text m.memory m.registers.features met
part_text m request (part.Wide what) = wide_text what
part_text m request (part.First entry addr) = first_text entry addr
part_text m request (part.Second guest entry) = second_text guest entry
part_text m request (part.File guest place word) = file_text guest place word
part_text m request (part.End way) = end_text way (address_on way request.iova)

-- it isn't the end of its walk
abbrev pub IsBeforeEnd : Part → Type 0
IsBeforeEnd (part.Ddtp mode root) = Unit {0}
IsBeforeEnd (part.Directory met) = Unit {0}
IsBeforeEnd (part.Wide what) = Unit {0}
IsBeforeEnd (part.First entry addr) = Unit {0}
IsBeforeEnd (part.Second guest entry) = Unit {0}
IsBeforeEnd (part.File guest place word) = Unit {0}
IsBeforeEnd (part.End way) = ⊥

-- part i of the walk of a request
abbrev pub some_part_text : Machine → Request → Option Part → List ℕ
some_part_text m request None = codes "none"
some_part_text m request (Some part) = part_text m request part

unfoldable pub walk_text : Machine → Request → ℕ → List ℕ
walk_text m request i = some_part_text m request (slice_get (parts_of m request) i)
