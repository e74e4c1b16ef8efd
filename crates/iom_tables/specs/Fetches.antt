-- What a part says of memory is what memory has, where contexts have some format: the words at the physical address of an item of the
-- directory, of an entry of the second stage or of an interrupt file, and the one that an entry of the first stage was read at.
use Rattle.std.specs.Prelude.{ℕ, ◌≡◌, ◌≢◌, Option, Some, None}
use Rattle.iom_mem.specs.Memory.{Memory, word}
use Rattle.iom_ddt.specs.Formats.{words_in}
use Rattle.iom_ddt.specs.declared.formats.ContextFormat.{ContextFormat}
use Rattle.iom_ddt.specs.declared.met.Met.{Met}
use Rattle.iom_ddt.specs.declared.met.Met.TheVariants as met
use Rattle.iom_walk.specs.declared.source.Got.{Got}
use Rattle.iom_walk.specs.declared.source.Got.TheVariants as got
use Rattle.iom_nested.specs.Files.{file_word}
use Rattle.iom_nested.specs.Stages.{ram_got}
use Rattle.iom_tables.specs.declared.part.Part.{Part}
use Rattle.iom_tables.specs.declared.part.Part.TheVariants as part

abbrev pub IsItem : ContextFormat → Memory → Met → Type 0
IsItem format memory (met.Entry place entry) = entry ≡ word memory place
IsItem format memory (met.Leaf place words) = words ≡ words_in format memory place

-- an entry of the first stage; where its place leads nowhere, no word was read
abbrev pub IsGot : Memory → Got → Option ℕ → Type 0
IsGot memory read None = (word : ℕ) → read ≢ got.Word word
IsGot memory read (Some addr) = read ≡ ram_got memory addr

abbrev pub IsRead : ContextFormat → Memory → Part → Type 0
IsRead format memory (part.Ddtp mode root) = Unit {0}
IsRead format memory (part.Directory met) = IsItem format memory met
IsRead format memory (part.Wide what) = Unit {0}
IsRead format memory (part.First entry addr) = IsGot memory entry.got addr
IsRead format memory (part.Second guest entry) = entry.got ≡ ram_got memory entry.place
IsRead format memory (part.File guest place first) = first ≡ file_word memory place
IsRead format memory (part.End way) = Unit {0}
