-- What an entry is that an IOMMU may hold, with the ids by which a command names it: RISC-V IOMMU Architecture 1.0, "Caching in-memory data
-- structures".
use Rattle.std.specs.Prelude.{ℕ, ◌++◌, List, [], codes, Option, Some, None, if◌then◌else◌}
use Rattle.iom_bits.specs.Bits.{flag}
use Rattle.iom_text.specs.Texts.{numeral}
use Rattle.iom_items.specs.Lines.{operand}
use Rattle.iom_cache.specs.declared.key.Key.{Key}
use Rattle.iom_every.specs.Drops.{is_leaf}
use Rattle.iom_every.specs.Firsts.{first_page}
use Rattle.iom_every.specs.declared.entry.Entry.{Entry}
use Rattle.iom_every.specs.declared.entry.Entry.TheVariants.{Directory as OfDirectory, Device as OfDevice, First as OfFirst, Second as OfSecond, File as OfFile, Page as OfPage}
use Rattle.iom_every.specs.declared.entry.Held.{Held}

-- an id that an entry may have
abbrev pub id_text : List ℕ → Option ℕ → List ℕ
id_text key None = []
id_text key (Some id) = operand key id

unfoldable pub directory_text : ℕ → ℕ → List ℕ
directory_text level part = codes "an entry of the directory, level=" ++ numeral 10 level ++ operand (codes "did") part

unfoldable pub kind_text : Held → List ℕ
kind_text held = if is_leaf held then codes "a leaf" else codes "a pointer"

-- an entry of this stage, as `a leaf of the first stage, level=0 page=0x40201`
unfoldable pub held_text : List ℕ → Held → List ℕ
held_text stage held =
    kind_text held ++ codes " of the " ++ stage ++ codes " stage, level=" ++ numeral 10 held.level ++ operand (codes "page") (first_page held)

unfoldable pub key_text : Key → List ℕ
key_text key =
    codes "a whole translation," ++ operand (codes "page") key.page ++ operand (codes "did") key.did ++ id_text (codes "pscid") key.pscid
    ++ id_text (codes "gscid") key.gscid

unfoldable pub file_text : ℕ → ℕ → List ℕ
file_text gscid page = codes "an entry of an MSI page table," ++ operand (codes "page") page ++ operand (codes "gscid") gscid

-- What an entry is, with the ids by which a command names it.
unfoldable pub entry_text : Entry → List ℕ
entry_text (OfDirectory level part word) = directory_text level part
entry_text (OfDevice did said) = codes "a context," ++ operand (codes "did") did
entry_text (OfFirst gscid pscid held) = held_text (codes "first") held ++ operand (codes "pscid") pscid ++ operand (codes "global") (flag held.global)
entry_text (OfSecond gscid held) = held_text (codes "second") held ++ operand (codes "gscid") gscid
entry_text (OfFile gscid page word) = file_text gscid page
entry_text (OfPage key hit) = key_text key
