-- The words of the caches: each place, live or empty, the oldest first.
use Rattle.std.specs.Prelude.{ℕ, List, [], ◌∷◌, ◌++◌, length, Option, Some, None}
use Rattle.std.specs.List.{flat_map}
use Rattle.iom_bits.specs.Bits.{flag}
use Rattle.iom_bits.specs.declared.causes.Kind.{Kind}
use Rattle.iom_bits.specs.declared.causes.Kind.TheVariants.{Read, Write}
use Rattle.iom_ddt.specs.declared.context.Context.{Context}
use Rattle.iom_ddt.specs.declared.context.MsiTable.{MsiTable}
use Rattle.iom_nested.specs.declared.translation.Hit.{Hit}
use Rattle.iom_cache.specs.declared.key.Key.{Key}

-- the fields of an MSI page table
abbrev pub msi_words : MsiTable → List ℕ
msi_words msi = msi.ppn ∷ msi.mask ∷ msi.pattern ∷ flag msi.flat ∷ []

-- the fields of a context ("Device-context fields")
abbrev pub context_words : Context → List ℕ
context_words c = c.gppn ∷ c.ppn ∷ c.pscid ∷ c.gscid ∷ c.gmode ∷ c.mode ∷ c.custom ∷ flag c.dtf ∷ flag c.tav ∷ msi_words c.msi

-- a place: 0 if it is empty, else 1 and its entry
abbrev pub context_place_words : Option (ℕ × Context) → List ℕ
context_place_words None = 0 ∷ []
context_place_words (Some entry) = 1 ∷ entry.0 ∷ context_words entry.1

-- how many places there are, and these
abbrev pub contexts_words : List (Option (ℕ × Context)) → List ℕ
contexts_words places = length places ∷ flat_map context_place_words places

-- an id that there may be
abbrev pub id_words : Option ℕ → List ℕ
id_words None = 0 ∷ 0 ∷ []
id_words (Some id) = 1 ∷ id ∷ []

abbrev pub kind_word : Kind → ℕ
kind_word Read = 0
kind_word Write = 1

abbrev pub key_words : Key → List ℕ
key_words key = key.did ∷ key.page ∷ kind_word key.kind ∷ (id_words key.pscid ++ id_words key.gscid)

abbrev pub hit_words : Hit → List ℕ
hit_words hit = hit.frame ∷ hit.level ∷ flag hit.global ∷ flag hit.napot ∷ []

abbrev pub page_place_words : Option (Key × Hit) → List ℕ
page_place_words None = 0 ∷ []
page_place_words (Some entry) = 1 ∷ (key_words entry.0 ++ hit_words entry.1)

abbrev pub pages_words : List (Option (Key × Hit)) → List ℕ
pages_words places = length places ∷ flat_map page_place_words places
