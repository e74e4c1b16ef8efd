-- What is copied out of a platform.
use Rattle.std.specs.Prelude.{ℕ, ◌≡◌, ◌+◌, Bool, true, false, List, [], ◌∷◌, length, take, drop, nat_le, Option, Some, None, is_some, if◌then◌else◌}
use Rattle.std.specs.Option.{unwrap_or}
use Rattle.iom_bits.specs.declared.causes.Kind.{Kind}
use Rattle.iom_bits.specs.declared.causes.Kind.TheVariants.{Read, Write}
use Rattle.iom_ddt.specs.declared.context.Context.{Context}
use Rattle.iom_nested.specs.declared.translation.Hit.{Hit}
use Rattle.iom_cache.specs.declared.key.Key.{Key}
use Rattle.iom_cache.specs.declared.place.Place.{Place}
use Rattle.iom_cache.specs.declared.place.Place.TheVariants.{Beyond, Empty, Live}
use Rattle.iom_c.specs.Faults.{no_disk, ok, outside}
use Rattle.iom_c.specs.declared.places.PagePlace.{PagePlace}
use Rattle.iom_c.specs.declared.places.ContextPlace.{ContextPlace}

-- bytes that there are all stand in the buffer, else the answer is that one is outside
abbrev pub Copied : Option (List ℕ) → ℕ → List ℕ → List ℕ → Type 0
Copied (Some found) told old new = (told ≡ ok) × (new ≡ found)
Copied None told old new = (told ≡ outside) × (new ≡ old)

-- what a read of registers would be answered; None: it isn't legal
abbrev pub ReadTold : Option ℕ → ℕ → ℕ → ℕ → Type 0
ReadTold (Some found) told old new = (told ≡ ok) × (new ≡ found)
ReadTold None told old new = (told ≡ outside) × (new ≡ old)

-- `count` bytes of a disk from an offset on; None: one of them is behind its end
abbrev pub part_of : List ℕ → ℕ → ℕ → Option (List ℕ)
part_of disk offset count = if nat_le (offset + count) (length disk) then Some (take count (drop offset disk)) else None

-- bytes of a disk, where there is one
abbrev pub DiskCopied : Option (List ℕ) → ℕ → ℕ → List ℕ → List ℕ → Type 0
DiskCopied (Some disk) offset told old new = Copied (part_of disk offset (length old)) told old new
DiskCopied None offset told old new = (told ≡ no_disk) × (new ≡ old)

-- how many bytes a disk has
abbrev pub SizeTold : Option (List ℕ) → ℕ → ℕ → ℕ → Type 0
SizeTold (Some disk) told old new = (told ≡ ok) × (new ≡ length disk)
SizeTold None told old new = (told ≡ no_disk) × (new ≡ old)

-- whether an entry stands at a place, nothing does, or it is beyond the last one
abbrev pub place_number : {K V : Type 0} → Place K V → ℕ
place_number (Live key value) = 0
place_number Empty = 1
place_number Beyond = 2

abbrev pub is_write : Kind → Bool
is_write Read = false
is_write Write = true

-- an entry of the translation cache; an id that it lacks is 0
abbrev pub page_of : Key → Hit → PagePlace
page_of key hit = record {
  page = key.page;
  frame = hit.frame;
  did = key.did;
  pscid = unwrap_or key.pscid 0;
  gscid = unwrap_or key.gscid 0;
  level = hit.level;
  has_pscid = is_some key.pscid;
  has_gscid = is_some key.gscid;
  is_write = is_write key.kind;
  is_global = hit.global;
  is_napot = hit.napot;
  reserved = 0 ∷ 0 ∷ [];
}

abbrev pub page_in : Place Key Hit → PagePlace → PagePlace
page_in (Live key hit) old = page_of key hit
page_in Empty old = old
page_in Beyond old = old

-- an entry of the context cache
abbrev pub context_of : ℕ → Context → ContextPlace
context_of did context = record {
  gppn = context.gppn;
  ppn = context.ppn;
  did = did;
  pscid = context.pscid;
  gscid = context.gscid;
  gmode = context.gmode;
  mode = context.mode;
  custom = context.custom;
  dtf = context.dtf;
  tav = context.tav;
  reserved = 0 ∷ 0 ∷ [];
}

abbrev pub context_in : Place ℕ Context → ContextPlace → ContextPlace
context_in (Live did context) old = context_of did context
context_in Empty old = old
context_in Beyond old = old
