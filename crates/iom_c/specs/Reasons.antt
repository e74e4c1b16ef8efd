-- Where a request is led, by which parts of a walk, and whether it is stale, in C.
use Rattle.std.specs.Prelude.{ℕ, ◌≡◌, ◌⊎◌, ◌+◌, ◌==◌, ◌&&◌, Bool, true, false, List, [], ◌∷◌, get_or, Option, Some, None, is_some, Result, Ok, Err}
use Rattle.std.specs.Option.{unwrap_or}
use Rattle.iom_bits.specs.Bits.{has_bit}
use Rattle.iom_bits.specs.Causes.{cause_number}
use Rattle.iom_bits.specs.declared.causes.Kind.{Kind}
use Rattle.iom_bits.specs.declared.causes.Kind.TheVariants.{Read, Write}
use Rattle.iom_regs.specs.declared.views.Mode.{Mode}
use Rattle.iom_regs.specs.declared.views.Mode.TheVariants as mode
use Rattle.iom_ddt.specs.declared.context.Context.{Context}
use Rattle.iom_ddt.specs.declared.met.Met.{Met}
use Rattle.iom_ddt.specs.declared.met.Met.TheVariants as met
use Rattle.iom_walk.specs.declared.entry.Ruling.{Ruling}
use Rattle.iom_walk.specs.declared.entry.Ruling.TheVariants as ruling
use Rattle.iom_walk.specs.declared.listing.PathEntry.{PathEntry}
use Rattle.iom_walk.specs.declared.source.Got.{Got}
use Rattle.iom_walk.specs.declared.source.Got.TheVariants as got
use Rattle.iom_nested.specs.Files.{file_ruling}
use Rattle.iom_nested.specs.declared.files.FileRuling.{FileRuling}
use Rattle.iom_nested.specs.declared.files.FileRuling.TheVariants as file
use Rattle.iom_nested.specs.declared.translation.Hit.{Hit}
use Rattle.iom_cache.specs.declared.key.Key.{Key}
use Rattle.iom_cache.specs.declared.place.Place.{Place}
use Rattle.iom_cache.specs.declared.place.Place.TheVariants.{Beyond, Empty, Live}
use Rattle.iom_core.specs.State.{Machine}
use Rattle.iom_core.specs.declared.access.Denial.{Denial}
use Rattle.iom_core.specs.declared.access.Request.{Request}
use Rattle.iom_core.specs.Looking.{by_tables}
use Rattle.iom_tables.specs.Stale.{IsStale}
use Rattle.iom_tables.specs.Standing.{IsContextNow, IsHitNow, found_now, request_of}
use Rattle.iom_tables.specs.declared.part.Part.{Part}
use Rattle.iom_tables.specs.declared.part.Part.TheVariants as part
use Rattle.iom_tables.specs.declared.part.Wide.{Wide}
use Rattle.iom_tables.specs.declared.part.Wide.TheVariants as wide
use Rattle.iom_tables.specs.declared.standing.Located.{Located}
use Rattle.iom_tables.specs.declared.standing.Located.TheVariants as located
use Rattle.iom_core.specs.declared.way.Way.{Way}
use Rattle.iom_core.specs.declared.way.Way.TheVariants as way
use Rattle.iom_c.specs.Faults.{not_there, ok}
use Rattle.iom_c.specs.Looks.{context_of}
use Rattle.iom_c.specs.declared.places.ContextPlace.{ContextPlace}
use Rattle.iom_c.specs.declared.ways.LocatedContext.{LocatedContext}
use Rattle.iom_c.specs.declared.ways.RequestWay.{RequestWay}
use Rattle.iom_c.specs.declared.walks.WalkPart.{WalkPart}

-- what device `did` asks
abbrev pub kind_of : Bool → Kind
kind_of false = Read
kind_of true = Write

abbrev pub asking : ℕ → ℕ → Bool → Request
asking did iova is_write = record { did = did; iova = iova; kind = kind_of is_write }

-- no context
abbrev pub no_context : ContextPlace
no_context = record {
  gppn = 0;
  ppn = 0;
  did = 0;
  pscid = 0;
  gscid = 0;
  gmode = 0;
  mode = 0;
  custom = 0;
  dtf = false;
  tav = false;
  reserved = 0 ∷ 0 ∷ [];
}

-- a way with nothing but its kind
abbrev pub plain_way : ℕ → RequestWay
plain_way kind = record {
  context = no_context;
  frame = 0;
  iotval2 = 0;
  kind = kind;
  level = 0;
  cause = 0;
  is_global = false;
  is_reported = false;
  is_napot = false;
  reserved = 0 ∷ 0 ∷ [];
}

-- the way that a request of device `did` is led
abbrev pub way_of : ℕ → Way → RequestWay
way_of did way.Register = plain_way 0
way_of did (way.Context context) = record (plain_way 1) { context = context_of did context }
way_of did (way.Walked context hit) = record (plain_way 2) {
  context = context_of did context;
  frame = hit.frame;
  level = hit.level;
  is_global = hit.global;
  is_napot = hit.napot;
}
way_of did (way.Denied denial) = record (plain_way 3) {
  cause = cause_number denial.cause;
  iotval2 = denial.iotval2;
  is_reported = denial.reported;
}

-- the physical address that a request is led to, in place of what stood there; of one that is denied none is put
abbrev pub address_in : Result ℕ Denial → ℕ → ℕ
address_in (Ok addr) old = addr
address_in (Err denial) old = old

-- what ddtp and the directory say of device `did`
abbrev pub located_of : ℕ → Located → LocatedContext
located_of did located.NoDirectory = record { context = no_context; kind = 0; cause = 0; reserved = 0 ∷ 0 ∷ [] }
located_of did (located.Context context) = record { context = context_of did context; kind = 1; cause = 0; reserved = 0 ∷ 0 ∷ [] }
located_of did (located.Fault cause) = record { context = no_context; kind = 2; cause = cause_number cause; reserved = 0 ∷ 0 ∷ [] }

-- "Device-directory-table pointer": iommu_mode is 0 Off, 1 Bare, 2 to 4 for one to three levels
abbrev pub mode_number : Mode → ℕ
mode_number mode.Off = 0
mode_number mode.Bare = 1
mode_number (mode.Levels levels) = levels + 1

-- the number of the row that decides of an entry, in the order of `Ruling`
abbrev pub ruling_number : Ruling → ℕ
ruling_number ruling.Outside = 0
ruling_number ruling.Guest = 1
ruling_number ruling.Invalid = 2
ruling_number ruling.WriteOnly = 3
ruling_number ruling.Reserved = 4
ruling_number ruling.ReservedInPointer = 5
ruling_number ruling.LastLevel = 6
ruling_number ruling.Pointer = 7
ruling_number ruling.Misaligned = 8
ruling_number ruling.NotUser = 9
ruling_number ruling.NotReadable = 10
ruling_number ruling.NotWritable = 11
ruling_number ruling.NotAccessed = 12
ruling_number ruling.NotDirty = 13
ruling_number ruling.Leaf = 14

-- the number of the row that decides of an entry of an MSI page table, in the order of `FileRuling`
abbrev pub file_ruling_number : FileRuling → ℕ
file_ruling_number file.Outside = 15
file_ruling_number file.Invalid = 16
file_ruling_number file.Custom = 17
file_ruling_number file.BadMode = 18
file_ruling_number file.Resident = 19
file_ruling_number file.Reserved = 20
file_ruling_number file.Leads = 21

-- the word that was read of an entry, if one was
abbrev pub word_in : Got → Option ℕ
word_in (got.Word word) = Some word
word_in got.Outside = None
word_in got.Guest = None

-- an entry is a leaf that maps 64 KiB: one with N, bit 63 ("Svnapot")
abbrev pub is_napot_leaf : PathEntry → Bool
is_napot_leaf entry = ruling_number entry.ruling == 14 && has_bit (unwrap_or (word_in entry.got) 0) 63

-- a part with nothing but its kind
abbrev pub plain_part : ℕ → WalkPart
plain_part kind = record {
  place = 0;
  read_at = 0;
  guest = 0;
  word = 0;
  iohgatp = 0;
  ta = 0;
  fsc = 0;
  kind = kind;
  mode = 0;
  level = 0;
  ruling = 0;
  has_word = false;
  has_read_at = false;
  is_napot = false;
  way = plain_way 0;
  reserved = 0 ∷ 0 ∷ 0 ∷ 0 ∷ [];
}

abbrev pub no_words : List ℕ
no_words = 0 ∷ 0 ∷ 0 ∷ 0 ∷ []

-- an item of the directory
abbrev pub met_part : Met → WalkPart
met_part (met.Entry place word) = record (plain_part 1) { place = place; word = unwrap_or word 0; has_word = is_some word }
met_part (met.Leaf place words) = record (plain_part 2) {
  place = place;
  word = get_or (unwrap_or words no_words) 0 0;
  iohgatp = get_or (unwrap_or words no_words) 1 0;
  ta = get_or (unwrap_or words no_words) 2 0;
  fsc = get_or (unwrap_or words no_words) 3 0;
  has_word = is_some words;
}

-- an entry of a page table
abbrev pub entry_part : ℕ → PathEntry → WalkPart
entry_part kind entry = record (plain_part kind) {
  place = entry.place;
  word = unwrap_or (word_in entry.got) 0;
  level = entry.level;
  ruling = ruling_number entry.ruling;
  has_word = is_some (word_in entry.got);
  is_napot = is_napot_leaf entry;
}

-- what is too wide for a table: a device id, an IOVA, or a guest-physical address
abbrev pub wide_part : Wide → WalkPart
wide_part (wide.Directory did) = record (plain_part 6) { word = did; has_word = true }
wide_part (wide.First iova) = record (plain_part 7) { word = iova; has_word = true }
wide_part (wide.Second guest) = record (plain_part 8) { word = guest; has_word = true }

-- an entry of an MSI page table
abbrev pub file_part : ℕ → ℕ → Option ℕ → WalkPart
file_part guest place word = record (plain_part 9) {
  place = place;
  guest = guest;
  word = unwrap_or word 0;
  ruling = file_ruling_number (file_ruling word);
  has_word = is_some word;
}

-- a part of the walk of a request of device `did`
abbrev pub part_of : ℕ → Part → WalkPart
part_of did (part.Ddtp mode root) = record (plain_part 0) { mode = mode_number mode; word = root; has_word = true }
part_of did (part.Directory met) = met_part met
part_of did (part.Wide what) = wide_part what
part_of did (part.First entry addr) =
    record (entry_part 3 entry) { read_at = unwrap_or addr 0; has_read_at = is_some addr }
part_of did (part.Second guest entry) =
    record (entry_part 4 entry) { guest = guest; read_at = entry.place; has_read_at = true }
part_of did (part.File guest place word) = file_part guest place word
part_of did (part.End way) = record (plain_part 5) { way = way_of did way }

-- of a place that there are fewer, or of a request that no device has this id
abbrev pub beyond : ℕ
beyond = 2

-- the memory isn't the handle's own
abbrev pub standing_other_memory : ℕ
standing_other_memory = 4

-- a part there is, or none
abbrev pub PartTold : ℕ → Option Part → ℕ → WalkPart → WalkPart → Type 0
PartTold did (Some found) told old new = (told ≡ ok) × (new ≡ part_of did found)
PartTold did None told old new = (told ≡ not_there) × (new ≡ old)

-- whether a request is stale, and then the way that the tables say
abbrev pub StaleTold : Machine → Request → ℕ → RequestWay → RequestWay → Type 0
StaleTold m request told old new =
    ((told ≡ 0) × (¬ IsStale m request) × (new ≡ old))
    ⊎ ((told ≡ 3) × IsStale m request × (new ≡ way_of request.did (by_tables m request)))

-- of a place: whether it is beyond the last one, nothing stands there, the tables say what it holds, or say something else
abbrev pub StandingTold : {K V T : Type 0} → (K → V → Type 0) → (K → T) → Place K V → ℕ → T → T → Type 0
StandingTold IsSaid say Beyond told old new = (told ≡ 2) × (new ≡ old)
StandingTold IsSaid say Empty told old new = (told ≡ 1) × (new ≡ old)
StandingTold IsSaid say (Live key value) told old new =
    ((told ≡ 0) × IsSaid key value × (new ≡ old)) ⊎ ((told ≡ 3) × (¬ IsSaid key value) × (new ≡ say key))

-- a place of the translation cache, and the way of its key's request by the tables
abbrev pub PageStands : Machine → Place Key Hit → ℕ → RequestWay → RequestWay → Type 0
PageStands m place told old new =
    StandingTold (IsHitNow m) (λ key. way_of (request_of key).did (by_tables m (request_of key))) place told old new

-- a place of the context cache, and what ddtp and the directory say of its device
abbrev pub ContextStands : Machine → Place ℕ Context → ℕ → LocatedContext → LocatedContext → Type 0
ContextStands m place told old new =
    StandingTold (IsContextNow m) (λ did. located_of did (found_now m did)) place told old new
