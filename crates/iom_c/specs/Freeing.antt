-- Which entries that an IOMMU may hold name physical memory, in C: RISC-V IOMMU Architecture 1.0, "Caching in-memory data structures".
use Rattle.std.specs.Prelude.{ℕ, ◌≡◌, false, List, [], ◌∷◌, Option, Some, None, is_some}
use Rattle.std.specs.Option.{unwrap_or}
use Rattle.iom_nested.specs.declared.translation.Hit.{Hit}
use Rattle.iom_cache.specs.declared.key.Key.{Key}
use Rattle.iom_core.specs.State.{State}
use Rattle.iom_core.specs.declared.step.Step.{Step}
use Rattle.iom_every.specs.Drops.{is_leaf}
use Rattle.iom_every.specs.Firsts.{first_page}
use Rattle.iom_every.specs.declared.entry.Entry.{Entry}
use Rattle.iom_every.specs.declared.entry.Entry.TheVariants.{Directory as OfDirectory, Device as OfDevice, First as OfFirst, Second as OfSecond, File as OfFile, Page as OfPage}
use Rattle.iom_every.specs.declared.entry.Held.{Held}
use Rattle.iom_held.specs.declared.naming.Naming.{Naming}
use Rattle.iom_owed.specs.Holdings.{HoldingsView, Keeps}
use Rattle.iom_owed.specs.Naming.{AreNaming}
use Rattle.iom_owed.specs.Newest.{steps_of}
use Rattle.iom_c.specs.Faults.{named, not_kept, ok, out_of_memory}
use Rattle.iom_c.specs.Looks.{is_write}
use Rattle.iom_c.specs.declared.naming.MemoryNaming.{MemoryNaming}
use Rattle.iom_c.specs.declared.settling.Settling.{Settling}
use Rattle.iom_c.specs.declared.settling.Settling.TheVariants as settling

-- an entry of this kind, with 0 in all other fields
abbrev pub plain_naming : ℕ → MemoryNaming
plain_naming kind = record {
  count = 0;
  number = 0;
  unfenced = 0;
  page = 0;
  kind = kind;
  level = 0;
  did = 0;
  pscid = 0;
  gscid = 0;
  is_unfenced = false;
  has_pscid = false;
  has_gscid = false;
  is_leaf = false;
  is_global = false;
  is_write = false;
  reserved = 0 ∷ 0 ∷ 0 ∷ 0 ∷ [];
}

-- an entry of a stage
abbrev pub of_stage : ℕ → Held → MemoryNaming
of_stage kind held = record (plain_naming kind) { page = first_page held; level = held.level; is_leaf = is_leaf held }

-- the same with these ids, if it has them
abbrev pub with_ids : MemoryNaming → Option ℕ → Option ℕ → MemoryNaming
with_ids naming pscid gscid = record naming {
  pscid = unwrap_or pscid 0;
  gscid = unwrap_or gscid 0;
  has_pscid = is_some pscid;
  has_gscid = is_some gscid;
}

-- a whole translation
abbrev pub of_page : Key → Hit → MemoryNaming
of_page key hit = record (with_ids (plain_naming 4) key.pscid key.gscid) {
  page = key.page;
  level = hit.level;
  did = key.did;
  is_global = hit.global;
  is_write = is_write key.kind;
}

-- what an entry is
abbrev pub entry_of : Entry → MemoryNaming
entry_of (OfDirectory level part word) = record (plain_naming 0) { level = level; did = part }
entry_of (OfDevice did said) = record (plain_naming 1) { did = did }
entry_of (OfFirst gscid pscid held) = record (with_ids (of_stage 2 held) (Some pscid) gscid) { is_global = held.global }
entry_of (OfSecond gscid held) = with_ids (of_stage 3 held) None (Some gscid)
entry_of (OfFile gscid page word) = with_ids (record (plain_naming 5) { page = page }) None (Some gscid)
entry_of (OfPage key hit) = of_page key hit

-- how many there are, and the oldest: what it is, which step could read it, and which command names it
abbrev pub naming_of : Naming → MemoryNaming
naming_of found = record (entry_of found.first.entry) {
  count = found.count;
  number = found.first.number;
  unfenced = unwrap_or found.first.unfenced 0;
  is_unfenced = is_some found.first.unfenced;
}

-- these name a byte of the `len` ones from `addr` on, by each start and steps from it that the holdings go along with
abbrev pub AreNamingBy : HoldingsView → ℕ → ℕ → Option Naming → Type 0
AreNamingBy holdings addr len found =
    (state start : State) (taken : List (Step × ℕ)) → Keeps [] holdings state start taken → AreNaming [] holdings start (steps_of taken) addr len found

-- None: no entry names such a byte
abbrev pub NamingTold : Option Naming → ℕ → MemoryNaming → MemoryNaming → Type 0
NamingTold None told old new = (told ≡ ok) × (new ≡ old)
NamingTold (Some found) told old new = (told ≡ named) × (new ≡ naming_of found)

-- whether memory may be freed, where what any IOMMU may hold is kept and known
abbrev pub FreeTold : Settling → ℕ → ℕ → ℕ → MemoryNaming → MemoryNaming → Type 0
FreeTold settling.NotKept addr len told old new = (told ≡ not_kept) × (new ≡ old)
FreeTold (settling.Kept holdings) addr len told old new =
    (found : Option Naming) × AreNamingBy holdings addr len found × NamingTold found told old new
FreeTold settling.Lost addr len told old new = (told ≡ out_of_memory) × (new ≡ old)
