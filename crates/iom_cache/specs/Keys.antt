-- What an entry of a cache is found by: RISC-V IOMMU Architecture 1.0, "Caching in-memory data structures".
use Rattle.std.specs.Prelude.{ℕ, ◌/◌, ◌==◌, ◌&&◌, Bool, true, false, Option, Some, None, if◌then◌else◌}
use Rattle.iom_bits.specs.declared.causes.Kind.{Kind}
use Rattle.iom_bits.specs.declared.causes.Kind.TheVariants.{Read, Write}
use Rattle.iom_ddt.specs.declared.context.Context.{Context}
use Rattle.iom_cache.specs.declared.key.Key.{Key}

-- the process, where there is a first stage
abbrev pub pscid_of : Context → Option ℕ
pscid_of context = if context.mode == 0 then None else Some context.pscid

-- the guest, where there is a second stage
abbrev pub gscid_of : Context → Option ℕ
gscid_of context = if context.gmode == 0 then None else Some context.gscid

-- the key of a device's access to an IOVA under a context
unfoldable pub key_of : Context → ℕ → ℕ → Kind → Key
key_of context did iova kind =
    record { did = did; pscid = pscid_of context; gscid = gscid_of context; page = iova / 4096; kind = kind }

-- equal ids, or none twice
abbrev pub same_id : Option ℕ → Option ℕ → Bool
same_id None None = true
same_id None (Some own) = false
same_id (Some id) None = false
same_id (Some id) (Some own) = id == own

abbrev pub same_kind : Kind → Kind → Bool
same_kind Read Read = true
same_kind Read Write = false
same_kind Write Read = false
same_kind Write Write = true

-- the key looked for, and an entry's own
abbrev pub same_key : Key → Key → Bool
same_key key own =
    key.did == own.did && same_id key.pscid own.pscid && same_id key.gscid own.gscid && key.page == own.page
    && same_kind key.kind own.kind

-- a context's key is its device's id
abbrev pub same_did : ℕ → ℕ → Bool
same_did did own = did == own
