-- Which entries a command drops: RISC-V IOMMU Architecture 1.0, "IOTINVAL" and "IODIR".
use Rattle.std.specs.Prelude.{ℕ, ◌+◌, ◌*◌, ◌/◌, ◌^◌, ◌==◌, ◌&&◌, Bool, true, false, not, Option, Some, None, nat_le, if◌then◌else◌}
use Rattle.std.specs.Int.{trailing_ones, w64}
use Rattle.std.specs.Option.{is_some, is_none}
use Rattle.iom_ddt.specs.declared.context.Context.{Context}
use Rattle.iom_nested.specs.declared.translation.Hit.{Hit}
use Rattle.iom_queue.specs.declared.command.Command.{Command}
use Rattle.iom_queue.specs.declared.command.Command.TheVariants.{Vma, Gvma, Fence, Iodir}
use Rattle.iom_cache.specs.declared.key.Key.{Key}

-- there is an id, and it is this one
abbrev pub has_id : ℕ → Option ℕ → Bool
has_id id None = false
has_id id (Some own) = own == id

-- VMA, with GV 0: entries of no guest; with GV 1: those of this guest
abbrev pub vma_guest : Bool → ℕ → Option ℕ → Bool
vma_guest false gscid own = is_none own
vma_guest true gscid own = has_id gscid own

-- VMA, with PSCV 1: those of this process alone, and no global ones
abbrev pub vma_process : Bool → ℕ → Option ℕ → Bool → Bool
vma_process false pscid own global = true
vma_process true pscid own global = has_id pscid own && not global

-- a range of pages: the 2 ^ width of them, aligned, around this one. Two ranges have a page in common exactly where their pages'
-- numbers are equal above the wider one
abbrev pub larger : ℕ → ℕ → ℕ
larger m n = if nat_le m n then n else m

abbrev pub meets : ℕ → ℕ → ℕ → ℕ → Bool
meets page width own own_width = own / 2 ^ larger width own_width == page / 2 ^ larger width own_width

-- the range that a command's address stands for: with S 1 the lowest 0 of the page's number and all bits below it are left out
abbrev pub range_width : Bool → ℕ → ℕ
range_width false page = 0
range_width true page = trailing_ones w64 page + 1

-- the range that the leaf of an entry's first stage maps: a page, a superpage, or with N the 16 pages of 64 KiB ("Svnapot")
abbrev pub leaf_width : Hit → ℕ
leaf_width hit = if hit.napot then 4 else 9 * hit.level

-- VMA, with AV 1: those alone whose leaf maps a page of the command's range
abbrev pub vma_page : Bool → Bool → ℕ → ℕ → ℕ → Bool
vma_page false s page own width = true
vma_page true s page own width = meets page (range_width s page) own width

-- GVMA, with GV 0: entries of any guest; with GV 1: those of this guest. An entry doesn't keep the guest-physical address
-- of its page, so what AV says changes nothing
abbrev pub gvma_guest : Bool → ℕ → Option ℕ → Bool
gvma_guest false gscid own = is_some own
gvma_guest true gscid own = has_id gscid own

-- IODIR, with DV 0: every context; with DV 1: that of this device
abbrev pub iodir_device : Bool → ℕ → ℕ → Bool
iodir_device false did own = true
iodir_device true did own = own == did

-- does the command drop the translation. NL asks for entries that aren't leaves too, and none of those is cached
unfoldable pub drops_page : Command → Key → Hit → Bool
drops_page (Vma av page pscv pscid gv gscid nl s) key hit =
    vma_guest gv gscid key.gscid && vma_process pscv pscid key.pscid hit.global && vma_page av s page key.page (leaf_width hit)
drops_page (Gvma av page pscid gv gscid nl s) key hit = gvma_guest gv gscid key.gscid
drops_page (Fence av wsi pr pw value addr) key hit = false
drops_page (Iodir dv did) key hit = false

-- does the command drop the context of a device
unfoldable pub drops_device : Command → ℕ → Bool
drops_device (Vma av page pscv pscid gv gscid nl s) own = false
drops_device (Gvma av page pscid gv gscid nl s) own = false
drops_device (Fence av wsi pr pw value addr) own = false
drops_device (Iodir dv did) own = iodir_device dv did own

-- does the command drop this entry of the context cache; the context itself doesn't matter
abbrev pub drops_context : Command → ℕ → Context → Bool
drops_context command own context = drops_device command own
