-- A request has one way for each byte of its page, but for what a denial tells of the byte: RISC-V IOMMU Architecture 1.0, "Fault/Event-Queue",
-- CAUSE and iotval2.
use Rattle.std.specs.Prelude.{ℕ, ◌≡◌, ◌+◌, ◌*◌, ◌/◌, ◌%◌, ◌&&◌, Bool, true, false, not, List, Result, Ok, Err, if◌then◌else◌}
use Rattle.iom_bits.specs.Bits.{has_bit}
use Rattle.iom_bits.specs.declared.causes.Cause.{Cause}
use Rattle.iom_bits.specs.declared.causes.Cause.TheVariants as cause
use Rattle.iom_nested.specs.Faults.{without_low_bits}
use Rattle.iom_core.specs.Access.{address_on}
use Rattle.iom_core.specs.State.{State}
use Rattle.iom_core.specs.declared.access.Denial.{Denial}
use Rattle.iom_core.specs.declared.access.Request.{Request}
use Rattle.iom_core.specs.declared.way.Way.{Way as Led}
use Rattle.iom_core.specs.declared.way.Way.TheVariants.{Register as ByRegister, Context as ByContext, Walked, Denied}
use Rattle.iom_choices.specs.Settled.{EachUse}
use Rattle.iom_every.specs.Entries.{Entry}
use Rattle.iom_every.specs.Guards.{IsValid}
use Rattle.iom_every.specs.Uses.{Look}
use Rattle.iom_every.specs.Ways.{way_of}

abbrev pub AreOfOnePage : ℕ → ℕ → Type 0
AreOfOnePage iova other = iova / 4096 ≡ other / 4096

-- a guest page fault: cause 21 or 23
abbrev pub is_guest_fault : Cause → Bool
is_guest_fault (cause.Guest kind) = true
is_guest_fault (cause.Access kind) = false
is_guest_fault (cause.Page kind) = false
is_guest_fault cause.Off = false
is_guest_fault cause.DirAccess = false
is_guest_fault cause.DirInvalid = false
is_guest_fault cause.DirBad = false
is_guest_fault cause.TooWide = false
is_guest_fault cause.MsiAccess = false
is_guest_fault cause.MsiInvalid = false
is_guest_fault cause.MsiBad = false

-- It is one of the access itself: bit 0 of iotval2 marks an implicit access, that to an entry of the first stage.
abbrev pub is_of_access : Denial → Bool
is_of_access denial = is_guest_fault denial.cause && not (has_bit denial.iotval2 0)

-- in the page of this address, the one with the IOVA's offset
abbrev pub in_page : ℕ → ℕ → ℕ
in_page iova address = address / 4096 * 4096 + iova % 4096

-- The denial of an IOVA, by that of another byte of its page. A guest page fault of the access tells the byte's own guest-physical address, with
-- bits 1:0 cleared; each other one is the same for all bytes.
abbrev pub denied_at : ℕ → Denial → Denial
denied_at iova denial = if is_of_access denial then record denial { iotval2 = without_low_bits (in_page iova denial.iotval2) } else denial

-- the way of an IOVA, by that of another byte of its page
abbrev pub at_byte : ℕ → Led → Led
at_byte iova ByRegister = ByRegister
at_byte iova (ByContext context) = ByContext context
at_byte iova (Walked context hit) = Walked context hit
at_byte iova (Denied denial) = Denied (denied_at iova denial)

-- Where an IOVA goes, by where another byte of its page goes.
abbrev pub goes_at : ℕ → Result ℕ Denial → Result ℕ Denial
goes_at iova (Ok address) = Ok (in_page iova address)
goes_at iova (Err denial) = Err (denied_at iova denial)

-- a request of the same device and kind for another IOVA
abbrev pub for_iova : Request → ℕ → Request
for_iova request iova = record request { iova = iova }

-- The ways for two bytes of a page, over the same entries: valid ones, as all are that may be held.
abbrev pub OneWayAPage : Type 0
OneWayAPage =
    (state : State) (source : List (Look × Entry)) (request : Request) (other : ℕ) → AreOfOnePage request.iova other → EachUse IsValid source →
    (way_of state source request).led ≡ at_byte request.iova (way_of state source (for_iova request other)).led

-- so where they go
abbrev pub OneGoalAPage : Type 0
OneGoalAPage =
    (state : State) (source : List (Look × Entry)) (request : Request) (other : ℕ) → AreOfOnePage request.iova other → EachUse IsValid source →
    address_on (way_of state source request).led request.iova ≡ goes_at request.iova (address_on (way_of state source (for_iova request other)).led other)

-- and what is read in memory for them
abbrev pub SameReadsAPage : Type 0
SameReadsAPage =
    (state : State) (source : List (Look × Entry)) (request : Request) (other : ℕ) → AreOfOnePage request.iova other →
    (way_of state source request).reads ≡ (way_of state source (for_iova request other)).reads
