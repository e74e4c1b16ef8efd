-- The accesses that a device asks a bus for, and the replies of a bus. Addresses are IOVAs: VIRTIO 1.2, "Reserved Feature Bits",
-- VIRTIO_F_ACCESS_PLATFORM. The limit of 64 bytes within one page is this model's.
use Rattle.std.specs.Prelude.{ℕ, ◌+◌, ◌%◌, ◌≤◌, Bool, true, false, List, [], length}
use Rattle.iom_virtq.specs.declared.access.Access.{Access}
use Rattle.iom_virtq.specs.declared.access.Access.TheVariants as access

-- a read of a number of bytes from an address on, or a write of these bytes from an address on
pub data Ask : Type 0 where
  Read : ℕ → ℕ → Ask
  Write : ℕ → List ℕ → Ask

-- the answer, and the bytes of a granted read
pub record BusReply : Type 0 where
  pub access : Access
  pub bytes : List ℕ

abbrev pub is_granted : Access → Bool
is_granted access.Ok = true
is_granted (access.Denied cause) = false
is_granted access.Outside = false

abbrev pub reply_of : Access → List ℕ → BusReply
reply_of access.Ok bytes = record { access = access.Ok; bytes = bytes }
reply_of (access.Denied cause) bytes = record { access = access.Denied cause; bytes = [] }
reply_of access.Outside bytes = record { access = access.Outside; bytes = [] }

-- 1 to 64 bytes within one page
pub record IsShort (iova count : ℕ) : Type 0 where
  pub some : 1 ≤ count
  pub few : count ≤ 64
  pub inside : iova % 4096 + count ≤ 4096

abbrev pub IsShortAsk : Ask → Type 0
IsShortAsk (Read iova count) = IsShort iova count
IsShortAsk (Write iova bytes) = IsShort iova (length bytes)
